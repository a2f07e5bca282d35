-- The settings of `[relay]` by name.
use Rattle.std.specs.Prelude.{ℕ, List, codes}
use Rattle.conf_text.specs.declared.setting.Setting.{Setting}
use Rattle.conf_text.specs.declared.setting.Setting.TheVariants.{Destinations, RelayMethod, ReplicationFactor, DiverseReplicas, MaxQueueSize, MaxDatapointsPerMessage, UseFlowControl, DestinationProtocol, LineReceiverInterface, LineReceiverPort, PickleReceiverInterface, PickleReceiverPort, EnableUdpListener, UdpReceiverInterface, UdpReceiverPort}

-- a setting's key
abbrev pub setting_name : Setting → List ℕ
setting_name Destinations = codes "DESTINATIONS"
setting_name RelayMethod = codes "RELAY_METHOD"
setting_name ReplicationFactor = codes "REPLICATION_FACTOR"
setting_name DiverseReplicas = codes "DIVERSE_REPLICAS"
setting_name MaxQueueSize = codes "MAX_QUEUE_SIZE"
setting_name MaxDatapointsPerMessage = codes "MAX_DATAPOINTS_PER_MESSAGE"
setting_name UseFlowControl = codes "USE_FLOW_CONTROL"
setting_name DestinationProtocol = codes "DESTINATION_PROTOCOL"
setting_name LineReceiverInterface = codes "LINE_RECEIVER_INTERFACE"
setting_name LineReceiverPort = codes "LINE_RECEIVER_PORT"
setting_name PickleReceiverInterface = codes "PICKLE_RECEIVER_INTERFACE"
setting_name PickleReceiverPort = codes "PICKLE_RECEIVER_PORT"
setting_name EnableUdpListener = codes "ENABLE_UDP_LISTENER"
setting_name UdpReceiverInterface = codes "UDP_RECEIVER_INTERFACE"
setting_name UdpReceiverPort = codes "UDP_RECEIVER_PORT"
