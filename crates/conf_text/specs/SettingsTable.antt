-- The settings of `[relay]`: each row names a setting, its default and its rule, and the order of the checks is that of the rows.
use Rattle.std.specs.Prelude.{◌≡◌, ℕ, ◌≤◌, Bool, false, List, length, Result, Ok, codes}
use Rattle.conf_text.specs.declared.setting.Setting.TheVariants.{Destinations, RelayMethod, ReplicationFactor, DiverseReplicas, MaxQueueSize, MaxDatapointsPerMessage, UseFlowControl, DestinationProtocol, LineReceiverInterface, LineReceiverPort, PickleReceiverInterface, PickleReceiverPort, EnableUdpListener, UdpReceiverInterface, UdpReceiverPort}
use Rattle.conf_text.specs.declared.setting.SettingFault.{SettingFault}
use Rattle.conf_text.specs.declared.method.RelayMethod.{RelayMethod as Method}
use Rattle.conf_text.specs.declared.protocol.DestinationProtocol.{DestinationProtocol as Protocol}
use Rattle.conf_text.specs.Sections.{SectionText}
use Rattle.conf_text.specs.Destination.{Destination}
use Rattle.conf_text.specs.SettingRules.{◌>>=◌, value_or_default, required_value, any_text, number_in, truth_word, method_name, flow_control, protocol_name, destination_list, check_distinct}

-- where datapoints go
pub record RoutingValues : Type 0 where
  pub destinations : List Destination
  pub relay_method : Method
  pub replication_factor : ℕ
  pub diverse_replicas : Bool

-- 1 to 64 destinations, and a factor of 1 to 64
pub record IsRoutingInRange (r : RoutingValues) : Type 0 where
  pub least_count : 1 ≤ length r.destinations
  pub greatest_count : length r.destinations ≤ 64
  pub least_factor : 1 ≤ r.replication_factor
  pub greatest_factor : r.replication_factor ≤ 64

unfoldable pub routing_of : List SectionText → Result RoutingValues SettingFault
routing_of ini = do
  destinations ← required_value ini Destinations destination_list
  relay_method ← value_or_default ini RelayMethod (codes "rules") method_name
  distinct ← check_distinct relay_method destinations RelayMethod
  replication_factor ←
      value_or_default ini ReplicationFactor (codes "1") (number_in 1 64)
  diverse_replicas ← value_or_default ini DiverseReplicas (codes "false") truth_word
  Ok (record {
    destinations = destinations;
    relay_method = relay_method;
    replication_factor = replication_factor;
    diverse_replicas = diverse_replicas;
  })

-- how datapoints are queued and written
pub record SendingValues : Type 0 where
  pub max_queue_size : ℕ
  pub max_datapoints_per_message : ℕ
  pub use_flow_control : Bool
  pub destination_protocol : Protocol

-- a queue of 1 to 1,000,000 datapoints and a batch of 1 to 10,000, without flow control
pub record IsSendingInRange (s : SendingValues) : Type 0 where
  pub least_queue : 1 ≤ s.max_queue_size
  pub greatest_queue : s.max_queue_size ≤ 1000000
  pub least_message : 1 ≤ s.max_datapoints_per_message
  pub greatest_message : s.max_datapoints_per_message ≤ 10000
  pub no_flow_control : s.use_flow_control ≡ false

unfoldable pub sending_of : List SectionText → Result SendingValues SettingFault
sending_of ini = do
  max_queue_size ←
      value_or_default ini MaxQueueSize (codes "10000") (number_in 1 1000000)
  max_datapoints_per_message ←
      value_or_default ini MaxDatapointsPerMessage (codes "500") (number_in 1 10000)
  use_flow_control ← required_value ini UseFlowControl flow_control
  destination_protocol ← required_value ini DestinationProtocol protocol_name
  Ok (record {
    max_queue_size = max_queue_size;
    max_datapoints_per_message = max_datapoints_per_message;
    use_flow_control = use_flow_control;
    destination_protocol = destination_protocol;
  })

-- where datapoints come from
pub record ReceivingValues : Type 0 where
  pub line_receiver_interface : List ℕ
  pub line_receiver_port : ℕ
  pub pickle_receiver_interface : List ℕ
  pub pickle_receiver_port : ℕ
  pub enable_udp_listener : Bool
  pub udp_receiver_interface : List ℕ
  pub udp_receiver_port : ℕ

unfoldable pub receiving_of : List SectionText → Result ReceivingValues SettingFault
receiving_of ini = do
  line_receiver_interface ← value_or_default ini LineReceiverInterface (codes "0.0.0.0") any_text
  line_receiver_port ←
      value_or_default ini LineReceiverPort (codes "2013") (number_in 0 65535)
  pickle_receiver_interface ←
      value_or_default ini PickleReceiverInterface (codes "0.0.0.0") any_text
  pickle_receiver_port ←
      value_or_default ini PickleReceiverPort (codes "2014") (number_in 0 65535)
  enable_udp_listener ← value_or_default ini EnableUdpListener (codes "false") truth_word
  udp_receiver_interface ← value_or_default ini UdpReceiverInterface (codes "0.0.0.0") any_text
  udp_receiver_port ← value_or_default ini UdpReceiverPort (codes "2013") (number_in 0 65535)
  Ok (record {
    line_receiver_interface = line_receiver_interface;
    line_receiver_port = line_receiver_port;
    pickle_receiver_interface = pickle_receiver_interface;
    pickle_receiver_port = pickle_receiver_port;
    enable_udp_listener = enable_udp_listener;
    udp_receiver_interface = udp_receiver_interface;
    udp_receiver_port = udp_receiver_port;
  })

-- all settings
pub record SettingValues : Type 0 where
  pub routing : RoutingValues
  pub sending : SendingValues
  pub receiving : ReceivingValues

-- the settings of a configuration file, or the first fault
unfoldable pub settings_of : List SectionText → Result SettingValues SettingFault
settings_of ini = do
  routing ← routing_of ini
  sending ← sending_of ini
  receiving ← receiving_of ini
  Ok (record { routing = routing; sending = sending; receiving = receiving })
