-- The rows of the settings one by one, in the order of the table.
use Rattle.std.specs.Prelude.{◌≡◌, ℕ, ◌<◌, List, Option, Some, None, Result, Ok, Err, codes}
use Rattle.conf_text.specs.declared.setting.Setting.{Setting}
use Rattle.conf_text.specs.declared.setting.Setting.TheVariants.{Destinations, RelayMethod, ReplicationFactor, DiverseReplicas, MaxQueueSize, MaxDatapointsPerMessage, UseFlowControl, DestinationProtocol, LineReceiverInterface, LineReceiverPort, PickleReceiverInterface, PickleReceiverPort, EnableUdpListener, UdpReceiverInterface, UdpReceiverPort}
use Rattle.conf_text.specs.declared.setting.SettingFault.{SettingFault}
use Rattle.conf_text.specs.declared.setting.SettingFault.TheVariants as fault
use Rattle.conf_text.specs.Sections.{SectionText}
use Rattle.conf_text.specs.SettingRules.{◌>>=◌, value_or_default, required_value, any_text, number_in, truth_word, method_name, flow_control, protocol_name, destination_list, check_distinct}

-- the place of a setting in the table, from 0
abbrev pub row_of : Setting → ℕ
row_of Destinations = 0
row_of RelayMethod = 1
row_of ReplicationFactor = 2
row_of DiverseReplicas = 3
row_of MaxQueueSize = 4
row_of MaxDatapointsPerMessage = 5
row_of UseFlowControl = 6
row_of DestinationProtocol = 7
row_of LineReceiverInterface = 8
row_of LineReceiverPort = 9
row_of PickleReceiverInterface = 10
row_of PickleReceiverPort = 11
row_of EnableUdpListener = 12
row_of UdpReceiverInterface = 13
row_of UdpReceiverPort = 14

-- the setting that a fault names
abbrev pub setting_of_fault : SettingFault → Option Setting
setting_of_fault (fault.Missing setting) = Some setting
setting_of_fault (fault.BadNumber setting) = Some setting
setting_of_fault (fault.BadTruth setting) = Some setting
setting_of_fault (fault.BadDestination setting) = Some setting
setting_of_fault (fault.DuplicateDestination setting) = Some setting
setting_of_fault (fault.FlowControl setting) = Some setting
setting_of_fault (fault.Protocol setting) = Some setting
setting_of_fault (fault.Method setting) = Some setting
setting_of_fault (fault.TooMany setting) = Some setting
setting_of_fault fault.NoMemory = None

-- a reading without its value
abbrev pub verdict : {V : Type 0} → Result V SettingFault → Result (Unit {0}) SettingFault
verdict (Ok value) = Ok tt
verdict (Err fault) = Err fault

-- what is wrong with a setting, in a file in which the settings that it is compared with are good
abbrev pub verdict_on : List SectionText → Setting → Result (Unit {0}) SettingFault
verdict_on ini Destinations = verdict (required_value ini Destinations destination_list)
verdict_on ini RelayMethod = do
  destinations ← required_value ini Destinations destination_list
  method ← value_or_default ini RelayMethod (codes "rules") method_name
  check_distinct method destinations RelayMethod
verdict_on ini ReplicationFactor =
    verdict (value_or_default ini ReplicationFactor (codes "1") (number_in 1 64))
verdict_on ini DiverseReplicas =
    verdict (value_or_default ini DiverseReplicas (codes "false") truth_word)
verdict_on ini MaxQueueSize =
    verdict (value_or_default ini MaxQueueSize (codes "10000") (number_in 1 1000000))
verdict_on ini MaxDatapointsPerMessage =
    verdict
    (value_or_default ini MaxDatapointsPerMessage (codes "500") (number_in 1 10000))
verdict_on ini UseFlowControl = verdict (required_value ini UseFlowControl flow_control)
verdict_on ini DestinationProtocol = verdict (required_value ini DestinationProtocol protocol_name)
verdict_on ini LineReceiverInterface =
    verdict (value_or_default ini LineReceiverInterface (codes "0.0.0.0") any_text)
verdict_on ini LineReceiverPort =
    verdict (value_or_default ini LineReceiverPort (codes "2013") (number_in 0 65535))
verdict_on ini PickleReceiverInterface =
    verdict (value_or_default ini PickleReceiverInterface (codes "0.0.0.0") any_text)
verdict_on ini PickleReceiverPort =
    verdict (value_or_default ini PickleReceiverPort (codes "2014") (number_in 0 65535))
verdict_on ini EnableUdpListener =
    verdict (value_or_default ini EnableUdpListener (codes "false") truth_word)
verdict_on ini UdpReceiverInterface =
    verdict (value_or_default ini UdpReceiverInterface (codes "0.0.0.0") any_text)
verdict_on ini UdpReceiverPort =
    verdict (value_or_default ini UdpReceiverPort (codes "2013") (number_in 0 65535))

-- a setting's row has no fault
abbrev pub IsGood : List SectionText → Setting → Type 0
IsGood ini setting = verdict_on ini setting ≡ Ok tt

-- a fault is that of the setting that it names, and each setting before that in the table is good
pub record IsFirstFault (ini : List SectionText) (fault : SettingFault) : Type 0 where
  pub setting : Setting
  pub names_it : setting_of_fault fault ≡ Some setting
  pub is_its_own : verdict_on ini setting ≡ Err fault
  pub good_before : (before : Setting) → row_of before < row_of setting → IsGood ini before
