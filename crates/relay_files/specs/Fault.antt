-- How a run ends: the status of the process, and the fault.
use Rattle.std.specs.Prelude.{ℕ, List, codes, Result, Ok, Err}
use Rattle.relay_files.specs.declared.fault.Status.{Status}
use Rattle.relay_files.specs.declared.fault.Status.TheVariants as status
use Rattle.relay_files.specs.declared.fault.RelayFault.{RelayFault}
use Rattle.relay_files.specs.declared.fault.RelayFault.TheVariants as relay
use Rattle.relay_files.specs.declared.role.Role.{Role}
use Rattle.relay_files.specs.declared.role.Role.TheVariants as role
use Rattle.relay_files.specs.declared.listen_role.ListenRole.{ListenRole}
use Rattle.relay_files.specs.declared.listen_role.ListenRole.TheVariants as listen
use Rattle.line_text.specs.declared.fault.NameFault.{NameFault}
use Rattle.line_text.specs.declared.fault.NameFault.TheVariants as name
use Rattle.conf_text.specs.declared.ini.IniFault.{IniFault}
use Rattle.conf_text.specs.declared.ini.IniFault.TheVariants as ini
use Rattle.conf_text.specs.declared.setting.SettingFault.{SettingFault}
use Rattle.conf_text.specs.declared.setting.SettingFault.TheVariants as setting
use Rattle.relay_rules.specs.declared.fault.RuleFault.{RuleFault}
use Rattle.relay_rules.specs.declared.fault.RuleFault.TheVariants as rule
use Rattle.rewrite_rules.specs.declared.fault.RewriteReadFault.{RewriteReadFault}
use Rattle.rewrite_rules.specs.declared.fault.RewriteReadFault.TheVariants as rewrite
use Rattle.router.specs.declared.fault.PlanFault.{PlanFault}
use Rattle.router.specs.declared.fault.PlanFault.TheVariants as plan

-- the number that the process ends with
abbrev pub code_of : Status → ℕ
code_of status.Done = 0
code_of status.ConfigurationFault = 1
code_of status.Usage = 2
code_of status.DeviceFault = 3
code_of status.NoMemory = 4

-- reading, writing and listening are devices, and what files say is a configuration
abbrev pub status_of : RelayFault → Status
status_of (relay.CannotRead role) = status.DeviceFault
status_of (relay.Listen role) = status.DeviceFault
status_of relay.Input = status.DeviceFault
status_of relay.Output = status.DeviceFault
status_of relay.NoMemory = status.NoMemory
status_of fault = status.ConfigurationFault

-- a run that succeeds returns its status; one that fails ends with the status of its fault
abbrev pub status_at_end : Result Status RelayFault → Status
status_at_end (Ok status) = status
status_at_end (Err fault) = status_of fault

-- how faults name a file
abbrev pub role_name : Role → List ℕ
role_name role.Config = codes "config"
role_name role.Rules = codes "rules"
role_name role.Rewrite = codes "rewrite"
role_name role.Names = codes "names"
role_name role.Script = codes "script"

-- how faults name what listens
abbrev pub listen_role_name : ListenRole → List ℕ
listen_role_name listen.Line = codes "line"
listen_role_name listen.Pickle = codes "pickle"
listen_role_name listen.Udp = codes "udp"
listen_role_name listen.Admin = codes "admin"
listen_role_name listen.Status = codes "status"

-- ---- the faults of the parts, as faults of a run

abbrev pub line_fault : Role → IniFault → RelayFault
line_fault role ini.NoMemory = relay.NoMemory
line_fault role fault = relay.Line role fault

abbrev pub setting_fault : SettingFault → RelayFault
setting_fault setting.NoMemory = relay.NoMemory
setting_fault fault = relay.Setting fault

abbrev pub rule_fault : RuleFault → RelayFault
rule_fault rule.NoMemory = relay.NoMemory
rule_fault fault = relay.Rule fault

abbrev pub rewrite_fault : RewriteReadFault → RelayFault
rewrite_fault rewrite.NoMemory = relay.NoMemory
rewrite_fault fault = relay.Rewrite fault

abbrev pub plan_fault : PlanFault → RelayFault
plan_fault plan.NoRules = relay.NoRules
plan_fault plan.NoMemory = relay.NoMemory

abbrev pub name_fault : NameFault → RelayFault
name_fault name.BadName = relay.BadName
name_fault name.NoMemory = relay.NoMemory
