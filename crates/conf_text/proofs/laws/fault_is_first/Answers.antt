use Rattle.conf_text.proofs.SettingRows.{fault_is_first}
use Rattle.conf_text.proofs.laws.fault_is_first.Goals as goal

pub returns : goal.returns
returns c = fault_is_first
