use Rattle.conf_text.proofs.SettingRows.{settings_are_good}
use Rattle.conf_text.proofs.laws.settings_are_good.Goals as goal

pub returns : goal.returns
returns c = settings_are_good
