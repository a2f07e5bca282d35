use Rattle.line_text.proofs.ReadBackLemmas.{reading-printed}
use Rattle.line_text.proofs.laws.reads_back.Goals as goal

pub returns : goal.returns
returns c = λ p is moment. reading-printed p is moment
