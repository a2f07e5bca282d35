use Rattle.line_text.proofs.ConnectionLemmas.{accepted_points-grows}
use Rattle.line_text.proofs.FeedLemmas.{gives_no_more}
use Rattle.line_text.proofs.laws.orderly.Goals as goal

pub returns-clause-grows : goal.returns-clause-grows
returns-clause-grows c = λ a b. accepted_points-grows a b

pub returns-clause-closed : goal.returns-clause-closed
returns-clause-closed c = λ connection closed. gives_no_more connection closed
