use Rattle.pickle_subset.proofs.FeedLemmas.{accepted_points-grows, gives_no_more}
use Rattle.pickle_subset.proofs.laws.orderly.Goals as goal

pub returns-clause-grows : goal.returns-clause-grows
returns-clause-grows c = λ a b. accepted_points-grows a b

pub returns-clause-closed : goal.returns-clause-closed
returns-clause-closed c = λ connection closed. gives_no_more connection closed
