use Rattle.relay_core.proofs.Offers.{offers_prefix, carries_in_order}
use Rattle.relay_core.proofs.Kept.{hands_over_kept}
use Rattle.relay_core.proofs.Writing.{writes_whole}
use Rattle.relay_core.proofs.laws.prefix_of_any.Goals as goal

pub returns-clause-offers : goal.returns-clause-offers
returns-clause-offers c = λ reading orderly run routes_once. offers_prefix reading orderly run routes_once

pub returns-clause-carries : goal.returns-clause-carries
returns-clause-carries c = λ reading orderly run routes_once. carries_in_order reading orderly run routes_once

pub returns-clause-hands_over : goal.returns-clause-hands_over
returns-clause-hands_over c = hands_over_kept

pub returns-clause-writes : goal.returns-clause-writes
returns-clause-writes c = writes_whole
