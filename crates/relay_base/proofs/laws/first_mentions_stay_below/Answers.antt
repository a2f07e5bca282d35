use Rattle.relay_base.proofs.DestIdLemmas.{first_mentions_below}
use Rattle.relay_base.proofs.laws.first_mentions_stay_below.Goals as goal

pub returns : goal.returns
returns c = first_mentions_below
