use Rattle.relay_base.proofs.DestIdLemmas.{first_mentions_once}
use Rattle.relay_base.proofs.laws.first_mentions_name_each_once.Goals as goal

pub returns : goal.returns
returns c = first_mentions_once
