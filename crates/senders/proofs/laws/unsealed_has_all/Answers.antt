use Rattle.senders.proofs.RecordLemmas.{has-all}
use Rattle.senders.proofs.laws.unsealed_has_all.Goals as goal

pub returns : goal.returns
returns c = has-all
