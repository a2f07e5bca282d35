use Rattle.senders.proofs.RecordLemmas.{has-takes}
use Rattle.senders.proofs.laws.unsealed_has_takes.Goals as goal

pub returns : goal.returns
returns c = has-takes
