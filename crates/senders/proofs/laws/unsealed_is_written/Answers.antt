use Rattle.senders.proofs.RecordLemmas.{is-written}
use Rattle.senders.proofs.laws.unsealed_is_written.Goals as goal

pub returns : goal.returns
returns c = is-written
