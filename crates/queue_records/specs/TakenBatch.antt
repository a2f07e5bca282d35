-- What an entry of an outlet's record says.
use Rattle.queue_records.specs.Takes.{TakeMade}
use Rattle.queue_records.specs.declared.taken_batch.TakenBatch.{TakenBatch}

abbrev pub take_of : TakenBatch → TakeMade
take_of t = record { dest = t.dest.0; limit = t.limit; taken = t.taken }
