use Rattle.std.proofs.Common.{List, length, ap}
use Rattle.relay_core.specs.World.{RunEvent}
use Rattle.relay_core.specs.Relay.{run_of}
use Rattle.run_record.proofs.ScriptLemmas.{numbered-events}
use Rattle.run_record.proofs.laws.runs_same.Goals as goal

pub returns : goal.returns
returns c = λ plan size limit kinds events. ap (λ (es : List RunEvent). run_of plan size limit kinds es) (numbered-events (length kinds) events)
