use Rattle.relay_run.proofs.RunEndings.{starts-output}
use Rattle.relay_run.proofs.sender_setup.connector_with.Goals as goal

-- a sender has nothing to wait with
pub returns-in-Err : goal.returns-in-Err
returns-in-Err g c = rw c.output_fault.ensures (starts-output _)
