-- The record of a run, and why a run has none.
use Rattle.std.specs.Prelude.{ℕ, ◌≡◌, List, Ok}
use Rattle.std.proofs.Common.{Vec, Global}
use Rattle.dest_queue.specs.declared.counts.Counts.{Counts}
use Rattle.dest_queue.specs.declared.step.Step.{Step}
use Rattle.finished_run.specs.declared.recorder.FinishedRun.{FinishedRun}
use Rattle.locked_queues.specs.declared.settled.SettleFault.{SettleFault}
use Rattle.locked_queues.specs.declared.settled.SettleFault.TheVariants as settle
use Rattle.locked_queues.specs.declared.settled.Settled.{Settled}
use Rattle.router.specs.Plan.{Plan}
use Rattle.run_record.specs.PartEvents.{PartsOfRun}
use Rattle.run_record.specs.QueueSteps.{steps_numbered, AreHistories}
use Rattle.run_record.specs.RunScript.{IsScriptOfRun}
use Rattle.run_record.specs.declared.parts.RunScriptFault.{RunScriptFault}
use Rattle.run_record.specs.declared.parts.RunScriptFault.TheVariants as script
use Rattle.run_record.specs.declared.record_fault.RecordFault.{RecordFault}
use Rattle.run_record.specs.declared.record_fault.RecordFault.TheVariants as none

-- a text is the script of a run by this plan, with queues of this size and batches of this limit, whose queues have these
-- histories, step by step in this order, and these counts
pub record IsRecord (plan : Plan) (size limit : ℕ) (histories : List (Vec Step Global))
    (order : List ℕ) (counts : List Counts) (text : List ℕ) : Type 0 where
  pub parts : PartsOfRun
  pub has_steps : parts.steps ≡ steps_numbered histories order
  -- each queue's are its whole history
  pub has_histories : AreHistories histories parts.steps
  pub has_counts : parts.counts ≡ counts
  pub is : IsScriptOfRun plan size limit parts text

-- a text is the record of a finished run, which has settled
abbrev pub IsRecordOfRun : FinishedRun → List ℕ → Type 0
IsRecordOfRun run text =
    (settled : Settled) × (run.settled.now ≡ Ok settled)
    × IsRecord run.configuration.now.plan run.shape.size run.shape.limit
    settled.histories.items settled.order.items settled.counts.items text

-- ---- why a run has no record

-- one that has not settled
abbrev pub settle_fault : SettleFault → RecordFault
settle_fault settle.Strangers = none.NotSettled
settle_fault settle.NoMemory = none.NoMemory
settle_fault (settle.Totals dest) = none.NotSettled
settle_fault (settle.Sealed dest counts) = none.History dest.0
settle_fault (settle.Differs dest whose place) = none.NotSettled
settle_fault settle.NoOrder = none.NotSettled

-- one whose parts have no script
abbrev pub script_fault : RunScriptFault → RecordFault
script_fault script.EmptyDatagram = none.EmptyDatagram
script_fault script.NotOneRun = none.NotOneRun
script_fault script.NoMemory = none.NoMemory
