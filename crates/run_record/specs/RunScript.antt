-- The script of a run: it has what its parts hold, its events are allowed, its queues record the steps and have the counts,
-- the law of every run holds for it, and the script is read back as the run.
use Rattle.std.specs.Prelude.{ℕ, ◌≡◌, List, slice_get, Some, Ok}
use Rattle.dest_queue.specs.Counts.{counts_of}
use Rattle.dest_queue.specs.declared.counts.Counts.{Counts}
use Rattle.reader_core.specs.Kinds.{relay_reading}
use Rattle.router.specs.Plan.{Plan}
use Rattle.relay_core.specs.Headline.{PassesOn}
use Rattle.relay_core.specs.OneRun.{AreAllowed}
use Rattle.relay_core.specs.Relay.{run_of}
use Rattle.relay_core.specs.Run.{Run, start_of, dest_in}
use Rattle.relay_core.specs.World.{RunEvent}
use Rattle.replay.specs.ScriptText.{script_of}
use Rattle.run_record.specs.Laws.{script_with}
use Rattle.run_record.specs.ScriptLines.{script_text}
use Rattle.run_record.specs.PartEvents.{PartsOfRun, HasParts}
use Rattle.run_record.specs.QueueSteps.{steps_in}

-- each event of a run is allowed when it happens
abbrev pub EachAllowed : Run → Type 0
EachAllowed run = AreAllowed relay_reading run.configuration (start_of relay_reading run) run.events

-- the queues of a run have these counts at its end
abbrev pub HasTheseCounts : List Counts → Run → Type 0
HasTheseCounts counts run =
    (d : ℕ) (c : Counts) → slice_get counts d ≡ Some c
    → c ≡ counts_of (dest_in relay_reading run d).queue

-- a text is the script of a run of this plan, with queues of this size and batches of this limit, made of these parts
pub record IsScriptOfRun (plan : Plan) (size limit : ℕ) (parts : PartsOfRun)
    (text : List ℕ) : Type 0 where
  pub events : List RunEvent
  pub has_parts : HasParts parts events
  pub allowed : EachAllowed (run_of plan size limit parts.kinds events)
  -- what its queues record, step by step with each datapoint, number and answer, is the parts' steps
  pub recorded : steps_in (run_of plan size limit parts.kinds events) ≡ parts.steps
  pub has_counts : HasTheseCounts parts.counts (run_of plan size limit parts.kinds events)
  -- the law of every run
  pub passes_on : PassesOn (run_of plan size limit parts.kinds events)
  pub written : text ≡ script_text parts.kinds events
  -- and it is read as this run
  pub read : script_of text ≡ Ok (script_with parts.kinds events)
