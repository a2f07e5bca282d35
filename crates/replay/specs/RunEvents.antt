-- Events come to a world, one after another.
use Rattle.std.specs.Prelude.{ℕ, ◌≡◌, ◌≤◌, ◌+◌, List, ◌++◌, length}
use Rattle.reader_core.specs.Kinds.{relay_reading}
use Rattle.reader_core.specs.PlanConfiguration.{configuration_of}
use Rattle.reader_core.specs.declared.kind.ReaderKind.{ReaderKind}
use Rattle.relay_core.specs.World.{RunEvent}
use Rattle.relay_core.specs.Run.{end_of}
use Rattle.relay_core.specs.Relay.{run_of}
use Rattle.relay_core.specs.WorldModel.{WorldModel, RepresentsRun, HasAsMany}
use Rattle.replay.specs.ScriptEvent.{NumberedEvent}
use Rattle.replay.specs.RunText.{events_of, not_now_lines}

-- the world represents each run that it represented, with the events, and the text gained the lines of those that were
-- not allowed
pub record EventsCome (old new : WorldModel) (events : List NumberedEvent)
    (before after : List ℕ) : Type 0 where
  pub plan : new.plan ≡ old.plan
  pub places : HasAsMany new old
  pub count : new.events ≤ old.events + length events
  pub represents :
      (size limit : ℕ) (kinds : List ReaderKind) (past : List RunEvent)
      → RepresentsRun old size limit kinds past
      → RepresentsRun new size limit kinds (past ++ events_of events)
  pub text :
      (size limit : ℕ) (kinds : List ReaderKind) (past : List RunEvent)
      → RepresentsRun old size limit kinds past
      → after ≡ before ++ not_now_lines (configuration_of old.plan size limit)
      (end_of relay_reading (run_of old.plan size limit kinds past)) events

-- the world represents each run that it represented, with these events; those that were not allowed left it as it
-- was
pub record EventsHappen (old new : WorldModel) (events : List RunEvent) : Type 0 where
  pub plan : new.plan ≡ old.plan
  pub places : HasAsMany new old
  pub represents :
      (size limit : ℕ) (kinds : List ReaderKind) (past : List RunEvent)
      → RepresentsRun old size limit kinds past
      → RepresentsRun new size limit kinds (past ++ events)
