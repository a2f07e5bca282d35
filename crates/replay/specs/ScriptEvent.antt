-- The events of a script.
use Rattle.std.specs.Prelude.{ℕ}
use Rattle.relay_core.specs.World.{RunEvent, Piece, End, Offer, Take, Up, Wrote, Down}
use Rattle.replay.specs.declared.script_event.OwnedEvent.{OwnedEvent}
use Rattle.replay.specs.declared.script_event.OwnedEvent.TheVariants as owned

-- an event, and the number of its line, from 1
pub record NumberedEvent : Type 0 where
  pub line : ℕ
  pub event : RunEvent

-- an event without where its bytes lie in memory
abbrev pub event_seen : OwnedEvent → RunEvent
event_seen (owned.Piece reader bytes moment) = Piece reader bytes.items moment
event_seen (owned.End reader) = End reader
event_seen (owned.Offer reader) = Offer reader
event_seen (owned.Take dest) = Take dest
event_seen (owned.Up dest) = Up dest
event_seen (owned.Wrote dest count) = Wrote dest count
event_seen (owned.Down dest) = Down dest
