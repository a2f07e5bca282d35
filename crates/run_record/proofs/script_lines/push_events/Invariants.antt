use Rattle.std.proofs.Common.{◌≡◌, ◌++◌, map, take}
use Rattle.std.specs.String.{string_bytes}
use Rattle.relay_core.specs.Event.{run_event}
use Rattle.run_record.specs.ScriptLines.{event_lines}
use Rattle.run_record.proofs.script_lines.push_events.Given as goal

abbrev pub invariant-loop-event : goal.invariant-loop-event
invariant-loop-event l = string_bytes l.text ≡ string_bytes l.fn.text ++ event_lines (map run_event (take l.event-index l.events))
