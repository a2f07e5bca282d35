use Rattle.std.specs.String.{string_bytes}
use Rattle.std.proofs.Common.{◌≡◌, [], map}
use Rattle.relay_core.specs.Event.{run_event}
use Rattle.run_record.specs.Making.{Reaches}
use Rattle.run_record.specs.declared.applying.Part.TheVariants.{Writer}
use Rattle.run_record.proofs.events.take.Given as goal

-- it has reached the place from the start, and has not moved it
abbrev pub invariant-loop-place : goal.invariant-loop-place
invariant-loop-place l =
    record {
      reaches : Reaches (Writer l.dest) (map run_event l.list) l.start l.place l.fn.world l.world (string_bytes l.fn.text) (string_bytes l.text) [] [];
      same : l.starts ≡ l.fn.starts;
    }
