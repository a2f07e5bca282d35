use Rattle.std.specs.String.{string_bytes}
use Rattle.std.proofs.Common.{length, take}
use Rattle.run_record.specs.Making.{Made, AreUsed}
use Rattle.run_record.specs.PartEvents.{parts_of}
use Rattle.run_record.specs.QueueSteps.{steps_numbered}
use Rattle.run_record.proofs.events.apply_from.Given as goal

-- it has made the steps so far
abbrev pub invariant-loop-number : goal.invariant-loop-number
invariant-loop-number l =
    Made (parts_of l.parts).fed (parts_of l.parts).written l.fed l.written l.limit l.fn.world l.world (string_bytes l.fn.text) (string_bytes l.text)
    (steps_numbered l.parts.histories.now (take l.number-index l.parts.order.now))

-- it has made all steps, and used the lists of the readers before this one
abbrev pub invariant-loop-reader : goal.invariant-loop-reader
invariant-loop-reader l =
    record {
      made : Made (parts_of l.parts).fed (parts_of l.parts).written l.fed l.written l.limit l.fn.world l.world (string_bytes l.fn.text) (string_bytes l.text) (parts_of l.parts).steps;
      used : AreUsed (parts_of l.parts).fed l.fed l.reader;
    }

-- and those of all readers, and of the destinations before this one
abbrev pub invariant-loop-dest : goal.invariant-loop-dest
invariant-loop-dest l =
    record {
      made : Made (parts_of l.parts).fed (parts_of l.parts).written l.fed l.written l.limit l.fn.world l.world (string_bytes l.fn.text) (string_bytes l.text) (parts_of l.parts).steps;
      used : AreUsed (parts_of l.parts).fed l.fed (length l.parts.fed.now);
      used_written : AreUsed (parts_of l.parts).written l.written l.dest;
    }
