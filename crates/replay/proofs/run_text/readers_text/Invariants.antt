use Rattle.std.proofs.Common.{◌≡◌}
use Rattle.std.specs.String.{string_bytes}
use Rattle.relay_core.specs.WorldModel.{OfItsRuns}
use Rattle.replay.specs.RunText.{of_each, reader_text}
use Rattle.replay.proofs.run_text.readers_text.Given as goal

-- the lines of the readers so far
abbrev pub invariant-loop-reader : goal.invariant-loop-reader
invariant-loop-reader l =
    OfItsRuns l.world (λ run. string_bytes l.text ≡ of_each (reader_text l.world.plan run) l.reader)
