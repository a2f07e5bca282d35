use Rattle.std.specs.Io.KnownBytes.{Consumes}
use Rattle.relay_files.proofs.input.read_pieces.Given as goal

-- these bytes were read
abbrev pub invariant-loop-turn : goal.invariant-loop-turn
invariant-loop-turn g l = Consumes (g.R.Read.remaining l.fn.input) (g.R.Read.remaining l.input) l.bytes.items
