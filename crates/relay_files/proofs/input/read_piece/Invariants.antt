use Rattle.std.specs.Io.KnownBytes.{Keeps}
use Rattle.relay_files.proofs.input.read_piece.Given as goal

-- no repeated read took a byte
abbrev pub invariant-loop-try : goal.invariant-loop-try
invariant-loop-try g l = Keeps (g.R.Read.remaining l.fn.input) (g.R.Read.remaining l.input)
