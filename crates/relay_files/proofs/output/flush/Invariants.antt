use Rattle.std.specs.Io.KnownBytes.{Keeps}
use Rattle.relay_files.proofs.output.flush.Given as goal

-- no flush changes what the writer holds
abbrev pub invariant-loop-try : goal.invariant-loop-try
invariant-loop-try g l = Keeps (g.W.Write.contents l.fn.output) (g.W.Write.contents l.output)
