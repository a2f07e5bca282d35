use Rattle.std.proofs.Common.{◌≡◌, ℕ, ◌++◌, List}
use Rattle.std.specs.Io.KnownBytes.{Appends}
use Rattle.relay_files.proofs.output.write_all.Given as goal

-- what was written, and what is left, are the bytes
abbrev pub invariant-loop-write : goal.invariant-loop-write
invariant-loop-write g l = record {
  written : (done : List ℕ) × (l.bytes ≡ done ++ l.left) × Appends (g.W.Write.contents l.fn.output) (g.W.Write.contents l.output) done;
}
