use Rattle.std.proofs.Common.{◌≡◌, ◌<◌, ℕ, false, take, slice_index_or}
use Rattle.mio_loops.specs.ReadTurn.{is_ready}
use Rattle.mio_loops.proofs.ready_tokens.marks_of.Given as goal

-- the marks of those so far
abbrev pub invariant-loop-token : goal.invariant-loop-token
invariant-loop-token l =
    (token : ℕ) → token < 1024
    → slice_index_or l.marks token false ≡ is_ready (take l.token-index l.ready) token
