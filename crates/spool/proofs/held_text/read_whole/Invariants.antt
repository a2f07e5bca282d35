use Rattle.std.proofs.Common.{◌≡◌, ◌+◌, ◌^◌, ◌<◌, ◌≤◌, IfSome, length, take, drop}
use Rattle.spool.proofs.held_text.read_whole.Given as goal

-- the first bytes of the piece are those of the file from the place on
abbrev pub invariant-loop : goal.invariant-loop
invariant-loop g l = record {
  inside : l.filled ≤ length l.piece;
  read : l.place + length l.piece < 2 ^ 64 → IfSome (g.F.HeldText.text l.file) (λ held. take l.filled l.piece ≡ take l.filled (drop l.place held));
}
