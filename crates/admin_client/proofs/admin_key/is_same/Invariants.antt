use Rattle.std.proofs.Common.{◌≡◌, ◌&&◌, drop}
use Rattle.std.specs.Str.{bytes_eq}
use Rattle.admin_client.proofs.admin_key.is_same.Given as goal

-- the bytes so far, and the rest, say whether the two are the same
abbrev pub invariant-loop-place : goal.invariant-loop-place
invariant-loop-place l = l.is_same && bytes_eq (drop l.place l.given) (drop l.place l.key) ≡ bytes_eq l.given l.key
