-- The bytes of connections.
use Rattle.std.proofs.Common.{◌≡◌, ◌<◌, ◌-◌, ℕ, suc, List, [], ◌∷◌, ◌++◌, length, refl, ap, arith}
use Rattle.std.specs.Prelude.{slice_set, slice_index_or}
use Rattle.relay_core.specs.Destination.{with_more_bytes}

-- the last connection is replaced by one with more bytes
pub with_more_bytes-set : (bytes : List ℕ) (cs : List (List ℕ)) → 0 < length cs
    → with_more_bytes bytes cs ≡ slice_set cs (length cs - 1) (slice_index_or cs (length cs - 1) [] ++ bytes)
with_more_bytes-set bytes [] l = absurd (omega (arith, l))
with_more_bytes-set bytes (last ∷ []) l = refl
with_more_bytes-set bytes (first ∷ second ∷ others) l =
    let next : length (first ∷ second ∷ others) - 1 ≡ suc (length (second ∷ others) - 1) = omega arith in
    rw next (ap (λ (cs : List (List ℕ)). first ∷ cs) (with_more_bytes-set bytes (second ∷ others) (omega arith)))
