-- The first position of a kind of byte, as a search returns it.
use Rattle.std.proofs.Common.{◌≡◌, ℕ, Bool, inl, inr, true, false, Option, Some, None, List, length, refl, arith}
use Rattle.std.specs.Prelude.{position}
use Rattle.std.proofs.lemmas.Bool.{cases_Bool, lt-ltb, le-ltb}
use Rattle.std.proofs.lemmas.List.Sums.{position_or_len_is}
use Rattle.memchr.specs.Find.{IsFirstByte}

false_from : (b : Bool) → (b ≡ true → ⊥) → b ≡ false
false_from b never =
    elim (cases_Bool b) [
      | inl is ↦ absurd (never is)
      | inr is ↦ is
    ]

pub first-is_position : (p : ℕ → Bool) (text : List ℕ) (r : Option ℕ) → IsFirstByte p text r → r ≡ position p text
first-is_position p text None nowhere =
    let at = position_or_len_is p text (length text) 0 (omega arith) (λ k inside. false_from _ (nowhere k (omega arith) inside)) (λ inside. absurd (omega arith)) in
    rw (at, le-ltb (length text) (length text) (omega arith)) refl
first-is_position p text (Some k) found =
    let at = position_or_len_is p text k 0 (omega (arith, found.0.high)) (λ j inside. false_from _ (found.0.before j (omega arith) inside)) (λ _. found.1) in
    rw (at, lt-ltb k (length text) found.0.high) refl
