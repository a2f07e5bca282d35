-- Texts that grow step by step.
use Rattle.std.proofs.Common.{◌≡◌, ℕ, ◌++◌, List, ap, ◌∙◌, append_assoc}
use Rattle.std.proofs.lemmas.Result.{on_ok_weaker}
use Rattle.std.specs.Prelude.{Result, Ok, Err, OnOk, is_ok, if◌then◌else◌}

-- a part, and a part behind it
two : (t x s y u : List ℕ) → s ≡ t ++ x → u ≡ s ++ y → u ≡ t ++ (x ++ y)
two t x s y u first second = second ∙ ap (λ (l : List ℕ). l ++ y) first ∙ append_assoc t x y

-- the same where the second step may fail
pub also : {V E : Type 0} (r : Result V E) (t x s y u : List ℕ) → s ≡ t ++ x → OnOk r (u ≡ s ++ y) → OnOk r (u ≡ t ++ (x ++ y))
also r t x s y u first second = on_ok_weaker r (two t x s y u first) second

-- a part behind a text, which a failed step leaves as it was
pub last : {V E : Type 0} (r : Result V E) (t x u : List ℕ) → u ≡ (if is_ok r then t ++ x else t) → OnOk r (u ≡ t ++ x)
last (Ok v) t x u is = is
last (Err e) t x u is = tt
