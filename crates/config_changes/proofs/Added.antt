-- A text behind which others were added.
use Rattle.std.specs.Prelude.{if◌then◌else◌}
use Rattle.std.proofs.Common.{◌≡◌, ℕ, List, ◌++◌, Ok, Err, Result, OnOk, ap, ◌∙◌, append_assoc}
use Rattle.std.specs.Result.{is_ok}

-- the last of three was added if that did not fail
pub three_added : {V E : Type 0} (r : Result V E) (text first second third one two three : List ℕ) → one ≡ text ++ first → two ≡ one ++ second → three ≡ (if is_ok r then two ++ third else two) → OnOk r (three ≡ text ++ ((first ++ second) ++ third))
three_added (Ok v) text first second third one two three at_one at_two at_three =
    at_three
    ∙ ap (λ (l : List ℕ). l ++ third) (at_two ∙ ap (λ (l : List ℕ). l ++ second) at_one ∙ append_assoc text first second)
    ∙ append_assoc text (first ++ second) third
three_added (Err e) text first second third one two three at_one at_two at_three = tt
