-- Many lines, by their numbers.
use Rattle.std.proofs.Common.{◌≡◌, ◌<◌, ◌+◌, ℕ, zero, suc, List, [], ◌∷◌, ◌++◌, length, drop, refl, arith}
use Rattle.std.specs.Prelude.{slice_index_or}
use Rattle.replay.specs.declared.handed_form.HandedForm.{HandedForm}
use Rattle.replay.specs.RunText.{of_each, handed_line, handed_lines}

pub of_each-next : (text : ℕ → List ℕ) (n : ℕ) → of_each text (n + 1) ≡ of_each text n ++ text n
of_each-next text n = let next : n + 1 ≡ suc n = omega arith in rw next refl

pub handed_lines-next : (form : HandedForm) (d : ℕ) (k i : ℕ) (xs : List (List ℕ)) (e : List ℕ) → i < length xs
    → handed_lines form d k (drop i xs) ≡ handed_line form d k (slice_index_or xs i e) ++ handed_lines form d (k + 1) (drop (i + 1) xs)
handed_lines-next form d k i [] e l = absurd (omega (arith, l))
handed_lines-next form d k zero (x ∷ xs) e l = refl
handed_lines-next form d k (suc i) (x ∷ xs) e l = let next : suc i + 1 ≡ suc (i + 1) = omega arith in rw next (handed_lines-next form d k i xs e (omega (arith, l)))
