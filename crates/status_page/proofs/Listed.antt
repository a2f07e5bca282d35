-- Lists of JSON, begun by their first item.
use Rattle.std.proofs.Common.{◌≡◌, ℕ, ◌++◌, ◌∷◌, [], List, length, ap, sym, ◌∙◌, append-nil, arith}
use Rattle.std.proofs.lemmas.Result.{on_ok_weaker}
use Rattle.std.specs.List.{flat_map}
use Rattle.std.specs.Prelude.{Result, OnOk}
use Rattle.status_page.specs.Json.{listed, next_one}
use Rattle.status_page.proofs.Lists.{also}

-- no item
pub none_listed : {A : Type 0} (json : A → List ℕ) (t : List ℕ) (xs : List A) → length xs ≡ 0 → t ≡ t ++ listed json xs
unfolding listed
none_listed json t [] e = sym (append-nil t)
none_listed json t (x ∷ xs) e = absurd (omega (arith, e))

-- an item, and the others
pub some_listed : {V E A : Type 0} (r : Result V E) (json : A → List ℕ) (t s u : List ℕ) (xs : List A) (x : A) (others : List A) → xs ≡ x ∷ others → s ≡ t ++ json x → OnOk r (u ≡ s ++ flat_map (next_one json) others) → OnOk r (u ≡ t ++ listed json xs)
unfolding listed
some_listed r json t s u xs x others is first second =
    on_ok_weaker r (λ h. h ∙ ap (λ l. t ++ listed json l) (sym is)) (also r t (json x) s (flat_map (next_one json) others) u first second)
