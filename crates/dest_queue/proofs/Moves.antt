-- Elements that move from the front of a queue to the end of a list.
use Rattle.std.proofs.Common.{◌≡◌, ◌<◌, ◌+◌, ◌++◌, ◌∷◌, [], ◌∙◌, ℕ, List, length, take, drop, min, sym, ap, append_assoc, arith}
use Rattle.std.proofs.lemmas.Grind.{common_steps}
use Rattle.std.proofs.lemmas.List.{take_more, drop_more, take_min, length-take}

same-front : {A : Type 0} (x y : A) (xs ys : List A) → x ∷ xs ≡ y ∷ ys → (x ≡ y) × (xs ≡ ys)
same-front x y xs ys e = (grind (arith, common_steps), grind (arith, common_steps))

module _ {A : Type 0} (from to : List A) (i : ℕ) (x : A) (left : List A) where
  -- the front of what is left is the next element
  pub next-moved : (moved moved' : List A) → i < length from → x ∷ left ≡ drop i from → moved ≡ to ++ take i from → moved' ≡ moved ++ x ∷ [] → moved' ≡ to ++ take (i + 1) from
  next-moved moved moved' within is so_far more =
      let same = same-front x _ left _ (is ∙ drop_more from i x within) in
      more ∙ ap (λ (ys : List A). ys ++ x ∷ []) so_far ∙ append_assoc to (take i from) (x ∷ []) ∙ ap (λ (y : A). to ++ (take i from ++ y ∷ [])) same.0 ∙ ap (λ (ys : List A). to ++ ys) (sym (take_more from i x within))

  pub next-left : i < length from → x ∷ left ≡ drop i from → left ≡ drop (i + 1) from
  next-left within is = (same-front x _ left _ (is ∙ drop_more from i x within)).1

module _ {A : Type 0} (from : List A) (limit count len : ℕ) (len_is : len ≡ length from) (count_is : count ≡ min limit len) where
  pub take-limit : take count from ≡ take limit from
  take-limit = ap (λ (n : ℕ). take n from) (count_is ∙ ap (min limit) len_is) ∙ take_min limit from

  pub count-limit : count ≡ length (take limit from)
  count-limit = count_is ∙ ap (min limit) len_is ∙ sym (length-take limit from)

  pub drop-limit : drop count from ≡ drop limit from
  drop-limit = grind (arith, common_steps)
