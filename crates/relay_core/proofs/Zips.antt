-- Lists whose elements match place by place.
use Rattle.std.proofs.Common.{◌<◌, ℕ, zero, suc, List, [], ◌∷◌, ◌++◌, length, arith}
use Rattle.std.specs.Prelude.{slice_set, slice_index_or}
use Rattle.std.specs.List.{AllZip}

module _ {A B : Type 0} (R : A → B → Type 0) where
  pub AllZip-at : (xs : List A) (ys : List B) (i : ℕ) (d : A) (e : B) → i < length ys → AllZip R xs ys
      → R (slice_index_or xs i d) (slice_index_or ys i e)
  AllZip-at [] [] i d e l z = absurd (omega (arith, l))
  AllZip-at [] (y ∷ ys) i d e l z = absurd z
  AllZip-at (x ∷ xs) [] i d e l z = absurd z
  AllZip-at (x ∷ xs) (y ∷ ys) zero d e l z = z.0
  AllZip-at (x ∷ xs) (y ∷ ys) (suc i) d e l z = AllZip-at xs ys i d e (omega (arith, l)) z.1

  pub AllZip-set : (xs : List A) (ys : List B) (i : ℕ) (x : A) (y : B) → R x y → AllZip R xs ys
      → AllZip R (slice_set xs i x) (slice_set ys i y)
  AllZip-set [] [] i x y r z = tt
  AllZip-set [] (b ∷ ys) i x y r z = absurd z
  AllZip-set (a ∷ xs) [] i x y r z = absurd z
  AllZip-set (a ∷ xs) (b ∷ ys) zero x y r z = (r, z.1)
  AllZip-set (a ∷ xs) (b ∷ ys) (suc i) x y r z = (z.0, AllZip-set xs ys i x y r z.1)

  pub AllZip-push : (xs : List A) (ys : List B) (x : A) (y : B) → AllZip R xs ys → R x y → AllZip R (xs ++ x ∷ []) (ys ++ y ∷ [])
  AllZip-push [] [] x y z r = (r, tt)
  AllZip-push [] (b ∷ ys) x y z r = absurd z
  AllZip-push (a ∷ xs) [] x y z r = absurd z
  AllZip-push (a ∷ xs) (b ∷ ys) x y z r = (z.0, AllZip-push xs ys x y z.1 r)
