-- An element of a list by its place.
use Rattle.std.proofs.Common.{◌≡◌, ◌<◌, ◌+◌, ℕ, zero, suc, List, [], ◌∷◌, ◌++◌, length, map, refl, sym, ap, arith}
use Rattle.std.specs.Prelude.{slice_get, slice_index_or, Some, None}

pub some_is : {A : Type 0} (x y : A) → Some x ≡ Some y → x ≡ y
some_is x y e = cc

pub none_is_not : {A : Type 0} (x : A) → None ≡ Some x → ⊥
none_is_not x e = cc

pub there : {A : Type 0} (xs : List A) (k : ℕ) → k < length xs → (x : A) × (slice_get xs k ≡ Some x)
there [] k l = absurd (omega (arith, l))
there (x ∷ xs) zero l = (x, refl)
there (x ∷ xs) (suc k) l = there xs k (omega (arith, l))

pub within : {A : Type 0} (xs : List A) (k : ℕ) (x : A) → slice_get xs k ≡ Some x → k < length xs
within [] k x at = absurd (none_is_not x at)
within (y ∷ xs) zero x at = omega arith
within (y ∷ xs) (suc k) x at = omega (arith, within xs k x at)

pub mapped_at : {A B : Type 0} (f : A → B) (xs : List A) (k : ℕ) (x : A) (d : B) → slice_get xs k ≡ Some x → slice_index_or (map f xs) k d ≡ f x
mapped_at f [] k x d at = absurd (none_is_not x at)
mapped_at f (y ∷ xs) zero x d at = ap f (some_is y x at)
mapped_at f (y ∷ xs) (suc k) x d at = mapped_at f xs k x d at

pub got_mapped : {A B : Type 0} (f : A → B) (xs : List A) (k : ℕ) (x : A) → slice_get xs k ≡ Some x → slice_get (map f xs) k ≡ Some (f x)
got_mapped f [] k x at = absurd (none_is_not x at)
got_mapped f (y ∷ xs) zero x at = ap (λ b. Some (f b)) (some_is y x at)
got_mapped f (y ∷ xs) (suc k) x at = got_mapped f xs k x at

-- the element of the list that one of a mapped list comes from
pub record From {A B : Type 0} (f : A → B) (xs : List A) (k : ℕ) (y : B) : Type 0 where
  pub element : A
  pub at : slice_get xs k ≡ Some element
  pub is : y ≡ f element

pub from_mapped : {A B : Type 0} (f : A → B) (xs : List A) (k : ℕ) (y : B) → slice_get (map f xs) k ≡ Some y → From f xs k y
from_mapped f [] k y at = absurd (none_is_not y at)
from_mapped f (x ∷ xs) zero y at = record { element = x; at = refl; is = sym (some_is (f x) y at) }
from_mapped f (x ∷ xs) (suc k) y at =
    let rest = from_mapped f xs k y at in record { element = rest.element; at = rest.at; is = rest.is }

-- ---- in two lists, one behind the other

pub in_first : {A : Type 0} (xs ys : List (List A)) (k : ℕ) → k < length xs → slice_index_or (xs ++ ys) k [] ≡ slice_index_or xs k []
in_first [] ys k l = absurd (omega (arith, l))
in_first (y ∷ xs) ys zero l = refl
in_first (y ∷ xs) ys (suc k) l = in_first xs ys k (omega (arith, l))

pub in_second : {A : Type 0} (xs ys : List (List A)) (i k : ℕ) → i ≡ length xs + k → slice_index_or (xs ++ ys) i [] ≡ slice_index_or ys k []
in_second [] ys i k is = ap (λ n. slice_index_or ys n []) (omega (arith, is))
in_second (x ∷ xs) ys zero k is = absurd (omega (arith, is))
in_second (x ∷ xs) ys (suc i) k is = in_second xs ys i k (omega (arith, is))
