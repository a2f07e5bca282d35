-- What holds of each member at its place, with one member more.
use Rattle.std.proofs.Common.{◌≡◌, ◌<◌, ◌+◌, ℕ, zero, suc, List, [], ◌∷◌, ◌++◌, length, map, set, take, inl, inr, refl, sym, subst, ◌∙◌, ap, arith}
use native.Mathlib.Numerals.{unary_clauses}
use Rattle.std.proofs.lemmas.Grind.{common_steps}
use Rattle.std.proofs.lemmas.Bool.Decides.{eqb_tells, nat_tests}
use Rattle.std.proofs.lemmas.Option.{get_or_from_slice_get}
use Rattle.std.specs.Prelude.{slice_get, slice_index_or, Some, ◌==◌, if◌then◌else◌}
use Rattle.dest_queue.specs.RecordedStep.{RecordedStep}
use Rattle.dest_queue.specs.declared.counts.Counts.{Counts}
use Rattle.queue_records.specs.Settling.{Begins, AreBegun}

pub begun_more : (size readers : ℕ) (cs : List Counts) (hs : List (List RecordedStep)) (c : Counts) (h : List RecordedStep) → AreBegun size readers cs hs → Begins size readers c h → AreBegun size readers (cs ++ c ∷ []) (hs ++ h ∷ [])
begun_more size readers [] [] c h all one = (one, tt)
begun_more size readers [] (y ∷ hs) c h all one = elim all [ ]
begun_more size readers (x ∷ cs) [] c h all one = elim all [ ]
begun_more size readers (x ∷ cs) (y ∷ hs) c h all one = (all.0, begun_more size readers cs hs c h all.1 one)

some_is : {A : Type 0} (x y : A) → Some x ≡ Some y → x ≡ y
some_is x y e = grind (arith, common_steps)

take_suc : {A : Type 0} (ks : List A) (i : ℕ) (x : A) → slice_get ks i ≡ Some x → take (suc i) ks ≡ take i ks ++ x ∷ []
take_suc [] i x is = grind (arith, common_steps)
take_suc (k ∷ ks) zero x is = ap (λ r. r ∷ []) (some_is k x is)
take_suc (k ∷ ks) (suc i) x is = ap (λ r. k ∷ r) (take_suc ks i x is)

pub take_one_more : {A : Type 0} (ks : List A) (i : ℕ) (x : A) → slice_get ks i ≡ Some x → take (i + 1) ks ≡ take i ks ++ x ∷ []
take_one_more ks i x is = simp unary_clauses (take_suc ks i x is)

-- a list with one member changed, seen through f
pub index_after : {A B : Type 0} (f : A → List B) (qs : List A) (i : ℕ) (k : B) (q d : A) → i < length qs → f q ≡ f (slice_index_or qs i d) ++ k ∷ []
    → (j : ℕ) → slice_index_or (map f (set qs i q)) j [] ≡ slice_index_or (map f qs) j [] ++ (if i == j then k ∷ [] else [])
index_after f [] i k q d lt is j = absurd (omega (arith, lt))
index_after f (p ∷ qs) zero k q d lt is zero = is
index_after f (p ∷ qs) zero k q d lt is (suc j) = grind (arith, common_steps, nat_tests)
index_after f (p ∷ qs) (suc i) k q d lt is zero = grind (arith, common_steps, nat_tests)
index_after f (p ∷ qs) (suc i) k q d lt is (suc j) = index_after f qs i k q d (omega (arith, lt)) is j ∙ (grind (arith, common_steps, nat_tests))

-- what holds of the first members and of the next one holds of one more
pub each_more : {A : Type 0} (P : ℕ → A → Type 0) (xs : List A) (n : ℕ) (d : A) → n < length xs
    → ((i : ℕ) (x : A) → i < n → slice_get xs i ≡ Some x → P i x) → P n (slice_index_or xs n d)
    → (i : ℕ) (x : A) → i < n + 1 → slice_get xs i ≡ Some x → P i x
each_more P xs n d within held here i x lt is = elim (eqb_tells i n) [
  | inl same ↦ subst (P i) (get_or_from_slice_get xs i x d is) (subst (λ k. P k (slice_index_or xs k d)) (sym same.1) here)
  | inr other ↦ held i x (omega (arith, lt, other.1)) is
]

-- with one more empty list all are empty
pub empty_more : {A B : Type 0} (f : A → List B) (qs : List A) (q : A) (k : ℕ) → f q ≡ [] → slice_index_or (map f qs) k [] ≡ []
    → slice_index_or (map f (qs ++ q ∷ [])) k [] ≡ []
empty_more f [] q zero none so_far = none
empty_more f [] q (suc k) none so_far = refl
empty_more f (p ∷ qs) q zero none so_far = so_far
empty_more f (p ∷ qs) q (suc k) none so_far = empty_more f qs q k none so_far
