-- The records' steps with their numbers: where each is, and who has steps of a kind.
use Rattle.std.proofs.Common.{◌≡◌, ◌≢◌, ◌+◌, ℕ, zero, suc, Bool, true, false, List, [], ◌∷◌, ◌++◌, length, map, filter, refl, sym, ap, ◌∙◌, inl, inr, arith}
use Rattle.std.specs.Prelude.{◌⊎◌, slice_get, slice_index_or, Some}
use Rattle.std.specs.List.{flat_map}
use Rattle.std.proofs.lemmas.List.{append-nil}
use Rattle.dest_queue.specs.Numbered.{NumberedStep, numbers_of}
use Rattle.queue_records.specs.Numbered.{StepAt, with_numbers, all_with_numbers}
use Rattle.settled_run.specs.SettledParts.{numbered_records}

-- ---- the numbers

pub numbers_back : (xs : List StepAt) (ns : List ℕ) → length ns ≡ length xs → numbers_of (with_numbers xs ns) ≡ ns
numbers_back [] [] same = refl
numbers_back [] (n ∷ ns) same = absurd (omega (arith, same))
numbers_back (x ∷ xs) [] same = absurd (omega (arith, same))
numbers_back (x ∷ xs) (n ∷ ns) same = ap (λ r. n ∷ r) (numbers_back xs ns (omega (arith, same)))

abbrev pub lengths : {A : Type 0} → List (List A) → List ℕ
lengths {A} xss = map (λ (xs : List A). length xs) xss

first_number : (n m : ℕ) (ns ms : List ℕ) → n ∷ ns ≡ m ∷ ms → n ≡ m
first_number n m ns ms e = cc

other_numbers : (n m : ℕ) (ns ms : List ℕ) → n ∷ ns ≡ m ∷ ms → ns ≡ ms
other_numbers n m ns ms e = cc

none_and_some : (n : ℕ) (ns : List ℕ) → n ∷ ns ≡ [] → ⊥
none_and_some n ns e = cc

pub all_numbers_back : (xss : List (List StepAt)) (nss : List (List ℕ)) → lengths nss ≡ lengths xss → map numbers_of (numbered_records xss nss) ≡ nss
all_numbers_back [] [] same = refl
all_numbers_back [] (ns ∷ nss) same = absurd (none_and_some _ _ same)
all_numbers_back (xs ∷ xss) [] same = absurd (none_and_some _ _ (sym same))
all_numbers_back (xs ∷ xss) (ns ∷ nss) same =
    ap (λ r. r ∷ map numbers_of (numbered_records xss nss)) (numbers_back xs ns (first_number _ _ _ _ same))
    ∙ ap (λ r. ns ∷ r) (all_numbers_back xss nss (other_numbers _ _ _ _ same))

pub all_joined : (xss : List (List StepAt)) (nss : List (List ℕ)) → flat_map (λ steps. steps) (numbered_records xss nss) ≡ all_with_numbers xss nss
all_joined [] nss = refl
all_joined (xs ∷ xss) [] = refl
all_joined (xs ∷ xss) (ns ∷ nss) = ap (λ r. with_numbers xs ns ++ r) (all_joined xss nss)

-- ---- the record at a place

no_numbers : (xs : List StepAt) → [] ≡ with_numbers xs []
no_numbers [] = refl
no_numbers (x ∷ xs) = refl

pub record_at : (xss : List (List StepAt)) (nss : List (List ℕ)) (i : ℕ) → slice_index_or (numbered_records xss nss) i [] ≡ with_numbers (slice_index_or xss i []) (slice_index_or nss i [])
record_at [] nss i = refl
record_at (xs ∷ xss) [] i = no_numbers (slice_index_or (xs ∷ xss) i [])
record_at (xs ∷ xss) (ns ∷ nss) zero = refl
record_at (xs ∷ xss) (ns ∷ nss) (suc i) = record_at xss nss i

pub lengths_at : (xss : List (List StepAt)) (nss : List (List ℕ)) (i : ℕ) → lengths nss ≡ lengths xss → length (slice_index_or nss i []) ≡ length (slice_index_or xss i [])
lengths_at [] [] i same = refl
lengths_at [] (ns ∷ nss) i same = absurd (none_and_some _ _ same)
lengths_at (xs ∷ xss) [] i same = absurd (none_and_some _ _ (sym same))
lengths_at (xs ∷ xss) (ns ∷ nss) zero same = first_number _ _ _ _ same
lengths_at (xs ∷ xss) (ns ∷ nss) (suc i) same = lengths_at xss nss i (other_numbers _ _ _ _ same)

-- what holds of each door's steps and of each outlet's holds of those at each place
at_map : {B : Type 0} (g : B → List StepAt) (P : List StepAt → Type 0) (bs : List B) (i : ℕ) → P [] → ((b : B) → slice_get bs i ≡ Some b → P (g b)) → P (slice_index_or (map g bs) i [])
at_map g P [] i none each = none
at_map g P (b ∷ bs) zero none each = each b refl
at_map g P (b ∷ bs) (suc i) none each = at_map g P bs i none each

pub at_each : {A B : Type 0} (f : A → List StepAt) (g : B → List StepAt) (P : List StepAt → Type 0) (xs : List A) (ys : List B) (i : ℕ) → P []
    → ((a : A) → slice_get xs i ≡ Some a → P (f a))
    → ((k : ℕ) (b : B) → i ≡ length xs + k → slice_get ys k ≡ Some b → P (g b))
    → P (slice_index_or (map f xs ++ map g ys) i [])
at_each f g P [] ys i none first second = at_map g P ys i none (λ b at. second i b (omega arith) at)
at_each f g P (x ∷ xs) ys zero none first second = first x refl
at_each f g P (x ∷ xs) ys (suc i) none first second = at_each f g P xs ys i none first (λ k b e at. second k b (omega (arith, e)) at)

-- ---- one record alone

module _ {B : Type 0} (pick : List NumberedStep → List B) (nil : pick [] ≡ []) (app : (xs ys : List NumberedStep) → pick (xs ++ ys) ≡ pick xs ++ pick ys) where
  none_in_all : (records : List (List NumberedStep)) → ((i : ℕ) → pick (slice_index_or records i []) ≡ []) → pick (flat_map (λ steps. steps) records) ≡ []
  none_in_all [] none = nil
  none_in_all (r ∷ records) none =
      app r (flat_map (λ steps. steps) records)
      ∙ (ap (λ b. b ++ pick (flat_map (λ steps. steps) records)) (none zero) ∙ none_in_all records (λ i. none (suc i)))

  -- if all but one record have none, all of them have those of that one
  pub only_at : (records : List (List NumberedStep)) (place : ℕ) → ((i : ℕ) → i ≢ place → pick (slice_index_or records i []) ≡ [])
      → pick (flat_map (λ steps. steps) records) ≡ pick (slice_index_or records place [])
  only_at [] place others = refl
  only_at (r ∷ records) zero others =
      app r (flat_map (λ steps. steps) records)
      ∙ (ap (λ b. pick r ++ b) (none_in_all records (λ i. others (suc i) (λ e. absurd (omega (arith, e))))) ∙ append-nil (pick r))
  only_at (r ∷ records) (suc place) others =
      app r (flat_map (λ steps. steps) records)
      ∙ (ap (λ b. b ++ pick (flat_map (λ steps. steps) records)) (others zero (λ e. absurd (omega (arith, e))))
      ∙ only_at records place (λ i apart. others (suc i) (λ e. apart (omega (arith, e)))))

-- ---- steps that a record lacks

abbrev pub AllSteps : (StepAt → Type 0) → List StepAt → Type 0
AllSteps P [] = Unit {0}
AllSteps P (x ∷ xs) = P x × AllSteps P xs

pub filter_none : (test : StepAt → Bool) (xs : List StepAt) (ns : List ℕ) → AllSteps (λ x. test x ≡ false) xs
    → filter (λ x. test (record { dest = x.dest; step = x.step })) (with_numbers xs ns) ≡ []
filter_none test [] ns none = refl
filter_none test (x ∷ xs) [] none = refl
filter_none test (x ∷ xs) (n ∷ ns) none = rw none.0 (filter_none test xs ns none.1)

-- ---- steps without their numbers

pub either : (b : Bool) → (b ≡ true) ⊎ (b ≡ false)
either true = inl refl
either false = inr refl
