-- The placed events of each part, and the steps of the queues among them.
use Rattle.std.proofs.Common.{◌≡◌, ◌≢◌, ◌<◌, ◌≤◌, ◌+◌, ℕ, zero, suc, Bool, true, false, List, [], ◌∷◌, ◌++◌, refl, sym, ap, ◌∙◌, subst, inl, inr, filter, map, flat_map, arith}
use Rattle.std.proofs.lemmas.Bool.{false≢true, ne_eqb}
use Rattle.std.proofs.lemmas.Bool.Decides.{eqb_tells}
use Rattle.std.proofs.lemmas.List.{append-nil}
use Rattle.std.proofs.lemmas.List.Elements.{filter-append}
use Rattle.std.proofs.lemmas.List.Concat.{flat_map-append}
use Rattle.std.specs.Prelude.{◌⊎◌, slice_index_or, drop}
use Rattle.std.specs.List.{range_with_len}
use Rattle.relay_core.specs.RunOfOrder.{Placed, Part, OfReader, OfWriter, part_of, is_same, parts_of, is_of_queue, before_step, behind_step, left_behind, placed_by}
use Rattle.relay_core.proofs.Localities.{either, own_at}

-- ---- parts

number_of : Part → ℕ
number_of (OfReader r) = r
number_of (OfWriter d) = d

is_reader : Part → Bool
is_reader (OfReader r) = true
is_reader (OfWriter d) = false

pub is_same_decides : (p q : Part) → ((is_same p q ≡ true) × (p ≡ q)) ⊎ ((is_same p q ≡ false) × (p ≢ q))
unfolding number_of is_reader
is_same_decides (OfReader a) (OfReader b) = elim (eqb_tells a b) [
  | inl own ↦ inl (own.0, ap OfReader own.1)
  | inr other ↦ inr (other.0, λ e. other.1 (ap number_of e))
]
is_same_decides (OfReader a) (OfWriter b) = inr (refl, λ e. false≢true (sym (ap is_reader e)))
is_same_decides (OfWriter a) (OfReader b) = inr (refl, λ e. false≢true (ap is_reader e))
is_same_decides (OfWriter a) (OfWriter b) = elim (eqb_tells a b) [
  | inl own ↦ inl (own.0, ap OfWriter own.1)
  | inr other ↦ inr (other.0, λ e. other.1 (ap number_of e))
]

same_self : (p : Part) → is_same p p ≡ true
same_self p = elim (is_same_decides p p) [
  | inl own ↦ own.0
  | inr other ↦ absurd (other.1 refl)
]

same_flips : (p q : Part) → is_same p q ≡ false → is_same q p ≡ false
same_flips p q e = elim (is_same_decides q p) [
  | inl own ↦ absurd (false≢true (sym e ∙ (ap (λ k. is_same p k) own.1 ∙ same_self p)))
  | inr other ↦ other.0
]

-- ---- lists of one part

abbrev pub AreOf : Part → List Placed → Type 0
AreOf p [] = Unit {0}
AreOf p (x ∷ xs) = (part_of x ≡ p) × AreOf p xs

own_same : (p : Part) (xs : List Placed) → AreOf p xs → own_at p xs ≡ xs
own_same p [] of = refl
own_same p (x ∷ xs) of =
    let same : is_same p (part_of x) ≡ true = ap (is_same p) of.0 ∙ same_self p in
    rw same (ap (λ ys. x ∷ ys) (own_same p xs of.1))

own_other : (p q : Part) (xs : List Placed) → is_same p q ≡ false → AreOf q xs → own_at p xs ≡ []
own_other p q [] apart of = refl
own_other p q (x ∷ xs) apart of =
    let other : is_same p (part_of x) ≡ false = ap (is_same p) of.0 ∙ apart in
    rw other (own_other p q xs apart of.1)

of_before : (p : Part) (xs : List Placed) → AreOf p xs → AreOf p (before_step xs)
of_before p [] of = tt
of_before p (x ∷ xs) of = elim (either (is_of_queue x)) [
  | inl e ↦ rw e tt
  | inr e ↦ rw e (of.0, of_before p xs of.1)
]

of_behind : (p : Part) (xs : List Placed) → AreOf p xs → AreOf p (behind_step xs)
of_behind p [] of = tt
of_behind p (x ∷ xs) of = elim (either (is_of_queue x)) [
  | inl e ↦ rw e of.1
  | inr e ↦ rw e (of_behind p xs of.1)
]

-- ---- the steps of the queues

abbrev pub queue_steps_in : List Placed → List Placed
queue_steps_in xs = filter is_of_queue xs

none_before : (xs : List Placed) → queue_steps_in (before_step xs) ≡ []
none_before [] = refl
none_before (x ∷ xs) = elim (either (is_of_queue x)) [
  | inl e ↦ rw e refl
  | inr e ↦ rw (e, e) (none_before xs)
]

-- the first step divides the list
record IsParted (step : Placed) (steps xs : List Placed) : Type 0 where
  whole : xs ≡ before_step xs ++ step ∷ behind_step xs
  behind : queue_steps_in (behind_step xs) ≡ steps

parted : (step : Placed) (steps xs : List Placed) → queue_steps_in xs ≡ step ∷ steps → IsParted step steps xs
parted step steps [] e = absurd (cc)
parted step steps (x ∷ xs) e = elim (either (is_of_queue x)) [
  | inl h ↦
      let e2 : x ∷ queue_steps_in xs ≡ step ∷ steps = rw h at e in
      record {
        whole = rw h (ap (λ y. y ∷ xs) (ap (λ ys. slice_index_or ys 0 x) e2));
        behind = rw h (ap (λ ys. drop 1 ys) e2);
      }
  | inr h ↦
      let e2 : queue_steps_in xs ≡ step ∷ steps = rw h at e in
      let rest = parted step steps xs e2 in
      record {
        whole = rw h (ap (λ ys. x ∷ ys) rest.whole);
        behind = rw h rest.behind;
      }
]

abbrev pub AreSteps : List Placed → Type 0
AreSteps [] = Unit {0}
AreSteps (x ∷ xs) = (is_of_queue x ≡ true) × AreSteps xs

-- each part has those steps of the order that it performs
abbrev pub HaveSteps : (Part → List Placed) → List Placed → Type 0
HaveSteps own steps = (q : Part) → queue_steps_in (own q) ≡ own_at q steps

abbrev pub HaveOwn : (Part → List Placed) → Type 0
HaveOwn own = (q : Part) → AreOf q (own q)

first_of : (own : Part → List Placed) (step : Placed) (steps : List Placed) → HaveSteps own (step ∷ steps)
    → IsParted step (own_at (part_of step) steps) (own (part_of step))
first_of own step steps have =
    parted step (own_at (part_of step) steps) (own (part_of step)) (have (part_of step) ∙ rw (same_self (part_of step)) refl)

have_on : (own : Part → List Placed) (step : Placed) (steps : List Placed) → HaveSteps own (step ∷ steps)
    → HaveSteps (left_behind (part_of step) own) steps
have_on own step steps have q = elim (is_same_decides (part_of step) q) [
  | inl own_part ↦
      rw own_part.0
      (subst (λ p. queue_steps_in (behind_step (own p)) ≡ own_at p steps) own_part.1 (first_of own step steps have).behind)
  | inr other ↦ rw other.0 (have q ∙ rw (same_flips (part_of step) q other.0) refl)
]

own_on : (own : Part → List Placed) (p : Part) → HaveOwn own → HaveOwn (left_behind p own)
own_on own p of q = elim (is_same_decides p q) [
  | inl own_part ↦ rw own_part.0 (of_behind q (own q) (of q))
  | inr other ↦ rw other.0 (of q)
]

none_left : (parts : List Part) (own : Part → List Placed) → HaveSteps own [] → queue_steps_in (flat_map own parts) ≡ []
none_left [] own have = refl
none_left (p ∷ parts) own have = rw (filter-append, have p) (none_left parts own have)

-- the placed events have the steps in their order
pub steps_placed : (parts : List Part) (own : Part → List Placed) (steps : List Placed) → AreSteps steps → HaveSteps own steps
    → queue_steps_in (placed_by parts own steps) ≡ steps
steps_placed parts own [] are have = none_left parts own have
steps_placed parts own (step ∷ steps) are have =
    rw (filter-append, none_before, are.0)
    (ap (λ xs. step ∷ xs) (steps_placed parts (left_behind (part_of step) own) steps are.1 (have_on own step steps have)))

-- ---- the events of one part

abbrev HasOnce : List Part → Part → Type 0
HasOnce parts p = (own : Part → List Placed) → HaveOwn own → own_at p (flat_map own parts) ≡ own p

-- the placed events have those of a part in their order
own_placed : (parts : List Part) (p : Part) → HasOnce parts p → (own : Part → List Placed) (steps : List Placed)
    → HaveOwn own → HaveSteps own steps → own_at p (placed_by parts own steps) ≡ own p
own_placed parts p once own [] of have = once own of
own_placed parts p once own (step ∷ steps) of have =
    let q = part_of step in
    let next = own_placed parts p once (left_behind q own) steps (own_on own q of) (have_on own step steps have) in
    elim (is_same_decides p q) [
      | inl own_part ↦
          let here : own_at p (before_step (own q)) ≡ before_step (own q) = ap (λ k. own_at k (before_step (own q))) own_part.1 ∙ own_same q (before_step (own q)) (of_before q (own q) (of q)) in
          let flips : is_same q p ≡ true = ap (is_same q) own_part.1 ∙ same_self q in
          let rest : own_at p (placed_by parts (left_behind q own) steps) ≡ behind_step (own p) = rw flips at next in
          rw (filter-append, here, own_part.0, rest)
          (rw own_part.1 (sym (first_of own step steps have).whole))
      | inr other ↦
          let flips : is_same q p ≡ false = same_flips p q other.0 in
          let rest : own_at p (placed_by parts (left_behind q own) steps) ≡ own p = rw flips at next in
          rw (filter-append, own_other p q (before_step (own q)) other.0 (of_before q (own q) (of q)), other.0) rest
    ]

module _ (own : Part → List Placed) (of : HaveOwn own) (f : ℕ → Part) where
  range_out : (p : Part) (a n : ℕ) → ((k : ℕ) → a ≤ k → is_same p (f k) ≡ false)
      → own_at p (flat_map own (map f (range_with_len a n))) ≡ []
  range_out p a zero apart = refl
  range_out p a (suc n) apart =
      rw (filter-append, own_other p (f a) (own (f a)) (apart a (omega arith)) (of (f a)))
      (range_out p (a + 1) n (λ k l. apart k (omega (arith, l))))

  range_in : ((k m : ℕ) → k ≢ m → is_same (f k) (f m) ≡ false) → (k a n : ℕ) → a ≤ k → k < a + n
      → own_at (f k) (flat_map own (map f (range_with_len a n))) ≡ own (f k)
  range_in apart k a zero low high = absurd (omega (arith, low, high))
  range_in apart k a (suc n) low high = elim (eqb_tells k a) [
    | inl own_number ↦
        let rest : own_at (f k) (flat_map own (map f (range_with_len (a + 1) n))) ≡ [] = range_out (f k) (a + 1) n (λ m l. apart k m (λ e. absurd (omega (arith, l, e, own_number.1)))) in
        let here : own_at (f k) (own (f a)) ≡ own (f k) = ap (λ m. own_at (f k) (own (f m))) (sym own_number.1) ∙ own_same (f k) (own (f k)) (of (f k)) in
        rw (filter-append, rest, here) (append-nil (own (f k)))
    | inr other ↦
        rw (filter-append, own_other (f k) (f a) (own (f a)) (apart k a other.1) (of (f a)))
        (range_in apart k (a + 1) n (omega (arith, low, other.1)) (omega (arith, high)))
  ]

apart_readers : (k m : ℕ) → k ≢ m → is_same (OfReader k) (OfReader m) ≡ false
apart_readers k m n = ne_eqb k m n

apart_writers : (k m : ℕ) → k ≢ m → is_same (OfWriter k) (OfWriter m) ≡ false
apart_writers k m n = ne_eqb k m n

reader_once : (readers dests r : ℕ) → r < readers → HasOnce (parts_of readers dests) (OfReader r)
reader_once readers dests r l own of =
    rw (flat_map-append, filter-append, range_in own of OfReader apart_readers r 0 readers (omega arith) (omega (arith, l)), range_out own of OfWriter (OfReader r) 0 dests (λ k le. refl))
    (append-nil (own (OfReader r)))

writer_once : (readers dests d : ℕ) → d < dests → HasOnce (parts_of readers dests) (OfWriter d)
writer_once readers dests d l own of =
    rw (flat_map-append, filter-append, range_in own of OfWriter apart_writers d 0 dests (omega arith) (omega (arith, l)), range_out own of OfReader (OfWriter d) 0 readers (λ k le. refl))
    refl

module _ (readers dests : ℕ) (own : Part → List Placed) (steps : List Placed) (of : HaveOwn own) (have : HaveSteps own steps) where
  pub reader_placed : (r : ℕ) → r < readers → own_at (OfReader r) (placed_by (parts_of readers dests) own steps) ≡ own (OfReader r)
  reader_placed r l = own_placed (parts_of readers dests) (OfReader r) (reader_once readers dests r l) own steps of have

  pub writer_placed : (d : ℕ) → d < dests → own_at (OfWriter d) (placed_by (parts_of readers dests) own steps) ≡ own (OfWriter d)
  writer_placed d l = own_placed (parts_of readers dests) (OfWriter d) (writer_once readers dests d l) own steps of have
