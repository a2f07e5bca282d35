-- What a door has recorded of the offers that were made through it.
use Rattle.std.proofs.Common.{◌≡◌, ◌≢◌, ◌<◌, ◌+◌, ℕ, true, false, ◌==◌, List, [], ◌∷◌, ◌++◌, length, map, refl, sym, ap, ◌∙◌, subst, inl, inr, arith, eq-eqb, get_or-set_same, get_or-set_other}
use Rattle.std.specs.Prelude.{nat_lt, slice_index, slice_set, if◌then◌else◌}
use Rattle.std.proofs.lemmas.Bool.Decides.{eqb_tells}
use Rattle.std.proofs.lemmas.List.{append-nil, append_assoc, map-append, length-set}
use Rattle.reader_core.specs.Configuration.{Dispatch}
use Rattle.reader_core.specs.Record.{all_dispatches}
use Rattle.dest_queue.specs.Numbered.{offers_of_reader}
use Rattle.queue_records.specs.Made.{offer_of}
use Rattle.queue_records.specs.Numbered.{with_number, step_of_offer}
use Rattle.queue_records.specs.Offers.{OfferMade, OffersMade, IsFresh, after_offer, most_entries, next_number}
use Rattle.queue_records.specs.declared.made.Made.{Made}
use Rattle.mio_loops.specs.Reading.{ReaderOffer, offers_of, AreMade}
use Rattle.settled_run.proofs.NumberedRecords.{either}

-- an entry, as it was offered
abbrev pub offered_as : OfferMade → ReaderOffer
offered_as e = record { reader = e.reader; sent = record { dest = e.dest; point = e.point } }

-- how many go to a destination
abbrev pub count_to : ℕ → List ReaderOffer → ℕ
count_to d [] = 0
count_to d (o ∷ os) = (if o.sent.dest == d then 1 else 0) + count_to d os

pub count_to-append : (d : ℕ) (xs ys : List ReaderOffer) → count_to d (xs ++ ys) ≡ count_to d xs + count_to d ys
count_to-append d [] ys = omega arith
count_to-append d (x ∷ xs) ys = omega (arith, count_to-append d xs ys)

pub offers_of-append : (r : ℕ) (xs ys : List ReaderOffer) → offers_of r (xs ++ ys) ≡ offers_of r xs ++ offers_of r ys
offers_of-append r [] ys = refl
offers_of-append r (x ∷ xs) ys = elim (either (x.reader == r)) [
  | inl h ↦ rw h (ap (λ s. x.sent ∷ s) (offers_of-append r xs ys))
  | inr h ↦ rw h (offers_of-append r xs ys)
]

-- ---- all offers are counted, and the first ones are entries

pub record IsReported (offered : List ReaderOffer) (before after : OffersMade) : Type 0 where
  pub front : List ReaderOffer
  pub back : List ReaderOffer
  pub all : offered ≡ front ++ back
  pub entries : map offered_as after.entries ≡ map offered_as before.entries ++ front
  -- without room there are no more entries
  pub full : nat_lt (length before.entries) most_entries ≡ false → front ≡ []
  pub totals : (d : ℕ) → d < length before.totals → slice_index after.totals d ≡ slice_index before.totals d + count_to d offered

total_of : (xs : List ℕ) (dest d : ℕ) → d < length xs → slice_index (slice_set xs dest (slice_index xs dest + 1)) d ≡ slice_index xs d + (if dest == d then 1 else 0)
total_of xs dest d there = elim (eqb_tells dest d) [
  | inl own ↦
      rw own.0
      (subst (λ k. slice_index (slice_set xs k (slice_index xs k + 1)) d ≡ slice_index xs d + 1) (sym own.1) (get_or-set_same xs d (slice_index xs d + 1) 0 there))
  | inr other ↦
      let apart : d ≢ dest = λ e. other.1 (sym e) in
      rw other.0 (get_or-set_other xs dest d (slice_index xs dest + 1) 0 apart ∙ omega arith)
]

pub reported : (offered : List ReaderOffer) (before after : OffersMade) → AreMade offered before after → IsReported offered before after
reported [] before after made =
    record {
      front = [];
      back = [];
      all = refl;
      entries = ap (λ m. map offered_as m.entries) made ∙ sym (append-nil (map offered_as before.entries));
      full = λ none. refl;
      totals = λ d there. ap (λ m. slice_index m.totals d) made ∙ omega arith;
    }
reported (o ∷ offered) before after made =
    let kept = made.0 in
    let mid = after_offer o.reader o.sent.dest o.sent.point kept before in
    let rest = reported offered mid after made.1 in
    let e : OfferMade = record { reader = o.reader; dest = o.sent.dest; number = next_number o.reader o.sent.dest before; point = o.sent.point; kept = kept } in
    let totals : (d : ℕ) → d < length before.totals → slice_index after.totals d ≡ slice_index before.totals d + count_to d (o ∷ offered) =
    λ d there.
    omega (
      arith,
      rest.totals d (subst (λ n. d < n) (sym (length-set before.totals o.sent.dest (slice_index before.totals o.sent.dest + 1))) there),
      total_of before.totals o.sent.dest d there,
    )
    in
    elim (either (nat_lt (length before.entries) most_entries)) [
      | inl room ↦
          let entries : mid.entries ≡ before.entries ++ e ∷ [] = rw room refl in
          record {
            front = o ∷ rest.front;
            back = rest.back;
            all = ap (λ os. o ∷ os) rest.all;
            entries =
                rest.entries
                ∙ (ap (λ es. map offered_as es ++ rest.front) entries
                ∙ (ap (λ es. es ++ rest.front) (map-append offered_as before.entries (e ∷ []))
                ∙ append_assoc (map offered_as before.entries) (o ∷ []) rest.front));
            full = λ none. absurd (true_is_not (sym room ∙ none));
            totals = totals;
          }
      | inr none ↦
          let entries : mid.entries ≡ before.entries = rw none refl in
          let nothing : rest.front ≡ [] = rest.full (subst (λ es. nat_lt (length es) most_entries ≡ false) (sym entries) none) in
          record {
            front = [];
            back = o ∷ offered;
            all = refl;
            entries = rest.entries ∙ (ap (λ es. map offered_as es ++ rest.front) entries ∙ ap (λ es. map offered_as before.entries ++ es) nothing);
            full = λ e. refl;
            totals = totals;
          }
    ]
  where
    true_is_not : true ≡ false → ⊥
    true_is_not e = cc

-- ---- if none was left out, a reader's offers are its entries

-- each goes to one of the first destinations, this many
abbrev pub AreBelow : ℕ → List Dispatch → Type 0
AreBelow count [] = Unit {0}
AreBelow count (s ∷ sent) = (s.dest < count) × AreBelow count sent

pub below_back : (count : ℕ) (xs ys : List Dispatch) → AreBelow count (xs ++ ys) → AreBelow count ys
below_back count [] ys below = below
below_back count (x ∷ xs) ys below = below_back count xs ys below.1

pub below_front : (count : ℕ) (xs ys : List Dispatch) → AreBelow count (xs ++ ys) → AreBelow count xs
below_front count [] ys below = tt
below_front count (x ∷ xs) ys below = (below.0, below_front count xs ys below.1)

none_left : (count r : ℕ) (back : List ReaderOffer) → AreBelow count (offers_of r back) → ((d : ℕ) → d < count → count_to d back ≡ 0) → offers_of r back ≡ []
none_left count r [] below none = refl
none_left count r (o ∷ back) below none = elim (either (o.reader == r)) [
  | inl h ↦
      let here : AreBelow count (o.sent ∷ offers_of r back) = rw h at below in
      let some : count_to o.sent.dest (o ∷ back) ≡ 1 + count_to o.sent.dest back = rw (eq-eqb o.sent.dest o.sent.dest refl) refl in
      absurd (omega (arith, some, none o.sent.dest here.0))
  | inr h ↦
      let rest : AreBelow count (offers_of r back) = rw h at below in
      rw h (none_left count r back rest (λ d there. omega (arith, none d there)))
]

pub all_are_entries : (count receiver r : ℕ) (offered : List ReaderOffer) (before after : OffersMade) → IsFresh count receiver before → IsReported offered before after
    → ((d : ℕ) → d < count → slice_index after.totals d ≡ count_to d (map offered_as after.entries))
    → AreBelow count (offers_of r offered) → offers_of r offered ≡ offers_of r (map offered_as after.entries)
all_are_entries count receiver r offered before after fresh reported whole below =
    let entries : map offered_as after.entries ≡ reported.front = reported.entries ∙ ap (λ es. map offered_as es ++ reported.front) fresh.entries in
    let parts : offers_of r offered ≡ offers_of r reported.front ++ offers_of r reported.back = ap (offers_of r) reported.all ∙ offers_of-append r reported.front reported.back in
    let none : (d : ℕ) → d < count → count_to d reported.back ≡ 0 = λ d there.
    omega (
      arith,
      whole d there,
      ap (count_to d) entries,
      reported.totals d (subst (λ n. d < n) (sym fresh.dests) there),
      fresh.totals d,
      ap (count_to d) reported.all,
      count_to-append d reported.front reported.back,
    )
    in
    parts
    ∙ (ap (λ s. offers_of r reported.front ++ s) (none_left count r reported.back (below_back count (offers_of r reported.front) (offers_of r reported.back) (subst (AreBelow count) parts below)) none)
    ∙ (append-nil (offers_of r reported.front) ∙ ap (offers_of r) (sym entries)))

-- ---- the entries of a closed door

pub dispatches_reported : (r : ℕ) (items : List Made)
    → all_dispatches (offers_of_reader r (map (with_number 0) (map (λ made. step_of_offer (offer_of made)) items)))
    ≡ offers_of r (map offered_as (map offer_of items))
dispatches_reported r [] = refl
dispatches_reported r (m ∷ items) = elim (either (m.reader == r)) [
  | inl h ↦ rw h (ap (λ s. record { dest = m.dest.0; point = (offer_of m).point } ∷ s) (dispatches_reported r items))
  | inr h ↦ rw h (dispatches_reported r items)
]
