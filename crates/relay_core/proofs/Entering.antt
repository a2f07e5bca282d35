-- A reader that goes through its log, and makes the recorded offers behind the entries that give them, does only what
-- is allowed.
use Rattle.std.proofs.Common.{◌≡◌, ◌≤◌, ◌+◌, ℕ, zero, suc, true, false, List, [], ◌∷◌, ◌++◌, length, refl, sym, ap, ◌∙◌, subst, inl, inr, map, flat_map, take, drop, arith}
use Rattle.std.proofs.Math.Seq.{take-nil, drop-nil}
use Rattle.std.proofs.lemmas.Bool.{false≢true}
use Rattle.std.proofs.lemmas.List.{append-nil, append_assoc, append_cancel_left, length-append, drop_all, drop_at, take-map, drop-map, drop-drop, take-append-drop}
use Rattle.std.proofs.lemmas.List.Concat.{flat_map-append}
use Rattle.std.specs.Prelude.{◌⊎◌, ◌&&◌, slice_index_or}
use Rattle.line_text.specs.Connection.{arrivals}
use Rattle.dest_queue.specs.RecordedStep.{RecordedStep, Offered, Took}
use Rattle.reader_core.specs.Input.{Stream, has_connections, fresh_input, current}
use Rattle.reader_core.specs.Reading.{Reading, IsOrderly, accepted_of}
use Rattle.reader_core.specs.Configuration.{Configuration, Dispatch, sends}
use Rattle.reader_core.specs.Entries.{InputEntry, Piece, End, input_after_entry, input_after_entries}
use Rattle.reader_core.specs.declared.kind.ReaderKind.{ReaderKind}
use Rattle.reader_core.specs.declared.kind.ReaderKind.TheVariants.{Line, Pickle, Datagram}
use Rattle.relay_core.specs.World.{ReaderState, fresh_reader, waiting_of, reader_after_offer}
use Rattle.dest_queue.specs.Numbered.{NumberedStep, is_offer_of}
use Rattle.reader_core.specs.Record.{dispatches_of, all_dispatches, offers_on, NoneAfterClosing, AreMadeBefore, IsRecordOf}
use Rattle.relay_core.specs.RunOfOrder.{placed_of, Placed, Entering, Stepping, step_of_recorded, given_by, own_of_reader}
use Rattle.relay_core.proofs.Inputs.{accepted_of-fed, accepted_of-ended}
use Rattle.relay_core.proofs.Localities.{MayRead, after_read, Reads}

abbrev pub AreOffers : ℕ → List NumberedStep → Type 0
AreOffers r [] = Unit {0}
AreOffers r (x ∷ xs) = (is_offer_of r x.step ≡ true) × AreOffers r xs

are_take : (r n : ℕ) (xs : List NumberedStep) → AreOffers r xs → AreOffers r (take n xs)
are_take r zero xs are = tt
are_take r (suc n) [] are = tt
are_take r (suc n) (x ∷ xs) are = (are.0, are_take r n xs are.1)

are_drop : (r n : ℕ) (xs : List NumberedStep) → AreOffers r xs → AreOffers r (drop n xs)
are_drop r zero xs are = are
are_drop r (suc n) [] are = tt
are_drop r (suc n) (x ∷ xs) are = are_drop r n xs are.1

-- an offer is sent once
record IsSent (r : ℕ) (dest : ℕ) (step : RecordedStep) : Type 0 where
  sent : Dispatch
  is : dispatches_of dest step ≡ sent ∷ []

is_sent : (r dest : ℕ) (step : RecordedStep) → is_offer_of r step ≡ true → IsSent r dest step
is_sent r dest (Offered reader number point kept) e = record { sent = record { dest = dest; point = point }; is = refl }
is_sent r dest (Took limit taken) e = absurd (false≢true e)

length_sent : (r : ℕ) (xs : List NumberedStep) → AreOffers r xs → length (all_dispatches xs) ≡ length xs
length_sent r [] are = refl
length_sent r (x ∷ xs) are = let one = is_sent r x.dest x.step are.0 in rw one.is (ap (λ n. suc n) (length_sent r xs are.1))

-- of what is sent, a first part of the recorded offers
record IsSplit (got later lacking : List Dispatch) (offers : List NumberedStep) : Type 0 where
  rest : List Dispatch
  now_sent : got ≡ all_dispatches (take (length got) offers) ++ rest
  -- either all of it was recorded, or all recorded offers are of it
  or_end :
      ((rest ≡ []) × (later ≡ all_dispatches (drop (length got) offers) ++ lacking))
      ⊎ (drop (length got) offers ≡ [])

split : (r : ℕ) (got later lacking : List Dispatch) (offers : List NumberedStep) → AreOffers r offers
    → got ++ later ≡ all_dispatches offers ++ lacking → IsSplit got later lacking offers
split r [] later lacking offers are e = record { rest = []; now_sent = refl; or_end = inl (refl, e) }
split r (x ∷ got) later lacking [] are e = record { rest = x ∷ got; now_sent = refl; or_end = inr refl }
split r (x ∷ got) later lacking (o ∷ offers) are e =
    let one = is_sent r o.dest o.step are.0 in
    let e2 : x ∷ (got ++ later) ≡ one.sent ∷ (all_dispatches offers ++ lacking) = rw one.is at e in
    let tails : got ++ later ≡ all_dispatches offers ++ lacking = ap (λ ys. drop 1 ys) e2 in
    let further = split r got later lacking offers are.1 tails in
    record {
      rest = further.rest;
      now_sent = rw one.is (ap (λ y. y ∷ got) (ap (λ ys. slice_index_or ys 0 x) e2) ∙ ap (λ ys. one.sent ∷ ys) further.now_sent);
      or_end = further.or_end;
    }

-- ---- offers one after another

state : ReaderKind → List Stream → ℕ → ReaderState
state kind input made = record { kind = kind; input = input; made = made }

next_drop : {A : Type 0} (n : ℕ) (xs ys : List A) (y : A) → drop n xs ≡ y ∷ ys → drop (n + 1) xs ≡ ys
next_drop n xs ys y e = sym (drop-drop 1 n xs) ∙ ap (drop 1) e

module _ (reading : Reading) (c : Configuration) where
  offer_first : (r : ℕ) (s : ReaderState) (dest : ℕ) (step : RecordedStep) (rest : List Dispatch) → is_offer_of r step ≡ true
      → waiting_of reading c s ≡ dispatches_of dest step ++ rest
      → MayRead reading c s (Stepping dest (step_of_recorded step)) × (waiting_of reading c (reader_after_offer s) ≡ rest)
  offer_first r s dest (Offered reader number point kept) rest e waits =
      (record { others = rest; waits = waits }, next_drop s.made _ rest _ waits)
  offer_first r s dest (Took limit taken) rest e waits = absurd (false≢true e)

  offers_go : (r : ℕ) (kind : ReaderKind) (input : List Stream) (made : ℕ) (offers : List NumberedStep) (rest : List Dispatch) (tail : List Placed) (end : ReaderState)
      → AreOffers r offers → drop made (offers_on reading c kind input) ≡ all_dispatches offers ++ rest
      → Reads reading c (record { kind = kind; input = input; made = made + length offers }) tail end
      → Reads reading c (record { kind = kind; input = input; made = made }) (map placed_of offers ++ tail) end
  offers_go r kind input made [] rest tail end are waits reads =
      let same : made + zero ≡ made = omega arith in subst (λ n. Reads reading c (record { kind = kind; input = input; made = n }) tail end) same reads
  offers_go r kind input made (o ∷ offers) rest tail end are waits reads =
      let s : ReaderState = record { kind = kind; input = input; made = made } in
      let first = offer_first r s o.dest o.step (all_dispatches offers ++ rest) are.0 (waits ∙ append_assoc (dispatches_of o.dest o.step) (all_dispatches offers) rest) in
      let count : made + suc (length offers) ≡ made + 1 + length offers = omega arith in
      (first.0, offers_go r kind input (made + 1) offers rest tail end are.1 first.1 (subst (λ n. Reads reading c (record { kind = kind; input = input; made = n }) tail end) count reads))

  -- ---- entries one after another

  -- at each piece the connection is open, and this number of offers is all that was sent before it
  abbrev AreEntered : ℕ → ReaderKind → List Stream → List InputEntry → Type 0
  AreEntered made kind input [] = Unit {0}
  AreEntered made kind input (Piece bytes moment ∷ entries) =
      ((has_connections kind && reading.closes kind (current input)) ≡ false)
      × (length (offers_on reading c kind input) ≤ made)
      × AreEntered made kind (input_after_entry kind (Piece bytes moment) input) entries
  AreEntered made kind input (End ∷ entries) = AreEntered made kind (input_after_entry kind End input) entries

  are_entered : (made : ℕ) (kind : ReaderKind) (input : List Stream) (entries : List InputEntry) → NoneAfterClosing reading c kind input entries
      → AreMadeBefore reading c made kind input entries → AreEntered made kind input entries
  are_entered made kind input [] opened before = tt
  are_entered made kind input (Piece bytes moment ∷ entries) opened before =
      (opened.0, before.0, are_entered made kind (input_after_entry kind (Piece bytes moment) input) entries opened.1 before.1)
  are_entered made kind input (End ∷ entries) opened before = are_entered made kind (input_after_entry kind End input) entries opened before

  record Grows (kind : ReaderKind) (before more : List Stream) : Type 0 where
    gained : List Dispatch
    is : offers_on reading c kind more ≡ offers_on reading c kind before ++ gained

  module _ (orderly : IsOrderly reading) where
    entry_grows : (kind : ReaderKind) (input : List Stream) (entry : InputEntry) → Grows kind input (input_after_entry kind entry input)
    entry_grows kind input (Piece bytes moment) =
        let more = accepted_of-fed reading orderly kind (arrivals bytes moment) input in
        record {
          gained = flat_map (sends c) more.0;
          is = ap (flat_map (sends c)) more.1 ∙ flat_map-append (sends c) (accepted_of reading kind input) more.0;
        }
    entry_grows kind input End =
        record {
          gained = [];
          is = ap (flat_map (sends c)) (accepted_of-ended reading orderly kind input) ∙ sym (append-nil (offers_on reading c kind input));
        }

    entries_grow : (kind : ReaderKind) (input : List Stream) (entries : List InputEntry) → Grows kind input (input_after_entries kind entries input)
    entries_grow kind input [] = record { gained = []; is = sym (append-nil (offers_on reading c kind input)) }
    entries_grow kind input (entry ∷ entries) =
        let first = entry_grows kind input entry in
        let others = entries_grow kind (input_after_entry kind entry input) entries in
        record {
          gained = first.gained ++ others.gained;
          is =
              others.is ∙ ap (λ xs. xs ++ others.gained) first.is
              ∙ append_assoc (offers_on reading c kind input) first.gained others.gained;
        }

    given_is : (kind : ReaderKind) (input : List Stream) (entry : InputEntry)
        → given_by reading c kind input entry ≡ length (entry_grows kind input entry).gained
    given_is kind input entry =
        let first = entry_grows kind input entry in
        let count : length (offers_on reading c kind (input_after_entry kind entry input)) ≡ length (offers_on reading c kind input) + length first.gained = ap (λ xs. length xs) first.is ∙ length-append (offers_on reading c kind input) first.gained in
        omega (arith, count)

    may_enter : (r made : ℕ) (kind : ReaderKind) (input : List Stream) (entry : InputEntry) (entries : List InputEntry) (all : ℕ)
        → AreEntered all kind input (entry ∷ entries) → (length (offers_on reading c kind input) ≤ all → length (offers_on reading c kind input) ≤ made)
        → MayRead reading c (record { kind = kind; input = input; made = made }) (Entering r entry)
    may_enter r made kind input (Piece bytes moment) entries all may few = (may.0, drop_all made (offers_on reading c kind input) (few may.1))
    may_enter r made kind input End entries all may few = tt

    after_enter : (r made : ℕ) (kind : ReaderKind) (input : List Stream) (entry : InputEntry)
        → after_read reading c (record { kind = kind; input = input; made = made }) (Entering r entry) ≡ record { kind = kind; input = input_after_entry kind entry input; made = made }
    after_enter r made kind input (Piece bytes moment) = refl
    after_enter r made kind input End = refl

    entered_rest : (kind : ReaderKind) (input : List Stream) (entry : InputEntry) (entries : List InputEntry) (all : ℕ)
        → AreEntered all kind input (entry ∷ entries) → AreEntered all kind (input_after_entry kind entry input) entries
    entered_rest kind input (Piece bytes moment) entries all may = may.2
    entered_rest kind input End entries all may = may

    -- if no more offers were recorded
    reads_end : (r : ℕ) (kind : ReaderKind) (input : List Stream) (made : ℕ) (entries : List InputEntry) → AreEntered made kind input entries
        → Reads reading c (record { kind = kind; input = input; made = made }) (own_of_reader reading c r kind input entries [])
        (record { kind = kind; input = input_after_entries kind entries input; made = made })
    reads_end r kind input made [] may = refl
    reads_end r kind input made (entry ∷ entries) may =
        let n = given_by reading c kind input entry in (
          may_enter r made kind input entry entries made may (λ l. l),
          rw (after_enter r made kind input entry, take-nil n, drop-nil n)
              (reads_end r kind (input_after_entry kind entry input) made entries (entered_rest kind input entry entries made may)),
        )

    -- the offers are those that the entries give, except the missing ones
    reads_own : (r : ℕ) (kind : ReaderKind) (input : List Stream) (made : ℕ) (entries : List InputEntry) (offers : List NumberedStep) (lacking : List Dispatch)
        → AreOffers r offers → length (offers_on reading c kind input) ≡ made
        → offers_on reading c kind (input_after_entries kind entries input) ≡ offers_on reading c kind input ++ (all_dispatches offers ++ lacking)
        → AreEntered (made + length offers) kind input entries
        → Reads reading c (record { kind = kind; input = input; made = made }) (own_of_reader reading c r kind input entries (map placed_of offers))
        (record { kind = kind; input = input_after_entries kind entries input; made = made + length offers })
    reads_own r kind input made [] [] lacking are count all may =
        let same : made + zero ≡ made = omega arith in ap (λ n. record { kind = kind; input = input; made = n }) (sym same)
    reads_own r kind input made [] (o ∷ offers) lacking are count all may =
        let one = is_sent r o.dest o.step are.0 in
        let none : [] ≡ (dispatches_of o.dest o.step ++ all_dispatches offers) ++ lacking = append_cancel_left (offers_on reading c kind input) [] _ (append-nil (offers_on reading c kind input) ∙ all) in
        let none2 : [] ≡ one.sent ∷ (all_dispatches offers ++ lacking) = rw one.is at none in
        absurd (cc)
    reads_own r kind input made (entry ∷ entries) offers lacking are count all may =
        let first = entry_grows kind input entry in
        let others = entries_grow kind (input_after_entry kind entry input) entries in
        let n = length first.gained in
        let whole : offers_on reading c kind input ++ (first.gained ++ others.gained) ≡ offers_on reading c kind input ++ (all_dispatches offers ++ lacking) =
        sym (append_assoc (offers_on reading c kind input) first.gained others.gained) ∙ (ap (λ xs. xs ++ others.gained) (sym first.is) ∙ (sym others.is ∙ all)) in
        let parts = split r first.gained others.gained lacking offers are (append_cancel_left (offers_on reading c kind input) _ _ whole) in
        let counts : length (take n offers) + length (drop n offers) ≡ length offers = sym (length-append (take n offers) (drop n offers)) ∙ ap (λ xs. length xs) (take-append-drop n offers) in
        let waits : drop made (offers_on reading c kind (input_after_entry kind entry input)) ≡ all_dispatches (take n offers) ++ parts.rest = ap (drop made) first.is ∙ (drop_at (offers_on reading c kind input) first.gained made count ∙ parts.now_sent) in
        let after = made + length (take n offers) in
        let may_rest = entered_rest kind input entry entries (made + length offers) may in
        let rest : Reads reading c (record { kind = kind; input = input_after_entry kind entry input; made = after })
        (own_of_reader reading c r kind (input_after_entry kind entry input) entries (map placed_of (drop n offers)))
        (record { kind = kind; input = input_after_entries kind (entry ∷ entries) input; made = made + length offers }) =
        elim parts.or_end [
          | inl goes_on ↦
              let sent : length first.gained ≡ length (take n offers) = ap (λ xs. length xs) (parts.now_sent ∙ (ap (λ xs. all_dispatches (take n offers) ++ xs) goes_on.0 ∙ append-nil (all_dispatches (take n offers)))) ∙ length_sent r (take n offers) (are_take r n offers are) in
              let more : length (offers_on reading c kind (input_after_entry kind entry input)) ≡ after = ap (λ xs. length xs) first.is ∙ (length-append (offers_on reading c kind input) first.gained ∙ omega (arith, count, sent)) in
              let total : after + length (drop n offers) ≡ made + length offers = omega (arith, counts) in
              subst (λ k. Reads reading c (record { kind = kind; input = input_after_entry kind entry input; made = after })
              (own_of_reader reading c r kind (input_after_entry kind entry input) entries (map placed_of (drop n offers)))
              (record { kind = kind; input = input_after_entries kind (entry ∷ entries) input; made = k })) total
              (reads_own r kind (input_after_entry kind entry input) after entries (drop n offers) lacking (are_drop r n offers are) more
              (others.is ∙ ap (λ xs. offers_on reading c kind (input_after_entry kind entry input) ++ xs) goes_on.1)
              (subst (λ k. AreEntered k kind (input_after_entry kind entry input) entries) (sym total) may_rest))
          | inr ends ↦
              let total : after ≡ made + length offers = let none : length (drop n offers) ≡ 0 = ap (λ xs. length xs) ends in omega (arith, counts, none) in
              rw ends
              (subst (λ k. Reads reading c (record { kind = kind; input = input_after_entry kind entry input; made = after })
              (own_of_reader reading c r kind (input_after_entry kind entry input) entries [])
              (record { kind = kind; input = input_after_entries kind (entry ∷ entries) input; made = k })) total
              (reads_end r kind (input_after_entry kind entry input) after entries
              (subst (λ k. AreEntered k kind (input_after_entry kind entry input) entries) (sym total) may_rest)))
        ] in (
          may_enter r made kind input entry entries (made + length offers) may (λ l. omega (arith, count)),
          rw (after_enter r made kind input entry, given_is kind input entry, take-map placed_of n offers, drop-map placed_of n offers)
              (offers_go r kind (input_after_entry kind entry input) made (take n offers) parts.rest
              (own_of_reader reading c r kind (input_after_entry kind entry input) entries (map placed_of (drop n offers)))
              (record { kind = kind; input = input_after_entries kind (entry ∷ entries) input; made = made + length offers })
              (are_take r n offers are) waits rest),
        )

    nothing_yet : (kind : ReaderKind) → offers_on reading c kind (fresh_input kind) ≡ []
    nothing_yet Line = let none = orderly.nothing Line refl in rw none refl
    nothing_yet Pickle = let none = orderly.nothing Pickle refl in rw none refl
    nothing_yet Datagram = refl

    -- from the first entry on
    pub reads_log : (r : ℕ) (kind : ReaderKind) (entries : List InputEntry) (offers : List NumberedStep) → AreOffers r offers
        → IsRecordOf reading c kind entries offers
        → Reads reading c (fresh_reader kind) (own_of_reader reading c r kind (fresh_input kind) entries (map placed_of offers))
        (record { kind = kind; input = input_after_entries kind entries (fresh_input kind); made = length offers })
    reads_log r kind entries offers are is =
        let count : 0 + length offers ≡ length offers = omega arith in
        let entered_so = are_entered (length offers) kind (fresh_input kind) entries is.stays_open is.of_last in
        subst (λ n. Reads reading c (fresh_reader kind) (own_of_reader reading c r kind (fresh_input kind) entries (map placed_of offers))
        (record { kind = kind; input = input_after_entries kind entries (fresh_input kind); made = n })) count
        (reads_own r kind (fresh_input kind) 0 entries offers is.lacking are
        (ap (λ xs. length xs) (nothing_yet kind))
        (is.offers ∙ ap (λ xs. xs ++ (all_dispatches offers ++ is.lacking)) (sym (nothing_yet kind)))
        (subst (λ n. AreEntered n kind (fresh_input kind) entries) (sym count) entered_so))
