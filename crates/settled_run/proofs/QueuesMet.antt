-- What settled queues and their records say of each reader and each destination.
use Rattle.std.proofs.Common.{◌≡◌, ◌≢◌, ◌<◌, ◌≤◌, ◌+◌, ◌*◌, ℕ, zero, suc, ◌==◌, List, [], ◌∷◌, length, map, filter, refl, sym, ap, ◌∙◌, subst, inl, inr, arith}
use Rattle.std.specs.Prelude.{◌⊎◌, ◌&&◌, ◌/◌, slice_get, slice_index_or, Some}
use Rattle.std.proofs.lemmas.Bool.{cases_lt}
use Rattle.std.proofs.lemmas.List.{length-map}
use Rattle.std.proofs.lemmas.List.Elements.{filter-append}
use Rattle.std.proofs.lemmas.List.FromFn.{length-map-range_with_len}
use Rattle.dest_queue.specs.Queue.{Queue, empty_queue}
use Rattle.dest_queue.specs.History.{Replays}
use Rattle.reader_core.specs.Record.{all_dispatches}
use Rattle.relay_core.specs.Logged.{Logged, all_recorded, record_of}
use Rattle.dest_queue.specs.Numbered.{all_numbered, is_offer_of, offers_of_reader, offers_at}
use Rattle.relay_core.specs.Weave.{takes_in_history}
use Rattle.queue_records.specs.Numbered.{StepAt, with_numbers, all_with_numbers}
use Rattle.queue_records.specs.Offers.{readers_each}
use Rattle.queue_records.specs.Records.{steps_of_door, steps_of_outlet, steps_of_records}
use Rattle.queue_records.specs.Strangers.{AreOffersOf, AreTakesOf}
use Rattle.queue_records.specs.declared.door_record.DoorRecord.{DoorRecord}
use Rattle.queue_records.specs.declared.outlet_record.OutletRecord.{OutletRecord}
use Rattle.settled_run.specs.SettledParts.{ReceiverLeft, SenderLeft, RelayLeft, doors_of, outlets_of, readers_in, kind_in, offers_in, owner_in, takes_in, logged_of}
use Rattle.settled_run.specs.Settled.{QueuesSettled}
use Rattle.settled_run.proofs.Elements.{there, within, mapped_at, got_mapped, from_mapped, in_first, in_second}
use Rattle.settled_run.proofs.NumberedRecords.{lengths, all_joined, record_at, lengths_at, at_each, only_at, filter_none}
use Rattle.settled_run.proofs.RecordedOffers.{no_offers_of, no_offers_at, takes_are_none, takes_are_none_at, same_dispatches, same_count, offers_by_key}
use Rattle.settled_run.proofs.RecordedTakes.{takes_at, takes_at-append, doors_take_nothing, others_take_elsewhere, same_takes, takes_by_key}
use Rattle.settled_run.proofs.NumberedHistories.{begun_at, no_offers_past, no_offers_of_strangers, takes_of_history}

-- the queues of a relay that have settled
module _ (size : ℕ) (x : RelayLeft) (q : QueuesSettled size x) where
  abbrev pub numbers : List (List ℕ)
  numbers = q.settles.are.numbers

  abbrev pub l : Logged
  l = logged_of x numbers

  abbrev pub steps : List (List StepAt)
  steps = steps_of_records (doors_of x) (outlets_of x)

  pub kind_count : length l.kinds ≡ readers_in x
  kind_count = length-map-range_with_len (kind_in x) 0 (readers_in x)

  pub same_lengths : lengths numbers ≡ lengths steps
  same_lengths = q.settles.are.steps.lengths

  -- ---- doors and outlets are of their seats

  pub offers_of_seat : (k : ℕ) (door : DoorRecord) → slice_get (doors_of x) k ≡ Some door → AreOffersOf (length x.histories) k door.made.items
  offers_of_seat k door at =
      let own = from_mapped (λ r. r.door) x.receivers k door at in
      let seat : door.seat ≡ k = ap (λ r. r.seat) own.is ∙ q.doors k own.element own.at in
      subst (λ n. AreOffersOf (length x.histories) n door.made.items) seat (q.of_set.of_doors.each k door at).offers

  pub takes_of_seat : (k : ℕ) (outlet : OutletRecord) → slice_get (outlets_of x) k ≡ Some outlet → AreTakesOf (length x.histories) (length x.senders) k outlet.takes.items
  takes_of_seat k outlet at =
      let own = from_mapped (λ s. s.outlet) x.senders k outlet at in
      let seat : outlet.seat ≡ k = ap (λ r. r.seat) own.is ∙ q.outlets k own.element own.at in
      subst (λ n. AreTakesOf (length x.histories) (length x.senders) n outlet.takes.items) seat (q.of_set.of_outlets.each k outlet at).takes

  -- ---- a reader's offers are in one record

  others_miss : (r i : ℕ) → i ≢ r / readers_each → offers_of_reader r (slice_index_or l.records i []) ≡ []
  others_miss r i apart =
      ap (offers_of_reader r) (record_at steps numbers i)
      ∙ at_each steps_of_door steps_of_outlet (λ xs. (ns : List ℕ) → offers_of_reader r (with_numbers xs ns) ≡ []) (doors_of x) (outlets_of x) i
      (λ ns. refl)
      (λ door at ns.
      filter_none (λ y. is_offer_of r y.step) (steps_of_door door) ns
      (no_offers_of (length x.histories) i r door.made.items (offers_of_seat i door at) (λ e. apart (sym e))))
      (λ k outlet e at ns.
      filter_none (λ y. is_offer_of r y.step) (steps_of_outlet outlet) ns (takes_are_none r outlet.takes.items))
      (slice_index_or numbers i [])

  pub one_record : (r : ℕ) → offers_of_reader r (slice_index_or l.records (r / readers_each) []) ≡ record_of l r
  one_record r =
      sym (only_at (offers_of_reader r) refl (λ xs ys. filter-append (λ y. is_offer_of r y.step) xs ys) l.records (r / readers_each) (others_miss r))

  -- ---- a reader's offers at a destination

  none_recorded : (r d : ℕ) → (length x.receivers ≤ r / readers_each) ⊎ (length x.histories ≤ d) → offers_at r d (all_recorded l) ≡ []
  none_recorded r d past =
      only_at (offers_at r d) refl (λ xs ys. filter-append (λ y. is_offer_of r y.step && y.dest == d) xs ys) l.records (length l.records) (λ i apart. each i)
      ∙ each (length l.records)
    where
      each : (i : ℕ) → offers_at r d (slice_index_or l.records i []) ≡ []
      each i =
          ap (offers_at r d) (record_at steps numbers i)
          ∙ at_each steps_of_door steps_of_outlet (λ xs. (ns : List ℕ) → offers_at r d (with_numbers xs ns) ≡ []) (doors_of x) (outlets_of x) i
          (λ ns. refl)
          (λ door at ns.
          filter_none (λ y. is_offer_of r y.step && y.dest == d) (steps_of_door door) ns
          (no_offers_at (length x.histories) i r d door.made.items (offers_of_seat i door at) (away i door at past)))
          (λ k outlet e at ns.
          filter_none (λ y. is_offer_of r y.step && y.dest == d) (steps_of_outlet outlet) ns (takes_are_none_at r d outlet.takes.items))
          (slice_index_or numbers i [])
        where
          away : (i : ℕ) (door : DoorRecord) → slice_get (doors_of x) i ≡ Some door → (length x.receivers ≤ r / readers_each) ⊎ (length x.histories ≤ d)
              → (r / readers_each ≢ i) ⊎ (length x.histories ≤ d)
          away i door at (inl beyond) =
              let few : i < length x.receivers = subst (λ n. i < n) (length-map x.receivers (λ r. r.door)) (within (doors_of x) i door at) in
              inl (λ e. absurd (omega (arith, e, few, beyond)))
          away i door at (inr beyond) = inr beyond

  -- ---- the histories

  pub begun : (d : ℕ) → d < length x.histories
      → (end : Queue) × Replays size (empty_queue (readers_in x)) (slice_index_or x.histories d []) end
  begun d within =
      let own = (begun_at size (readers_in x) x.counts x.histories q.begun q.unsealed d within).begun in
      (own.end, own.replays)

  pub all_is : all_recorded l ≡ all_with_numbers steps numbers
  all_is = all_joined steps numbers

  same_at : (r d : ℕ) → r < readers_in x → d < length x.histories → offers_at r d (all_recorded l) ≡ offers_at r d (all_numbered 0 l.histories)
  same_at r d of_reader at_dest =
      let key = (readers_in x + 1) * d + r in
      let few : key < (readers_in x + 1) * length x.histories = in_bounds (readers_in x) r d (length x.histories) of_reader at_dest in
      ap (offers_at r d) all_is
      ∙ (offers_by_key (readers_in x) r d (all_with_numbers steps numbers)
      ∙ (ap (offers_at r d) (q.settles.are.steps.same key few)
      ∙ sym (offers_by_key (readers_in x) r d (all_numbered 0 x.histories))))
    where
      in_bounds : (n r d count : ℕ) → r < n → d < count → (n + 1) * d + r < (n + 1) * count
      in_bounds n r d count low there = grind arith

  pub same : (r d : ℕ) → offers_at r d (all_recorded l) ≡ offers_at r d (all_numbered 0 l.histories)
  same r d = elim (cases_lt d (length x.histories)) [
    | inl at_dest ↦ elim (cases_lt r (readers_in x)) [
      | inl of_reader ↦ same_at r d of_reader at_dest
      | inr past ↦
          none_recorded r d (inl (omega (arith, past)))
          ∙ sym (no_offers_of_strangers size (readers_in x) r d 0 x.histories past begun)
    ]
    | inr past ↦ none_recorded r d (inr past) ∙ sym (no_offers_past r d 0 x.histories (omega (arith, past)))
  ]

  -- ---- a reader's record

  pub made_by_reader : (r : ℕ) (own : ReceiverLeft) → slice_get x.receivers (r / readers_each) ≡ Some own
      → (all_dispatches (offers_in r own.door) ≡ all_dispatches (record_of l r)) × (length (offers_in r own.door) ≡ length (record_of l r))
  made_by_reader r own at =
      let place = r / readers_each in
      let ns = slice_index_or numbers place [] in
      let door : slice_get (doors_of x) place ≡ Some own.door = got_mapped (λ y. y.door) x.receivers place own at in
      let here : place < length (map steps_of_door (doors_of x)) = within (map steps_of_door (doors_of x)) place (steps_of_door own.door) (got_mapped steps_of_door (doors_of x) place own.door door) in
      let listed : slice_index_or steps place [] ≡ steps_of_door own.door =
      in_first (map steps_of_door (doors_of x)) (map steps_of_outlet (outlets_of x)) place here
      ∙ mapped_at steps_of_door (doors_of x) place own.door [] door in
      let count : length ns ≡ length (steps_of_door own.door) = lengths_at steps numbers place same_lengths ∙ ap (λ s. length s) listed in
      let reported : record_of l r ≡ offers_of_reader r (with_numbers (steps_of_door own.door) ns) =
      sym (one_record r) ∙ ap (offers_of_reader r) (record_at steps numbers place ∙ ap (λ s. with_numbers s ns) listed) in (
        same_dispatches r (steps_of_door own.door) ns count ∙ ap all_dispatches (sym reported),
        same_count r (steps_of_door own.door) ns count ∙ ap (λ s. length s) (sym reported),
      )

  -- ---- takes

  -- the owner's place among the records
  abbrev place_of : ℕ → ℕ
  place_of d = length (map steps_of_door (doors_of x)) + owner_in x d

  others_take_none : (d i : ℕ) → i ≢ place_of d → takes_at d (slice_index_or l.records i []) ≡ []
  others_take_none d i apart =
      ap (takes_at d) (record_at steps numbers i)
      ∙ at_each steps_of_door steps_of_outlet (λ xs. (ns : List ℕ) → takes_at d (with_numbers xs ns) ≡ []) (doors_of x) (outlets_of x) i
      (λ ns. refl)
      (λ door at ns. doors_take_nothing d door.made.items ns)
      (λ k outlet e at ns.
      ap (λ a. takes_in_history (map (λ y. y.step) a))
      (filter_none (λ y. y.dest == d) (steps_of_outlet outlet) ns
      (others_take_elsewhere (length x.histories) (length x.senders) k d outlet.takes.items (takes_of_seat k outlet at)
      (λ own. apart (e ∙ (ap (λ n. n + k) (sym (length-map (doors_of x) steps_of_door)) ∙ ap (λ n. length (map steps_of_door (doors_of x)) + n) (sym own)))))))
      (slice_index_or numbers i [])

  -- the takes of a destination that were recorded are its owner's
  pub recorded_takes : (d : ℕ) → takes_at d (all_recorded l) ≡ slice_index_or (map (λ s. takes_in d s.outlet) x.senders) (owner_in x d) []
  recorded_takes d =
      only_at (takes_at d) refl (takes_at-append d) l.records (place_of d) (others_take_none d)
      ∙ (ap (takes_at d) (record_at steps numbers (place_of d))
      ∙ (same_takes d (slice_index_or steps (place_of d) []) (slice_index_or numbers (place_of d) []) (lengths_at steps numbers (place_of d) same_lengths)
      ∙ (ap (λ s. takes_in_history (map (λ y. y.step) (filter (λ y. y.dest == d) s))) (in_second (map steps_of_door (doors_of x)) (map steps_of_outlet (outlets_of x)) (place_of d) (owner_in x d) refl)
      ∙ of_owner x.senders (owner_in x d))))
    where
      of_owner : (senders : List SenderLeft) (k : ℕ)
          → takes_in_history (map (λ y. y.step) (filter (λ y. y.dest == d) (slice_index_or (map steps_of_outlet (map (λ s. s.outlet) senders)) k [])))
          ≡ slice_index_or (map (λ s. takes_in d s.outlet) senders) k []
      of_owner [] k = refl
      of_owner (s ∷ senders) zero = refl
      of_owner (s ∷ senders) (suc k) = of_owner senders k

  pub takes_met : (d : ℕ) → d < length x.histories → takes_at d (all_recorded l) ≡ takes_in_history (slice_index_or x.histories d [])
  takes_met d there =
      let key = (readers_in x + 1) * d + readers_in x in
      let few : key < (readers_in x + 1) * length x.histories = in_bounds (readers_in x) d (length x.histories) there in
      ap (takes_at d) all_is
      ∙ (takes_by_key (readers_in x) d (all_with_numbers steps numbers)
      ∙ (ap (takes_at d) (q.settles.are.steps.same key few)
      ∙ (sym (takes_by_key (readers_in x) d (all_numbered 0 x.histories)) ∙ takes_of_history d 0 d x.histories (omega arith))))
    where
      in_bounds : (n d count : ℕ) → d < count → (n + 1) * d + n < (n + 1) * count
      in_bounds n d count there = grind arith
