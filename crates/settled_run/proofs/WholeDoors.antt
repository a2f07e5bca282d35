-- If the queues have settled, no offer was left out of a door's record, so each reader's offers are its entries.
use Rattle.std.proofs.Common.{◌≡◌, ◌<◌, ◌≤◌, ◌+◌, ◌*◌, ℕ, Bool, true, false, List, [], ◌∷◌, ◌++◌, length, map, refl, sym, ap, ◌∙◌, subst, arith}
use Rattle.std.specs.Prelude.{◌&&◌, nat_lt, slice_get, slice_index, Some, None, Option, sum_by}
use Rattle.std.proofs.lemmas.Bool.Decides.{nat_tests}
use Rattle.relay_base.specs.DestIds.{are_below}
use Rattle.relay_base.specs.declared.dest_id.DestId.{DestId}
use Rattle.line_text.specs.Datapoint.{Datapoint}
use Rattle.router.specs.Laws.{RouteStaysBelow}
use Rattle.router.specs.Plan.{Plan, sent_along, point_after, stays_below}
use Rattle.reader_core.specs.Configuration.{Dispatch}
use Rattle.reader_core.specs.Entries.{input_after_entries, entries_of}
use Rattle.reader_core.specs.Input.{fresh_input}
use Rattle.reader_core.specs.Kinds.{relay_reading}
use Rattle.reader_core.specs.Offers.{offers_of_point}
use Rattle.reader_core.specs.Offers as sending
use Rattle.reader_core.specs.PlanConfiguration.{to_all, configuration_of}
use Rattle.reader_core.specs.Reading.{accepted_of}
use Rattle.reader_core.specs.Record.{all_dispatches, IsRecordOf}
use Rattle.relay_core.specs.Logged.{all_recorded}
use Rattle.dest_queue.specs.Numbered.{all_numbered}
use Rattle.queue_records.specs.Offers.{readers_each}
use Rattle.queue_records.specs.declared.door_record.DoorRecord.{DoorRecord}
use Rattle.mio_loops.specs.ReadLaws.{RecordLaw}
use Rattle.mio_loops.specs.Reading.{offers_of}
use Rattle.settled_run.specs.Settled.{QueuesSettled, RanReaders}
use Rattle.settled_run.specs.SettledParts.{ReceiverLeft, RelayLeft, doors_of, outlets_of, readers_in, offers_in}
use Rattle.settled_run.specs.SettledThreads.{ReceiverPromises}
use Rattle.settled_run.proofs.Counted.{sum_to_same, count_of, count_at, few_counted, offered_counted, entries_to, recorded_counted, sums_meet}
use Rattle.settled_run.proofs.Elements.{from_mapped, got_mapped}
use Rattle.settled_run.proofs.NumberedHistories.{begun_at}
use Rattle.settled_run.proofs.OffersRecorded.{offered_as, count_to, reported, AreBelow, below_front, all_are_entries, dispatches_reported, count_to-append}
use Rattle.settled_run.proofs.QueuesMet.{numbers, l, same, all_is}

-- ---- what a plan sends stays among its destinations

all_below : (count : ℕ) (point : Datapoint) (ids : List DestId) → are_below count ids ≡ true → AreBelow count (to_all (Some point) ids)
all_below count point [] below = tt
all_below count point (id ∷ ids) below =
    let parts = both (nat_lt id.0 count) (are_below count ids) below in
    (grind (arith, nat_tests, parts.0), all_below count point ids parts.1)
  where
    both : (a b : Bool) → (a && b) ≡ true → (a ≡ true) × (b ≡ true)
    both true b e = (refl, e)
    both false b e = absurd (cc)

below_append : (count : ℕ) (xs ys : List Dispatch) → AreBelow count xs → AreBelow count ys → AreBelow count (xs ++ ys)
below_append count [] ys front back = back
below_append count (x ∷ xs) ys front back = (front.0, below_append count xs ys front.1 back)

module _ (stays : RouteStaysBelow) (plan : Plan) (routes : stays_below plan.destinations plan.routing ≡ true) where
  sent_below : (point : Option Datapoint) → AreBelow plan.destinations (to_all (sent_along plan.routing point).point (sent_along plan.routing point).dests)
  sent_below None = tt
  sent_below (Some point) = all_below plan.destinations point _ (stays plan.destinations plan.routing point.name routes)

  pub offers_below : (points : List Datapoint) → AreBelow plan.destinations (sending.offers_by plan points)
  offers_below [] = tt
  offers_below (point ∷ points) =
      below_append plan.destinations (offers_of_point plan point) (sending.offers_by plan points) (sent_below (point_after plan.rewrite point)) (offers_below points)

-- ---- no offer was left out

module _ (size : ℕ) (x : RelayLeft) (q : QueuesSettled size x)
    (promises : (k : ℕ) (r : ReceiverLeft) → slice_get x.receivers k ≡ Some r → ReceiverPromises (length x.histories) k r) where
  entries_counted : (d : ℕ) → d < length x.histories → (k : ℕ) (door : DoorRecord) → slice_get (doors_of x) k ≡ Some door → entries_to d door ≤ slice_index door.totals.items d
  entries_counted d there k door at =
      let own = from_mapped (λ r. r.door) x.receivers k door at in
      let promise = promises k own.element own.at in
      let made = reported promise.ran.offered promise.before promise.after promise.ran.offers in
      let entries : entries_to d door ≡ count_to d (map offered_as promise.after.entries) =
      ap (entries_to d) own.is ∙ ap (λ es. count_to d (map offered_as es)) promise.reported.made in
      let front : map offered_as promise.after.entries ≡ made.front = made.entries ∙ ap (λ es. map offered_as es ++ made.front) promise.fresh.entries in
      let totals : slice_index door.totals.items d ≡ slice_index promise.after.totals d =
      ap (λ r. slice_index r.totals.items d) own.is ∙ ap (λ ns. slice_index ns d) promise.reported.totals in
      omega (
        arith,
        entries,
        ap (count_to d) front,
        totals,
        made.totals d (subst (λ n. d < n) (sym promise.fresh.dests) there),
        ap (count_to d) made.all,
        count_to-append d made.front made.back,
      )

  sums_few : (d : ℕ) → d < length x.histories → sum_by (λ r. slice_index r.totals.items d) (doors_of x) ≤ sum_by (entries_to d) (doors_of x)
  sums_few d there =
      let own = begun_at size (readers_in x) x.counts x.histories q.begun q.unsealed d there in
      let counted = offered_counted size (readers_in x) d own.begun.end x.histories own.begun.replays in
      let sums = (q.sums d own.own own.at).offered in
      let is : own.own.offered ≡ own.begun.end.offered = ap (λ c. c.offered) own.begun.counted in
      let met = sum_to_same (readers_in x) (count_of d (all_numbered 0 x.histories)) (count_of d (all_recorded (l size x q)))
      (λ r lt. ap (λ ys. length ys) (sym (same size x q r d))) in
      let few = few_counted (readers_in x) d (all_recorded (l size x q)) in
      let joined = ap (count_at d) (all_is size x q) in
      omega (arith, counted, sums, is, met, few, joined, recorded_counted d (doors_of x) (outlets_of x) (numbers size x q))

  whole : (d : ℕ) → d < length x.histories → (k : ℕ) (door : DoorRecord) → slice_get (doors_of x) k ≡ Some door → slice_index door.totals.items d ≡ entries_to d door
  whole d there =
      sums_meet (entries_to d) (λ r. slice_index r.totals.items d) (doors_of x) (λ k door at. entries_counted d there k door at) (sums_few d there)

  -- ---- a reader's record

  module _ (stays : RouteStaysBelow) (law : RecordLaw) (limit : ℕ) where
    pub ran_readers : (k : ℕ) (r : ReceiverLeft) → slice_get x.receivers k ≡ Some r → length x.histories ≡ r.plan.destinations → stays_below r.plan.destinations r.plan.routing ≡ true
        → RanReaders relay_reading (configuration_of r.plan size limit) (readers_each * k) r
    ran_readers k r at dests routes token few =
        let reader = readers_each * k + token in
        let promise = promises k r at in
        let made = reported promise.ran.offered promise.before promise.after promise.ran.offers in
        let own = promise.ran.readers reader (record { above = omega arith; below = omega (arith, few) }) in
        let ran = own.goes r.kind (fresh_input r.kind) [] own.fresh in
        let log : r.log.entries ≡ promise.ran.gained = promise.ran.whole promise.unsealed in
        let offers = offers_of reader promise.ran.offered in
        let below : AreBelow (length x.histories) offers =
        subst (λ n. AreBelow n offers) (sym dests)
        (below_front r.plan.destinations offers own.last.waiting
        (subst (AreBelow r.plan.destinations) ran.represents.waiting
        (offers_below stays r.plan routes (accepted_of relay_reading r.kind (input_after_entries r.kind (entries_of reader promise.ran.gained) (fresh_input r.kind)))))) in
        let door : slice_get (doors_of x) k ≡ Some r.door = got_mapped (λ y. y.door) x.receivers k r at in
        let all_whole : (d : ℕ) → d < length x.histories → slice_index promise.after.totals d ≡ count_to d (map offered_as promise.after.entries) = λ d there.
        ap (λ ns. slice_index ns d) (sym promise.reported.totals)
        ∙ (whole d there k r.door door ∙ ap (λ es. count_to d (map offered_as es)) promise.reported.made) in
        let entries : offers ≡ offers_of reader (map offered_as promise.after.entries) =
        all_are_entries (length x.histories) k reader promise.ran.offered promise.before promise.after promise.fresh made all_whole below in
        let steps : all_dispatches (offers_in reader r.door) ≡ offers =
        dispatches_reported reader r.door.made.items
        ∙ (ap (λ es. offers_of reader (map offered_as es)) promise.reported.made ∙ sym entries) in
        subst (λ es. IsRecordOf relay_reading (configuration_of r.plan size limit) r.kind es (offers_in reader r.door)) (ap (entries_of reader) (sym log))
        (law r.plan size limit r.kind (entries_of reader promise.ran.gained) offers own.first own.last (offers_in reader r.door) own.fresh own.goes steps)
