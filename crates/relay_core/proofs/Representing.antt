-- What a world represents: which events may happen there, and what each of them leaves.
use Rattle.std.proofs.Common.{◌≡◌, ◌<◌, ◌≤◌, ◌+◌, ℕ, zero, suc, Bool, true, false, not, ◌&&◌, nat_lt, if◌then◌else◌, List, [], ◌∷◌, ◌++◌, length, map, drop, flat_map, Option, Some, None, refl, ap, sym, ◌∙◌, inl, inr, arith}
use Rattle.std.proofs.lemmas.Bool.{cases_lt, lt-ltb, le-ltb, true≢false}
use Rattle.std.proofs.lemmas.List.{map-set, get_or-map, length-map, set_past, length_push}
use Rattle.std.proofs.lemmas.Option.{slice_get-map, slice_get_past, slice_get_within, slice_get-get_or, get_or_from_slice_get}
use Rattle.std.proofs.Math.Seq.{drop-append_seam}
use Rattle.std.specs.Prelude.{◌⊎◌, slice_get, slice_index_or, slice_set}
use Rattle.std.specs.List.{AllZip}
use Rattle.line_text.specs.Datapoint.{Datapoint}
use Rattle.dest_queue.specs.Queue.{has_room}
use Rattle.line_text.specs.Connection.{arrivals}
use Rattle.router.specs.Plan.{Plan}
use Rattle.reader_core.specs.Input.{Stream, current, has_connections, input_after_piece, input_after_end}
use Rattle.reader_core.specs.Reading.{accepted_of}
use Rattle.reader_core.specs.Kinds.{relay_reading, closes}
use Rattle.reader_core.specs.Configuration.{Dispatch, sends}
use Rattle.reader_core.specs.PlanConfiguration.{PlanSends, configuration_of}
use Rattle.reader_core.specs.Offers.{offers_of_point}
use Rattle.reader_core.specs.Reader.{ReaderModel, Represents, is_closed}
use Rattle.reader_core.specs.Laws.{ClosedLaw}
use Rattle.reader_core.specs.declared.kind.ReaderKind.{ReaderKind}
use Rattle.reader_core.specs.declared.kind.ReaderKind.TheVariants.{Line, Pickle, Datagram}
use Rattle.relay_core.specs.Destination.{Destination, Act, Offered, Taken, Connected, Written, Lost, fresh_destination, dest_after}
use Rattle.relay_core.specs.World.{WorldState, ReaderState, RunEvent, Piece, End, Offer, Take, Up, Wrote, Down, reader_at, dest_at, is_nothing, offers_of, waiting_of, step_of, is_allowed, may_step, world_after, reader_after_piece, reader_after_end, reader_after_offer}
use Rattle.relay_core.specs.World as worlds
use Rattle.relay_core.specs.declared.destination.Act.{Act as CodeAct}
use Rattle.relay_core.specs.declared.destination.Act.TheVariants as codes
use Rattle.relay_core.specs.Agreement.{event_of}
use Rattle.relay_core.specs.Relay.{counts_read}
use Rattle.reader_counts.specs.declared.counts.ReaderCounts.{ReaderCounts}
use Rattle.relay_core.specs.WorldModel.{act_of, SizedDestination, with_sizes, sized_after, IsReader, IsWorld, may_be_fed, may_offer, may_act_at, may_happen, takes_memory, takes_memory_at}
use Rattle.relay_core.specs.Offering.{sized_at, dests_after_offer, finds_full, offer_answer, OfFirst}
use Rattle.relay_core.specs.Event.{Happened, is_full, answer_of_step}
use Rattle.relay_core.specs.declared.event.Answer.{Answer}
use Rattle.relay_core.specs.declared.event.Answer.TheVariants.{Done, Dropped}
use Rattle.relay_core.proofs.Readers.{reader_at-past}
use Rattle.std.proofs.lemmas.Slice.Zip.{AllZip-long}
use Rattle.relay_core.proofs.Zips.{AllZip-at, AllZip-set}

-- ---- one reader

flat_map-same : (f g : Datapoint → List Dispatch) → ((p : Datapoint) → f p ≡ g p) → (ps : List Datapoint) → flat_map f ps ≡ flat_map g ps
flat_map-same f g same [] = refl
flat_map-same f g same (p ∷ ps) = ap (λ (l : List Dispatch). l ++ flat_map f ps) (same p) ∙ ap (λ (l : List Dispatch). g p ++ l) (flat_map-same f g same ps)

-- a reader that exists
pub reader_of : (plan : Plan) (size limit : ℕ) (readers : List ReaderModel) (dests : List SizedDestination) (w : WorldState) (r : ℕ) (d : ReaderModel)
    → IsWorld plan readers dests size limit w → r < length readers → IsReader plan (slice_index_or readers r d) (reader_at w r)
reader_of plan size limit readers dests w r d is l =
    AllZip-at (IsReader plan) readers w.readers r d (record { kind = Line; input = []; made = 0 })
    (rw (AllZip-long (IsReader plan) readers w.readers is.readers_are) l) is.readers_are

module _ (plan_sends : PlanSends) (plan : Plan) (size limit : ℕ) where
  -- what waits is what the reader keeps
  pub waits : (s : ReaderModel) (r : ReaderState) → IsReader plan s r → waiting_of relay_reading (configuration_of plan size limit) r ≡ s.waiting
  waits s r is =
      let all : offers_of relay_reading (configuration_of plan size limit) r ≡ is.taken ++ s.waiting =
      flat_map-same (sends (configuration_of plan size limit)) (offers_of_point plan) (plan_sends plan size limit) (accepted_of relay_reading r.kind r.input) ∙ is.represents.waiting in
      ap (λ (n : ℕ). drop n (offers_of relay_reading (configuration_of plan size limit) r)) (sym is.made)
      ∙ ap (drop (length is.taken)) all ∙ drop-append_seam is.taken s.waiting

  closes_as : ReaderState → Bool
  closes_as r = worlds.is_closed relay_reading (configuration_of plan size limit) r

  closed_kind : (kind : ReaderKind) (r : ReaderState) → r.kind ≡ kind → closes kind (current r.input) ≡ has_connections kind && closes kind (current r.input)
  closed_kind Line r e = refl
  closed_kind Pickle r e = refl
  closed_kind Datagram r e = refl

  closed : ClosedLaw → (s : ReaderModel) (r : ReaderState) → IsReader plan s r → is_closed s ≡ closes_as r
  unfolding closes_as
  closed law s r is = law s r.kind plan r.input is.taken is.represents ∙ closed_kind r.kind r refl

  -- ---- which events may happen

  waits_for : ReaderState → List Dispatch
  waits_for r = waiting_of relay_reading (configuration_of plan size limit) r

  feeds_in : ClosedLaw → (xs : List ReaderModel) (ys : List ReaderState) (r : ℕ) (e : ReaderState) → AllZip (IsReader plan) xs ys → r < length ys
      → may_be_fed (slice_get xs r) ≡ not (closes_as (slice_index_or ys r e)) && is_nothing (waits_for (slice_index_or ys r e))
  unfolding waits_for
  feeds_in law [] [] r e are l = absurd (omega (arith, l))
  feeds_in law [] (y ∷ ys) r e are l = absurd are
  feeds_in law (x ∷ xs) [] r e are l = absurd are
  feeds_in law (x ∷ xs) (y ∷ ys) zero e are l = rw (sym (closed law x y are.0), waits x y are.0) refl
  feeds_in law (x ∷ xs) (y ∷ ys) (suc r) e are l = feeds_in law xs ys r e are.1 (omega (arith, l))

  offers_in : (xs : List ReaderModel) (ys : List ReaderState) (r : ℕ) (e : ReaderState) → AllZip (IsReader plan) xs ys → r < length ys
      → may_offer (slice_get xs r) ≡ not (is_nothing (waits_for (slice_index_or ys r e)))
  unfolding waits_for
  offers_in [] [] r e are l = absurd (omega (arith, l))
  offers_in [] (y ∷ ys) r e are l = absurd are
  offers_in (x ∷ xs) [] r e are l = absurd are
  offers_in (x ∷ xs) (y ∷ ys) zero e are l = rw (waits x y are.0) refl
  offers_in (x ∷ xs) (y ∷ ys) (suc r) e are l = offers_in xs ys r e are.1 (omega (arith, l))

  none_past : (xs : List ReaderModel) (ys : List ReaderState) (r : ℕ) → AllZip (IsReader plan) xs ys → length ys ≤ r → slice_get xs r ≡ None
  none_past xs ys r are past = slice_get_past xs r (rw (sym (AllZip-long (IsReader plan) xs ys are)) past)

  feeds : ClosedLaw → (readers : List ReaderModel) (w : WorldState) (r : ℕ) → AllZip (IsReader plan) readers w.readers
      → (r < length w.readers) ⊎ (length w.readers ≤ r)
      → may_be_fed (slice_get readers r) ≡ nat_lt r (length w.readers) && not (closes_as (reader_at w r)) && is_nothing (waits_for (reader_at w r))
  feeds law readers w r are (inl l) = rw (lt-ltb _ _ l) (feeds_in law readers w.readers r _ are l)
  feeds law readers w r are (inr past) = rw (none_past readers w.readers r are past, le-ltb _ _ past) refl

  offers : (readers : List ReaderModel) (w : WorldState) (r : ℕ) → AllZip (IsReader plan) readers w.readers
      → (r < length w.readers) ⊎ (length w.readers ≤ r)
      → may_offer (slice_get readers r) ≡ not (is_nothing (waits_for (reader_at w r)))
  unfolding waits_for
  offers readers w r are (inl l) = offers_in readers w.readers r _ are l
  offers readers w r are (inr past) = rw (none_past readers w.readers r are past, reader_at-past w r past) refl

  may-offer : (readers : List ReaderModel) (w : WorldState) (r : ℕ) → AllZip (IsReader plan) readers w.readers
      → may_offer (slice_get readers r) ≡ not (is_nothing (waiting_of relay_reading (configuration_of plan size limit) (reader_at w r)))
  unfolding waits_for
  may-offer readers w r are = offers readers w r are (cases_lt r (length w.readers))

  acts : (act : Act) (dests : List SizedDestination) (w : WorldState) (d : ℕ) → dests ≡ map (with_sizes size limit) w.destinations
      → (d < length w.destinations) ⊎ (length w.destinations ≤ d)
      → may_act_at act (slice_get dests d) ≡ may_step relay_reading (configuration_of plan size limit) w (Some (record { dest = d; act = act }))
  acts act dests w d are (inl l) =
      rw (are, slice_get-map, slice_get-get_or w.destinations d (fresh_destination 0) l, lt-ltb _ _ l) refl
  acts act dests w d are (inr past) = rw (are, slice_get-map, slice_get_past w.destinations d past, le-ltb _ _ past) refl

  -- an event may happen if it is allowed
  pub happens : ClosedLaw → (readers : List ReaderModel) (dests : List SizedDestination) (w : WorldState) (event : RunEvent)
      → IsWorld plan readers dests size limit w
      → may_happen readers dests event ≡ is_allowed relay_reading (configuration_of plan size limit) w event
  unfolding closes_as waits_for
  happens law readers dests w (Piece r bytes moment) is = feeds law readers w r is.readers_are (cases_lt r (length w.readers))
  happens law readers dests w (End r) is = ap (λ (n : ℕ). nat_lt r n) (sym (AllZip-long (IsReader plan) readers w.readers is.readers_are))
  happens law readers dests w (Offer r) is = offers readers w r is.readers_are (cases_lt r (length w.readers))
  happens law readers dests w (Take d) is = acts Taken dests w d is.destinations_are (cases_lt d (length w.destinations))
  happens law readers dests w (Up d) is = acts Connected dests w d is.destinations_are (cases_lt d (length w.destinations))
  happens law readers dests w (Wrote d count) is = acts (Written count) dests w d is.destinations_are (cases_lt d (length w.destinations))
  happens law readers dests w (Down d) is = acts Lost dests w d is.destinations_are (cases_lt d (length w.destinations))

  -- ---- what they leave

  -- one reader is replaced
  pub with_reader : (readers : List ReaderModel) (dests : List SizedDestination) (w : WorldState) (r : ℕ) (s : ReaderModel) (reader : ReaderState)
      → IsWorld plan readers dests size limit w → IsReader plan s reader
      → IsWorld plan (slice_set readers r s) dests size limit (record { readers = slice_set w.readers r reader; destinations = w.destinations })
  with_reader readers dests w r s reader is one =
      record { readers_are = AllZip-set (IsReader plan) readers w.readers r s reader one is.readers_are; destinations_are = is.destinations_are }

  sized_act : (act : Act) (xs : List Destination) (d : ℕ) → (d < length xs) ⊎ (length xs ≤ d)
      → slice_set (map (with_sizes size limit) xs) d (sized_after act (sized_at (map (with_sizes size limit) xs) d))
      ≡ map (with_sizes size limit) (slice_set xs d (dest_after size limit (slice_index_or xs d (fresh_destination 0)) act))
  sized_act act xs d (inl l) =
      rw (get_or-map (with_sizes size limit) xs d (fresh_destination 0) (with_sizes 0 0 (fresh_destination 0)) l)
      (sym (map-set (with_sizes size limit) xs d (dest_after size limit (slice_index_or xs d (fresh_destination 0)) act)))
  sized_act act xs d (inr past) =
      set_past (map (with_sizes size limit) xs) d _ (rw length-map past)
      ∙ ap (map (with_sizes size limit)) (sym (set_past xs d _ past))

  -- an act happens at a destination
  pub with_act : (act : Act) (readers : List ReaderModel) (dests : List SizedDestination) (w : WorldState) (d : ℕ)
      → IsWorld plan readers dests size limit w
      → IsWorld plan readers (slice_set dests d (sized_after act (sized_at dests d))) size limit
      (record { readers = w.readers; destinations = slice_set w.destinations d (dest_after size limit (dest_at w d) act) })
  with_act act readers dests w d is =
      record {
        readers_are = is.readers_are;
        destinations_are = rw is.destinations_are (sized_act act w.destinations d (cases_lt d (length w.destinations)));
      }

  -- a piece
  pub after_piece : (readers : List ReaderModel) (dests : List SizedDestination) (w : WorldState) (r : ℕ) (d new : ReaderModel) (bytes : List ℕ) (moment : ℕ)
      → IsWorld plan readers dests size limit w → r < length readers
      → ((kind : ReaderKind) (input : List Stream) (taken : List Dispatch) → Represents (slice_index_or readers r d) kind plan input taken
      → Represents new kind plan (input_after_piece kind (arrivals bytes moment) input) taken)
      → IsWorld plan (slice_set readers r new) dests size limit (world_after relay_reading (configuration_of plan size limit) w (Piece r bytes moment))
  after_piece readers dests w r d new bytes moment is l feeds_on =
      let one = reader_of plan size limit readers dests w r d is l in
      with_reader readers dests w r new (reader_after_piece (arrivals bytes moment) (reader_at w r)) is
      (record { taken = one.taken; made = one.made; represents = feeds_on (reader_at w r).kind (reader_at w r).input one.taken one.represents })

  -- a connection ends
  pub after_end : (readers : List ReaderModel) (dests : List SizedDestination) (w : WorldState) (r : ℕ) (d new : ReaderModel)
      → IsWorld plan readers dests size limit w → r < length readers
      → ((kind : ReaderKind) (input : List Stream) (taken : List Dispatch) → Represents (slice_index_or readers r d) kind plan input taken
      → Represents new kind plan (input_after_end kind input) taken)
      → IsWorld plan (slice_set readers r new) dests size limit (world_after relay_reading (configuration_of plan size limit) w (End r))
  after_end readers dests w r d new is l ends =
      let one = reader_of plan size limit readers dests w r d is l in
      with_reader readers dests w r new (reader_after_end (reader_at w r)) is
      (record { taken = one.taken; made = one.made; represents = ends (reader_at w r).kind (reader_at w r).input one.taken one.represents })

  -- an offer is made
  offered_first : (readers : List ReaderModel) (dests : List SizedDestination) (w : WorldState) (r : ℕ) (new : ReaderModel) (reader : ReaderState) (first : Dispatch)
      → IsWorld plan readers dests size limit w → IsReader plan new reader
      → IsWorld plan (slice_set readers r new) (dests_after_offer r first dests) size limit
      (record { readers = slice_set w.readers r reader; destinations = slice_set w.destinations first.dest (dest_after size limit (dest_at w first.dest) (Offered r first.point)) })
  offered_first readers dests w r new reader first is one =
      with_reader readers (dests_after_offer r first dests)
      (record { readers = w.readers; destinations = slice_set w.destinations first.dest (dest_after size limit (dest_at w first.dest) (Offered r first.point)) })
      r new reader (with_act (Offered r first.point) readers dests w first.dest is) one

  after_first : (waiting : List Dispatch) (readers : List ReaderModel) (dests new_dests : List SizedDestination) (w : WorldState) (r : ℕ) (d new : ReaderModel)
      → (slice_index_or readers r d).waiting ≡ waiting
      → IsWorld plan readers dests size limit w → r < length readers
      → OfFirst waiting (λ sent. (kind : ReaderKind) (p : Plan) (input : List Stream) (taken : List Dispatch)
      → Represents (slice_index_or readers r d) kind p input taken → Represents new kind p input (taken ++ sent ∷ []))
      → OfFirst waiting (λ sent. new_dests ≡ dests_after_offer r sent dests)
      → IsWorld plan (slice_set readers r new) new_dests size limit (world_after relay_reading (configuration_of plan size limit) w (Offer r))
  after_first [] readers dests new_dests w r d new e is l takes same = absurd takes
  after_first (first ∷ others) readers dests new_dests w r d new e is l takes same =
      let one = reader_of plan size limit readers dests w r d is l in
      let found : waiting_of relay_reading (configuration_of plan size limit) (reader_at w r) ≡ first ∷ others = waits (slice_index_or readers r d) (reader_at w r) one ∙ e in
      let reader : IsReader plan new (reader_after_offer (reader_at w r)) = record {
        taken = one.taken ++ first ∷ [];
        made = length_push _ _ ∙ ap (λ (n : ℕ). n + 1) one.made;
        represents = takes (reader_at w r).kind plan (reader_at w r).input one.taken one.represents;
      } in
      rw (same, found) (offered_first readers dests w r new (reader_after_offer (reader_at w r)) first is reader)

  pub after_offer : (readers : List ReaderModel) (dests new_dests : List SizedDestination) (w : WorldState) (r : ℕ) (d new : ReaderModel)
      → IsWorld plan readers dests size limit w → r < length readers
      → OfFirst (slice_index_or readers r d).waiting (λ sent. (kind : ReaderKind) (p : Plan) (input : List Stream) (taken : List Dispatch)
      → Represents (slice_index_or readers r d) kind p input taken → Represents new kind p input (taken ++ sent ∷ []))
      → OfFirst (slice_index_or readers r d).waiting (λ sent. new_dests ≡ dests_after_offer r sent dests)
      → IsWorld plan (slice_set readers r new) new_dests size limit (world_after relay_reading (configuration_of plan size limit) w (Offer r))
  after_offer readers dests new_dests w r d new is l takes same = after_first (slice_index_or readers r d).waiting readers dests new_dests w r d new refl is l takes same

  -- ---- the answer to an offer

  full_there : (xs : List Destination) (d : ℕ) → (d < length xs) ⊎ (length xs ≤ d)
      → finds_full (map (with_sizes size limit) xs) d ≡ nat_lt d (length xs) && not (has_room size (slice_index_or xs d (fresh_destination 0)).queue)
  full_there xs d (inl l) =
      rw (length-map, lt-ltb _ _ l, get_or-map (with_sizes size limit) xs d (fresh_destination 0) (with_sizes 0 0 (fresh_destination 0)) l) refl
  full_there xs d (inr past) = rw (length-map, le-ltb _ _ past) refl

  answer_first : (waiting : List Dispatch) (readers : List ReaderModel) (dests : List SizedDestination) (w : WorldState) (r : ℕ) (d : ReaderModel) (answer : Answer)
      → (slice_index_or readers r d).waiting ≡ waiting
      → IsWorld plan readers dests size limit w → r < length readers
      → OfFirst waiting (λ sent. answer ≡ offer_answer dests sent)
      → answer ≡ answer_of_step size w (step_of relay_reading (configuration_of plan size limit) w (Offer r))
  answer_first [] readers dests w r d answer e is l a = absurd a
  answer_first (first ∷ others) readers dests w r d answer e is l a =
      let one = reader_of plan size limit readers dests w r d is l in
      let found : waiting_of relay_reading (configuration_of plan size limit) (reader_at w r) ≡ first ∷ others = waits (slice_index_or readers r d) (reader_at w r) one ∙ e in
      let full : finds_full dests first.dest ≡ is_full size w first.dest = ap (λ (l : List SizedDestination). finds_full l first.dest) is.destinations_are ∙ full_there w.destinations first.dest (cases_lt first.dest (length w.destinations)) in
      rw found (a ∙ ap (λ (b : Bool). if b then Dropped else Done) full)

  pub answer_offer : (readers : List ReaderModel) (dests : List SizedDestination) (w : WorldState) (r : ℕ) (d : ReaderModel) (answer : Answer)
      → IsWorld plan readers dests size limit w → r < length readers
      → OfFirst (slice_index_or readers r d).waiting (λ sent. answer ≡ offer_answer dests sent)
      → answer ≡ answer_of_step size w (step_of relay_reading (configuration_of plan size limit) w (Offer r))
  answer_offer readers dests w r d answer is l a = answer_first (slice_index_or readers r d).waiting readers dests w r d answer refl is l a

-- ---- what exists

there : {X : Type 0} (xs : List X) (i : ℕ) (P : Option X → Bool) → P None ≡ false → P (slice_get xs i) ≡ true → (i < length xs) ⊎ (length xs ≤ i) → i < length xs
there xs i P none some (inl l) = l
there xs i P none some (inr past) = absurd (true≢false (sym some ∙ ap P (slice_get_past xs i past) ∙ none))

pub fed-there : (readers : List ReaderModel) (r : ℕ) → may_be_fed (slice_get readers r) ≡ true → r < length readers
fed-there readers r e = there readers r may_be_fed refl e (cases_lt r (length readers))

pub offers-there : (readers : List ReaderModel) (r : ℕ) → may_offer (slice_get readers r) ≡ true → r < length readers
offers-there readers r e = there readers r may_offer refl e (cases_lt r (length readers))

pub acts-there : (act : Act) (dests : List SizedDestination) (d : ℕ) → may_act_at act (slice_get dests d) ≡ true → d < length dests
acts-there act dests d e = there dests d (may_act_at act) refl e (cases_lt d (length dests))

-- ---- an act, as the code has it

pub act-happens : (act : CodeAct) (readers : List ReaderModel) (dests : List SizedDestination) (d : ℕ)
    → may_happen readers dests (event_of d (act_of act)) ≡ may_act_at (act_of act) (slice_get dests d)
act-happens codes.Take readers dests d = refl
act-happens codes.Connect readers dests d = refl
act-happens (codes.Write count) readers dests d = refl
act-happens codes.Lose readers dests d = refl

pub act-takes : (act : CodeAct) (d : ℕ) → takes_memory (event_of d (act_of act)) ≡ takes_memory_at (act_of act)
act-takes codes.Take d = refl
act-takes codes.Connect d = refl
act-takes (codes.Write count) d = refl
act-takes codes.Lose d = refl

pub act-answer : (plan : Plan) (size limit : ℕ) (act : CodeAct) (w : WorldState) (d : ℕ)
    → Done ≡ answer_of_step size w (step_of relay_reading (configuration_of plan size limit) w (event_of d (act_of act)))
act-answer plan size limit codes.Take w d = refl
act-answer plan size limit codes.Connect w d = refl
act-answer plan size limit (codes.Write count) w d = refl
act-answer plan size limit codes.Lose w d = refl

pub after_act : (plan_sends : PlanSends) (plan : Plan) (size limit : ℕ) (act : CodeAct) (readers : List ReaderModel) (dests : List SizedDestination) (w : WorldState) (d : ℕ)
    → IsWorld plan readers dests size limit w
    → IsWorld plan readers (slice_set dests d (sized_after (act_of act) (sized_at dests d))) size limit
    (world_after relay_reading (configuration_of plan size limit) w (event_of d (act_of act)))
after_act plan_sends plan size limit codes.Take readers dests w d is = with_act plan_sends plan size limit Taken readers dests w d is
after_act plan_sends plan size limit codes.Connect readers dests w d is = with_act plan_sends plan size limit Connected readers dests w d is
after_act plan_sends plan size limit (codes.Write count) readers dests w d is = with_act plan_sends plan size limit (Written count) readers dests w d is
after_act plan_sends plan size limit codes.Lose readers dests w d is = with_act plan_sends plan size limit Lost readers dests w d is

-- ---- what a reader shows

counts-same : (a b c d e f g h : ℕ) → a ≡ e → b ≡ f → c ≡ g → d ≡ h
    → let x : ReaderCounts = record { bad_lines = a; bad_pickles = b; bad_rows = c; bad_names = d } in
    let y : ReaderCounts = record { bad_lines = e; bad_pickles = f; bad_rows = g; bad_names = h } in x ≡ y
counts-same a b c d e f g h p q r s = rw (p, q, r, s) refl

pub counts_at : (plan : Plan) (size limit : ℕ) (readers : List ReaderModel) (dests : List SizedDestination) (w : WorldState) (r : ℕ) (d : ReaderModel)
    → IsWorld plan readers dests size limit w → r < length readers → (slice_index_or readers r d).totals.faults ≡ counts_read plan (reader_at w r)
counts_at plan size limit readers dests w r d is l =
    let one = reader_of plan size limit readers dests w r d is l in
    counts-same _ _ _ _ _ _ _ _ one.represents.bad_lines one.represents.bad_pickles one.represents.bad_rows one.represents.bad_names

pub waiting_at : (plan_sends : PlanSends) (plan : Plan) (size limit : ℕ) (readers : List ReaderModel) (dests : List SizedDestination) (w : WorldState) (r : ℕ) (d : ReaderModel)
    → IsWorld plan readers dests size limit w → r < length readers
    → length (slice_index_or readers r d).waiting ≡ length (waiting_of relay_reading (configuration_of plan size limit) (reader_at w r))
waiting_at plan_sends plan size limit readers dests w r d is l =
    let one = reader_of plan size limit readers dests w r d is l in
    ap (λ (l : List Dispatch). length l) (sym (waits plan_sends plan size limit (slice_index_or readers r d) (reader_at w r) one))

-- ---- the first offer that waits

nothing-waits : (waiting : List Dispatch) → not (is_nothing waiting) ≡ false → waiting ≡ []
nothing-waits [] e = refl
nothing-waits (first ∷ others) e = cc

-- the reader that is there keeps what waits
pub kept-waiting : (plan_sends : PlanSends) (plan : Plan) (size limit : ℕ) (readers : List ReaderModel) (dests : List SizedDestination) (w : WorldState) (r : ℕ) (s : ReaderModel)
    → IsWorld plan readers dests size limit w → slice_get readers r ≡ Some s
    → waiting_of relay_reading (configuration_of plan size limit) (reader_at w r) ≡ s.waiting
kept-waiting plan_sends plan size limit readers dests w r s is got =
    let one = reader_of plan size limit readers dests w r s is (slice_get_within readers r s got) in
    waits plan_sends plan size limit (slice_index_or readers r s) (reader_at w r) one
    ∙ ap (λ (x : ReaderModel). x.waiting) (get_or_from_slice_get readers r s s got)

-- for one that is not there nothing waits
pub no-waiting : (plan_sends : PlanSends) (plan : Plan) (size limit : ℕ) (readers : List ReaderModel) (dests : List SizedDestination) (w : WorldState) (r : ℕ)
    → IsWorld plan readers dests size limit w → slice_get readers r ≡ None
    → waiting_of relay_reading (configuration_of plan size limit) (reader_at w r) ≡ []
no-waiting plan_sends plan size limit readers dests w r is none =
    nothing-waits (waiting_of relay_reading (configuration_of plan size limit) (reader_at w r))
    (sym (may-offer plan_sends plan size limit readers w r is.readers_are) ∙ ap may_offer none)

-- ---- an offer is answered

done_or_dropped : (b : Bool) (answer : Answer) → answer ≡ (if b then Dropped else Done) → Happened answer
done_or_dropped true answer e = inr e
done_or_dropped false answer e = inl e

pub offer-happened : (waiting : List Dispatch) (dests : List SizedDestination) (answer : Answer) → OfFirst waiting (λ sent. answer ≡ offer_answer dests sent) → Happened answer
offer-happened [] dests answer e = absurd e
offer-happened (first ∷ others) dests answer e = done_or_dropped (finds_full dests first.dest) answer e
