-- At each moment of a run what a reader's input sends is what the reader has offered, followed by what waits.
use Rattle.std.proofs.Common.{◌≡◌, ◌≢◌, ◌<◌, ◌+◌, ℕ, true, false, List, [], ◌∷◌, ◌++◌, length, Some, None, refl, sym, ap, ◌∙◌, inl, inr, flat_map}
use Rattle.std.proofs.lemmas.Bool.{and_parts, cases_eq, ltb-true, cases_lt, false≢true}
use Rattle.std.proofs.lemmas.List.{append-nil, append_assoc, drop_at, length_push}
use Rattle.std.proofs.lemmas.List.Concat.{flat_map-append}
use Rattle.std.specs.Prelude.{◌⊎◌, ◌≤◌, slice_set, slice_get, slice_index_or, map, zero, suc}
use Rattle.std.proofs.Common.{arith}
use Rattle.line_text.specs.Datapoint.{Datapoint}
use Rattle.line_text.specs.Connection.{arrivals}
use Rattle.reader_core.specs.declared.kind.ReaderKind.{ReaderKind}
use Rattle.reader_core.specs.declared.kind.ReaderKind.TheVariants.{Line}
use Rattle.reader_core.specs.Input.{Stream}
use Rattle.reader_core.specs.Reading.{Reading, IsOrderly, accepted_of}
use Rattle.reader_core.specs.Configuration.{Configuration, RoutesOnce, Dispatch, sends, sent_to}
use Rattle.relay_core.specs.Destination.{Destination, Offered}
use Rattle.relay_core.specs.World.{WorldState, ReaderState, RunEvent, Piece, End, Offer, Take, Up, Wrote, Down, reader_at, dest_at, is_nothing, offers_of, waiting_of, step_of, is_allowed, world_after, reader_after_piece, reader_after_end, reader_after_offer, destinations_after, fresh_reader}
use Rattle.relay_core.specs.Run.{Run, Deed, deed_of, deeds_at, point_by, offered_by, all_deeds, start_of, reader_in, offered_in, waiting_in}
use Rattle.relay_core.specs.Laws.{OffersPrefix, CarriesInOrder}
use Rattle.relay_core.proofs.EveryRun.{at_end}
use Rattle.relay_core.proofs.Inputs.{accepted_of-fed, accepted_of-ended}
use Rattle.relay_core.proofs.Deeds.{offered_by-append, offered_by-none, offered_by-offer, point_by-other}
use Rattle.relay_core.proofs.Sends.{sent_to-append, sent_to-sends}
use Rattle.relay_core.proofs.Readers.{reader_at-set_same, reader_at-set_other, reader_at-past}

nothing : (all : List Dispatch) → is_nothing all ≡ true → all ≡ []
nothing [] e = refl
nothing (sent ∷ others) e = absurd (false≢true e)

slice_get-front : (xs ys : List Datapoint) (k : ℕ) → k < length xs → slice_get (xs ++ ys) k ≡ slice_get xs k
slice_get-front [] ys k l = absurd (omega arith)
slice_get-front (x ∷ xs) ys zero l = refl
slice_get-front (x ∷ xs) ys (suc k) l = slice_get-front xs ys k (omega arith)

module _ (reading : Reading) (c : Configuration) where
  -- the offers that the reader has made are in front of those that wait
  pub record IsFollowed (r : ℕ) (reader : ReaderState) (deeds : List Deed) : Type 0 where
    pub front : List Dispatch
    pub all : offers_of reading c reader ≡ front ++ waiting_of reading c reader
    pub made : length front ≡ reader.made
    pub offered : (d : ℕ) → offered_by r (deeds_at d deeds) ≡ sent_to d front

  waiting_is : (reader : ReaderState) (front rest : List Dispatch) → offers_of reading c reader ≡ front ++ rest
      → length front ≡ reader.made → waiting_of reading c reader ≡ rest
  waiting_is reader front rest e l = rw e (drop_at front rest reader.made l)

  follows : (r : ℕ) (reader : ReaderState) (deeds : List Deed) (front rest : List Dispatch)
      → offers_of reading c reader ≡ front ++ rest → length front ≡ reader.made
      → ((d : ℕ) → offered_by r (deeds_at d deeds) ≡ sent_to d front) → IsFollowed r reader deeds
  follows r reader deeds front rest e l o =
      record { front = front; all = e ∙ ap (λ xs. front ++ xs) (sym (waiting_is reader front rest e l)); made = l; offered = o }

  -- ---- a reader takes a piece, its connection ends, it makes an offer

  module _ (orderly : IsOrderly reading) where
    after_piece : (r : ℕ) (reader : ReaderState) (deeds : List Deed) (piece : Stream) → waiting_of reading c reader ≡ []
        → IsFollowed r reader deeds → IsFollowed r (reader_after_piece piece reader) deeds
    after_piece r reader deeds piece none f =
        let grown = accepted_of-fed reading orderly reader.kind piece reader.input in
        follows r (reader_after_piece piece reader) deeds f.front (flat_map (sends c) grown.0)
        (ap (flat_map (sends c)) grown.1 ∙ flat_map-append (sends c) (accepted_of reading reader.kind reader.input) grown.0
        ∙ ap (λ xs. xs ++ flat_map (sends c) grown.0) (f.all ∙ rw none (append-nil f.front)))
        f.made f.offered

    after_end : (r : ℕ) (reader : ReaderState) (deeds : List Deed) → IsFollowed r reader deeds → IsFollowed r (reader_after_end reader) deeds
    after_end r reader deeds f =
        follows r (reader_after_end reader) deeds f.front (waiting_of reading c reader)
        (ap (flat_map (sends c)) (accepted_of-ended reading orderly reader.kind reader.input) ∙ f.all)
        f.made f.offered

  after_offer : (r : ℕ) (reader : ReaderState) (deeds : List Deed) (before : Destination) (sent : Dispatch) (others : List Dispatch)
      → waiting_of reading c reader ≡ sent ∷ others → IsFollowed r reader deeds
      → IsFollowed r (reader_after_offer reader) (deeds ++ record { dest = sent.dest; act = Offered r sent.point; before = before } ∷ [])
  after_offer r reader deeds before sent others first f =
      follows r (reader_after_offer reader) (deeds ++ record { dest = sent.dest; act = Offered r sent.point; before = before } ∷ []) (f.front ++ sent ∷ []) others
      (f.all ∙ rw first (sym (append_assoc f.front (sent ∷ []) others)))
      (length_push f.front sent ∙ ap (λ n. n + 1) f.made)
      (λ d.
      offered_by-append r d deeds _
      ∙ rw (f.offered d, offered_by-offer r d sent.dest sent.point before) (sym (sent_to-append d f.front (sent ∷ []))))

  -- a deed that is not an offer of this reader
  after_other : (r : ℕ) (reader : ReaderState) (deeds : List Deed) (deed : Deed) → point_by r deed.act ≡ None
      → IsFollowed r reader deeds → IsFollowed r reader (deeds ++ deed ∷ [])
  after_other r reader deeds deed e f =
      record {
        front = f.front;
        all = f.all;
        made = f.made;
        offered = λ d. offered_by-append r d deeds (deed ∷ []) ∙ rw (offered_by-none r d deed e) (append-nil _ ∙ f.offered d);
      }

  -- ---- all readers of a world

  abbrev pub AreFollowed : WorldState → List Deed → Type 0
  AreFollowed w deeds = (r : ℕ) → IsFollowed r (reader_at w r) deeds

  -- one reader is another one, and the others are as they were
  one_changed : (w : WorldState) (r : ℕ) (reader : ReaderState) (dests : List Destination) (deeds : List Deed) → r < length w.readers
      → IsFollowed r reader deeds → ((q : ℕ) → q ≢ r → IsFollowed q (reader_at w q) deeds)
      → AreFollowed (record { readers = slice_set w.readers r reader; destinations = dests }) deeds
  one_changed w r reader dests deeds l f others q = by_case (cases_eq q r)
    where
      by_case : (q ≡ r) ⊎ (q ≢ r) → IsFollowed q (reader_at (record { readers = slice_set w.readers r reader; destinations = dests }) q) deeds
      by_case (inl e) = rw (e, reader_at-set_same w r reader dests l) f
      by_case (inr n) = rw (reader_at-set_other w r q reader dests n) (others q n)

  is_there : (w : WorldState) (r : ℕ) (sent : Dispatch) (others : List Dispatch) → waiting_of reading c (reader_at w r) ≡ sent ∷ others → r < length w.readers
  is_there w r sent others e = by_case (cases_lt r (length w.readers))
    where
      by_case : (r < length w.readers) ⊎ (length w.readers ≤ r) → r < length w.readers
      by_case (inl l) = l
      by_case (inr g) = let none : [] ≡ sent ∷ others = sym (ap (waiting_of reading c) (reader_at-past w r g)) ∙ e in absurd (cc)

  -- the deed for an offer
  offer_of : WorldState → ℕ → Dispatch → Deed
  offer_of w r sent = record { dest = sent.dest; act = Offered r sent.point; before = dest_at w sent.dest }

  offer_goes_on : (w : WorldState) (deeds : List Deed) (r : ℕ) (waits : List Dispatch) → waiting_of reading c (reader_at w r) ≡ waits
      → is_allowed reading c w (Offer r) ≡ true → AreFollowed w deeds
      → AreFollowed (world_after reading c w (Offer r)) (deeds ++ deed_of reading w (step_of reading c w (Offer r)))
  unfolding offer_of
  offer_goes_on w deeds r [] e allowed f = let no : false ≡ true = rw e at allowed in absurd (false≢true no)
  offer_goes_on w deeds r (sent ∷ others) e allowed f =
      rw e
      (one_changed w r (reader_after_offer (reader_at w r)) (destinations_after reading c w (Some (record { dest = sent.dest; act = Offered r sent.point })))
      (deeds ++ offer_of w r sent ∷ []) (is_there w r sent others e)
      (after_offer r (reader_at w r) deeds (dest_at w sent.dest) sent others e (f r))
      (λ q n. after_other q (reader_at w q) deeds (offer_of w r sent) (point_by-other q r sent.point (λ k. n (sym k))) (f q)))

  module _ (orderly : IsOrderly reading) where
    goes_on : (w : WorldState) (deeds : List Deed) (event : RunEvent) → is_allowed reading c w event ≡ true
        → AreFollowed w deeds → AreFollowed (world_after reading c w event) (deeds ++ deed_of reading w (step_of reading c w event))
    goes_on w deeds (Piece r bytes moment) allowed f =
        let parts = and_parts _ _ allowed in
        rw append-nil
        (one_changed w r _ w.destinations deeds (ltb-true _ _ (and_parts _ _ parts.0).0)
        (after_piece orderly r (reader_at w r) deeds (arrivals bytes moment) (nothing _ parts.1) (f r)) (λ q n. f q))
    goes_on w deeds (End r) allowed f =
        rw append-nil (one_changed w r _ w.destinations deeds (ltb-true _ _ allowed) (after_end orderly r (reader_at w r) deeds (f r)) (λ q n. f q))
    goes_on w deeds (Offer r) allowed f = offer_goes_on w deeds r (waiting_of reading c (reader_at w r)) refl allowed f
    goes_on w deeds (Take d) allowed f = λ q. after_other q (reader_at w q) deeds _ refl (f q)
    goes_on w deeds (Up d) allowed f = λ q. after_other q (reader_at w q) deeds _ refl (f q)
    goes_on w deeds (Wrote d count) allowed f = λ q. after_other q (reader_at w q) deeds _ refl (f q)
    goes_on w deeds (Down d) allowed f = λ q. after_other q (reader_at w q) deeds _ refl (f q)

-- ---- at the start, and at the end of a run

fresh_made : (kinds : List ReaderKind) (r : ℕ)
    → (slice_index_or (map fresh_reader kinds) r (record { kind = Line; input = []; made = 0 })).made ≡ 0
fresh_made [] r = refl
fresh_made (kind ∷ kinds) zero = refl
fresh_made (kind ∷ kinds) (suc r) = fresh_made kinds r

module _ (reading : Reading) (orderly : IsOrderly reading) (run : Run) where
  followed_at_end : (r : ℕ)
      → IsFollowed reading run.configuration r (reader_in reading run r) (all_deeds reading run.configuration (start_of reading run) run.events)
  followed_at_end =
      at_end reading run.configuration (AreFollowed reading run.configuration) (goes_on reading run.configuration orderly) (start_of reading run) [] run.events
      (λ r. follows reading run.configuration r (reader_at (start_of reading run) r) [] [] (offers_of reading run.configuration (reader_at (start_of reading run) r))
      refl (sym (fresh_made run.kinds r)) (λ d. refl))

  module _ (routes_once : RoutesOnce run.configuration) where
    pub offers_prefix : OffersPrefix reading run
    offers_prefix r d =
        let f = followed_at_end r in
        ap (λ points. points ++ waiting_in reading run r d) (f.offered d)
        ∙ sym (sent_to-append d f.front (waiting_of reading run.configuration (reader_in reading run r)))
        ∙ ap (sent_to d) (sym f.all)
        ∙ sent_to-sends run.configuration routes_once d (accepted_of reading (reader_in reading run r).kind (reader_in reading run r).input)

    pub carries_in_order : CarriesInOrder reading run
    carries_in_order r d k l =
        sym (slice_get-front (offered_in reading run r d) (waiting_in reading run r d) k l)
        ∙ ap (λ points. slice_get points k) (offers_prefix r d)
