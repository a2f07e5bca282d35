-- What holds for a fresh destination, and is preserved by each act that may happen, holds for each destination at the
-- end of a run.
use Rattle.std.proofs.Common.{◌≡◌, ◌≢◌, ◌<◌, ℕ, true, List, [], ◌∷◌, ◌++◌, length, Some, refl, sym, ◌∙◌, inl, inr, get_or-set_same, get_or-set_other}
use Rattle.std.proofs.lemmas.Bool.{and_parts, cases_eq}
use Rattle.std.proofs.lemmas.List.{append-nil, length-set, length-replicate, get_or-replicate}
use Rattle.std.proofs.lemmas.List.Elements.{filter-append}
use Rattle.std.specs.Prelude.{◌⊎◌}
use Rattle.reader_core.specs.Reading.{Reading}
use Rattle.reader_core.specs.Configuration.{Configuration, Dispatch}
use Rattle.relay_core.specs.Destination.{Destination, Act, Offered, Taken, Connected, Written, Lost, fresh_destination, may_act, dest_after}
use Rattle.relay_core.specs.World.{WorldState, ReaderState, RunEvent, Piece, End, Offer, Take, Up, Wrote, Down, ActAt, reader_at, dest_at, waiting_of, first_step, step_of, is_allowed, world_after, destinations_after, readers_after}
use Rattle.relay_core.specs.Run.{Run, Deed, deed_of, deeds_at, deeds_in, dest_in, start_of}
use Rattle.relay_core.proofs.EveryRun.{at_end}
use Rattle.relay_core.proofs.Deeds.{deeds_at-same, deeds_at-other}

module _ (reading : Reading) (c : Configuration) (Holds : Destination → List Deed → Type 0) where
  -- an act that may happen preserves it
  abbrev pub KeepsOn : Type 0
  KeepsOn =
      (dest : Destination) (deeds : List Deed) (d : ℕ) (act : Act) → may_act dest act ≡ true → Holds dest deeds
      → Holds (dest_after c.size c.limit dest act) (deeds ++ record { dest = d; act = act; before = dest } ∷ [])

  pub record HoldsAtAll (w : WorldState) (deeds : List Deed) : Type 0 where
    pub count : length w.destinations ≡ c.destinations
    pub each : (d : ℕ) → d < length w.destinations → Holds (dest_at w d) (deeds_at d deeds)

  -- the destinations are the same ones
  same_destinations : (w : WorldState) (readers : List ReaderState) (deeds : List Deed) → HoldsAtAll w deeds
      → HoldsAtAll (record { readers = readers; destinations = w.destinations }) (deeds ++ [])
  same_destinations w readers deeds h =
      record {
        count = h.count;
        each = λ d l. rw append-nil (h.each d l);
      }

  deed_at : WorldState → ActAt → Deed
  deed_at w step = record { dest = step.dest; act = step.act; before = dest_at w step.dest }

  -- the destination of the step, and the others
  after_step : KeepsOn → (w : WorldState) (readers : List ReaderState) (deeds : List Deed) (step : ActAt)
      → may_act (dest_at w step.dest) step.act ≡ true → HoldsAtAll w deeds
      → (d : ℕ) → d < length w.destinations → (d ≡ step.dest) ⊎ (d ≢ step.dest)
      → Holds (dest_at (record { readers = readers; destinations = destinations_after reading c w (Some step) }) d) (deeds_at d (deeds ++ deed_at w step ∷ []))
  unfolding deed_at
  after_step keeps_on w readers deeds step may h d l (inl e) =
      let there : step.dest < length w.destinations = rw (← e) l in
      rw (
        e,
        get_or-set_same w.destinations step.dest (dest_after c.size c.limit (dest_at w step.dest) step.act) (fresh_destination 0) there,
        filter-append,
        deeds_at-same step.dest (deed_at w step) refl,
      )
      (keeps_on (dest_at w step.dest) (deeds_at step.dest deeds) step.dest step.act may (h.each step.dest there))
  after_step keeps_on w readers deeds step may h d l (inr n) =
      rw (
        get_or-set_other w.destinations step.dest d (dest_after c.size c.limit (dest_at w step.dest) step.act) (fresh_destination 0) n,
        filter-append,
        deeds_at-other d (deed_at w step) (λ e. n (sym e)),
        append-nil,
      )
      (h.each d l)

  stepped : KeepsOn → (w : WorldState) (readers : List ReaderState) (deeds : List Deed) (step : ActAt)
      → may_act (dest_at w step.dest) step.act ≡ true → HoldsAtAll w deeds
      → HoldsAtAll (record { readers = readers; destinations = destinations_after reading c w (Some step) }) (deeds ++ deed_of reading w (Some step))
  unfolding deed_at
  stepped keeps_on w readers deeds step may h =
      let count = length-set w.destinations step.dest (dest_after c.size c.limit (dest_at w step.dest) step.act) in
      record {
        count = count ∙ h.count;
        each = λ d l. after_step keeps_on w readers deeds step may h d (rw (sym count) l) (cases_eq d step.dest);
      }

  offered : KeepsOn → (w : WorldState) (readers : List ReaderState) (deeds : List Deed) (r : ℕ) (waits : List Dispatch) → HoldsAtAll w deeds
      → HoldsAtAll (record { readers = readers; destinations = destinations_after reading c w (first_step r waits) }) (deeds ++ deed_of reading w (first_step r waits))
  offered keeps_on w readers deeds r [] h = same_destinations w readers deeds h
  offered keeps_on w readers deeds r (sent ∷ others) h =
      stepped keeps_on w readers deeds (record { dest = sent.dest; act = Offered r sent.point }) refl h

  goes_on : KeepsOn → (w : WorldState) (deeds : List Deed) (event : RunEvent) → is_allowed reading c w event ≡ true
      → HoldsAtAll w deeds → HoldsAtAll (world_after reading c w event) (deeds ++ deed_of reading w (step_of reading c w event))
  goes_on keeps_on w deeds (Piece r bytes moment) e h = same_destinations w (readers_after reading c w (Piece r bytes moment)) deeds h
  goes_on keeps_on w deeds (End r) e h = same_destinations w (readers_after reading c w (End r)) deeds h
  goes_on keeps_on w deeds (Offer r) e h =
      offered keeps_on w (readers_after reading c w (Offer r)) deeds r (waiting_of reading c (reader_at w r)) h
  goes_on keeps_on w deeds (Take d) e h =
      stepped keeps_on w w.readers deeds (record { dest = d; act = Taken }) (and_parts _ _ e).1 h
  goes_on keeps_on w deeds (Up d) e h =
      stepped keeps_on w w.readers deeds (record { dest = d; act = Connected }) (and_parts _ _ e).1 h
  goes_on keeps_on w deeds (Wrote d count) e h =
      stepped keeps_on w w.readers deeds (record { dest = d; act = Written count }) (and_parts _ _ e).1 h
  goes_on keeps_on w deeds (Down d) e h =
      stepped keeps_on w w.readers deeds (record { dest = d; act = Lost }) (and_parts _ _ e).1 h

module _ (reading : Reading) (run : Run) (Holds : Destination → List Deed → Type 0) where
  at_start : Holds (fresh_destination (length run.kinds)) [] → HoldsAtAll reading run.configuration Holds (start_of reading run) []
  at_start fresh =
      let count = length-replicate run.configuration.destinations (fresh_destination (length run.kinds)) in
      record {
        count = count;
        each = λ d l.
            let there : d < run.configuration.destinations = rw count at l in
            rw (get_or-replicate run.configuration.destinations d (fresh_destination (length run.kinds)) (fresh_destination 0) there) fresh;
      }

  pub at_each : KeepsOn reading run.configuration Holds → Holds (fresh_destination (length run.kinds)) []
      → (d : ℕ) → d < run.configuration.destinations → Holds (dest_in reading run d) (deeds_in reading run d)
  at_each keeps_on fresh d l =
      let end =
      at_end reading run.configuration (HoldsAtAll reading run.configuration Holds) (goes_on reading run.configuration Holds keeps_on)
      (start_of reading run) [] run.events (at_start fresh) in
      end.each d (rw end.count l)
