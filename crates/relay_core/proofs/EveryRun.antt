-- What holds at the start of a run, and is preserved by each allowed event, holds at its end.
use Rattle.std.proofs.Common.{◌≡◌, Bool, true, false, List, [], ◌∷◌, ◌++◌, refl, subst}
use Rattle.std.proofs.lemmas.List.{append-nil, append_assoc}
use Rattle.reader_core.specs.Reading.{Reading}
use Rattle.reader_core.specs.Configuration.{Configuration}
use Rattle.relay_core.specs.World.{WorldState, RunEvent, step_of, is_allowed, world_after, after, after_all}
use Rattle.relay_core.specs.Run.{Deed, deed_of, deeds_by, all_deeds}

module _ (reading : Reading) (c : Configuration) (Holds : WorldState → List Deed → Type 0) where
  -- an event that is allowed preserves it
  abbrev pub GoesOn : Type 0
  GoesOn =
      (w : WorldState) (deeds : List Deed) (event : RunEvent) → is_allowed reading c w event ≡ true
      → Holds w deeds → Holds (world_after reading c w event) (deeds ++ deed_of reading w (step_of reading c w event))

  after_one : GoesOn → (w : WorldState) (deeds : List Deed) (event : RunEvent)
      → Holds w deeds → Holds (after reading c w event) (deeds ++ deeds_by reading c w event)
  after_one goes_on w deeds event h = by_case (is_allowed reading c w event) refl
    where
      by_case : (b : Bool) → is_allowed reading c w event ≡ b
          → Holds (after reading c w event) (deeds ++ deeds_by reading c w event)
      by_case true e = rw e (goes_on w deeds event e h)
      by_case false e = rw (e, append-nil) h

  pub at_end : GoesOn → (w : WorldState) (deeds : List Deed) (events : List RunEvent)
      → Holds w deeds → Holds (after_all reading c w events) (deeds ++ all_deeds reading c w events)
  at_end goes_on w deeds [] h = rw append-nil h
  at_end goes_on w deeds (event ∷ events) h =
      subst (Holds (after_all reading c w (event ∷ events))) (append_assoc deeds (deeds_by reading c w event) (all_deeds reading c (after reading c w event) events))
      (at_end goes_on (after reading c w event) (deeds ++ deeds_by reading c w event) events (after_one goes_on w deeds event h))
