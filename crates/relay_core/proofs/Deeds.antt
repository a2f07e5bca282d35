-- What one more deed adds to what a reader offered, and to what a queue kept and handed over.
use Rattle.std.proofs.Common.{◌≡◌, ◌≢◌, ℕ, ◌==◌, Bool, true, false, List, [], ◌∷◌, ◌++◌, None, refl, eq-eqb}
use Rattle.std.proofs.lemmas.Bool.{ne_eqb}
use Rattle.std.proofs.lemmas.List.Elements.{filter-append, filter_map-append}
use Rattle.line_text.specs.Datapoint.{Datapoint}
use Rattle.reader_core.specs.Configuration.{sent_to}
use Rattle.relay_core.specs.Destination.{Destination, Offered}
use Rattle.relay_core.specs.Run.{Deed, deeds_at, point_by, offered_by}

pub offered_by-append : (r d : ℕ) (deeds more : List Deed)
    → offered_by r (deeds_at d (deeds ++ more)) ≡ offered_by r (deeds_at d deeds) ++ offered_by r (deeds_at d more)
offered_by-append r d deeds more =
    rw filter-append (filter_map-append (λ deed. point_by r deed.act) (deeds_at d deeds) (deeds_at d more))

-- ---- a deed at a destination, or at another

pub deeds_at-same : (d : ℕ) (deed : Deed) → deed.dest ≡ d → deeds_at d (deed ∷ []) ≡ deed ∷ []
deeds_at-same d deed e = rw (eq-eqb deed.dest d e)

pub deeds_at-other : (d : ℕ) (deed : Deed) → deed.dest ≢ d → deeds_at d (deed ∷ []) ≡ []
deeds_at-other d deed n = rw (ne_eqb deed.dest d n)

-- ---- an offer, and a deed that is not the reader's

pub offered_by-none : (r d : ℕ) (deed : Deed) → point_by r deed.act ≡ None → offered_by r (deeds_at d (deed ∷ [])) ≡ []
offered_by-none r d deed e = by_case (deed.dest == d) refl
  where
    by_case : (b : Bool) → deed.dest == d ≡ b → offered_by r (deeds_at d (deed ∷ [])) ≡ []
    by_case true h = rw (h, e)
    by_case false h = rw h

pub offered_by-offer : (r d e : ℕ) (point : Datapoint) (before : Destination)
    → offered_by r (deeds_at d (record { dest = e; act = Offered r point; before = before } ∷ []))
    ≡ sent_to d (record { dest = e; point = point } ∷ [])
offered_by-offer r d e point before = by_case (e == d) refl
  where
    by_case : (b : Bool) → e == d ≡ b
        → offered_by r (deeds_at d (record { dest = e; act = Offered r point; before = before } ∷ []))
        ≡ sent_to d (record { dest = e; point = point } ∷ [])
    by_case true h = rw (h, eq-eqb r r refl)
    by_case false h = rw h

pub point_by-other : (q r : ℕ) (point : Datapoint) → r ≢ q → point_by q (Offered r point) ≡ None
point_by-other q r point n = rw (ne_eqb r q n)
