-- An act leaves a destination's queue with the same number of readers, and at most one more offer
-- counted.
use Rattle.std.proofs.Common.{◌≡◌, ◌<◌, ◌≤◌, ◌+◌, ℕ, List, [], ◌∷◌, length, inl, inr, arith}
use Rattle.std.proofs.lemmas.Bool.{cases_lt}
use Rattle.std.proofs.lemmas.List.{length-set, set_past}
use Rattle.std.proofs.lemmas.List.Elements.{All-set}
use Rattle.std.specs.Prelude.{◌⊎◌, slice_set}
use Rattle.std.specs.List.{All}
use Rattle.relay_core.specs.Destination.{Act, Offered, Taken, Connected, Written, Lost}
use Rattle.relay_core.specs.WorldModel.{SizedDestination, sized_after}
use Rattle.reader_core.specs.Configuration.{Dispatch}
use Rattle.relay_core.specs.Offering.{OfFirst, sized_at, dests_after_offer}
use Rattle.relay_core.specs.Stored.{TakesOffers}

pub takes-more : (readers events : ℕ) (s : SizedDestination) → TakesOffers readers events s → TakesOffers readers (events + 1) s
takes-more readers events s t = record { has_all = t.has_all; counted = omega (arith, t.counted) }

pub takes-after : (readers events : ℕ) (act : Act) (s : SizedDestination) → TakesOffers readers events s → TakesOffers readers (events + 1) (sized_after act s)
takes-after readers events (Offered r point) s t = record { has_all = rw length-set t.has_all; counted = omega (arith, t.counted) }
takes-after readers events Taken s t = record { has_all = t.has_all; counted = omega (arith, t.counted) }
takes-after readers events Connected s t = record { has_all = t.has_all; counted = omega (arith, t.counted) }
takes-after readers events (Written count) s t = record { has_all = t.has_all; counted = omega (arith, t.counted) }
takes-after readers events Lost s t = record { has_all = t.has_all; counted = omega (arith, t.counted) }

pub all-more : (readers events : ℕ) (dests : List SizedDestination) → All (TakesOffers readers events) dests → All (TakesOffers readers (events + 1)) dests
all-more readers events dests all = λ k d l. takes-more readers events _ (all k d l)

offered-there : (readers events r : ℕ) (sent : Dispatch) (dests : List SizedDestination) → (sent.dest < length dests) ⊎ (length dests ≤ sent.dest)
    → All (TakesOffers readers events) dests → All (TakesOffers readers (events + 1)) (dests_after_offer r sent dests)
offered-there readers events r sent dests (inl l) all =
    All-set (TakesOffers readers (events + 1)) dests sent.dest _ (takes-after readers events (Offered r sent.point) (sized_at dests sent.dest) (all sent.dest _ l)) (all-more readers events dests all)
offered-there readers events r sent dests (inr past) all = rw (set_past dests sent.dest _ past) (all-more readers events dests all)

-- after an offer
pub offered : (readers events r : ℕ) (waiting : List Dispatch) (dests new_dests : List SizedDestination) → OfFirst waiting (λ sent. new_dests ≡ dests_after_offer r sent dests)
    → All (TakesOffers readers events) dests → All (TakesOffers readers (events + 1)) new_dests
offered readers events r [] dests new_dests same all = absurd same
offered readers events r (first ∷ others) dests new_dests same all = rw same (offered-there readers events r first dests (cases_lt first.dest (length dests)) all)

pub offered-length : (r : ℕ) (waiting : List Dispatch) (dests new_dests : List SizedDestination) → OfFirst waiting (λ sent. new_dests ≡ dests_after_offer r sent dests)
    → length new_dests ≡ length dests
offered-length r [] dests new_dests same = absurd same
offered-length r (first ∷ others) dests new_dests same =
    rw same (length-set dests first.dest (sized_after (Offered r first.point) (sized_at dests first.dest)))

-- after an act at a destination
pub acted : (readers events d : ℕ) (act : Act) (dests : List SizedDestination) (new : SizedDestination) → d < length dests → new ≡ sized_after act (sized_at dests d)
    → All (TakesOffers readers events) dests → All (TakesOffers readers (events + 1)) (slice_set dests d new)
acted readers events d act dests new l is all =
    All-set (TakesOffers readers (events + 1)) dests d new (rw is (takes-after readers events act (sized_at dests d) (all d _ l))) (all-more readers events dests all)
