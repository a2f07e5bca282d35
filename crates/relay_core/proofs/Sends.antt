-- What is sent to a destination is what the route has for it.
use Rattle.std.proofs.Common.{◌≡◌, ℕ, eqb, ◌==◌, Bool, true, false, ◌||◌, cond, List, [], ◌∷◌, ◌++◌, map, Some, None, Option, refl, ap, ◌∙◌, flat_map, arith}
use Rattle.std.specs.List.{IsDistinct, AllByRecursion}
use Rattle.std.proofs.lemmas.Bool.{or_parts, eqb-true}
use Rattle.std.proofs.lemmas.Bool.Decides.{nat_tests}
use Rattle.std.proofs.lemmas.List.{map-append}
use Rattle.std.proofs.lemmas.List.Elements.{filter-append}
use Rattle.line_text.specs.Datapoint.{Datapoint}
use Rattle.reader_core.specs.Configuration.{Configuration, RoutesOnce, Dispatch, has, rewritten_point, dispatches, sends, sent_to, point_for, points_for}

pub sent_to-append : (d : ℕ) (all more : List Dispatch) → sent_to d (all ++ more) ≡ sent_to d all ++ sent_to d more
sent_to-append d all more = rw filter-append (map-append (λ s. s.point) _ _)

-- a point to each of these destinations
abbrev to_each : List ℕ → Datapoint → List Dispatch
to_each dests point = map (λ d. record { dest = d; point = point }) dests

sent_to-missing : (d : ℕ) (dests : List ℕ) (point : Datapoint) → has d dests ≡ false → sent_to d (to_each dests point) ≡ []
sent_to-missing d [] point e = refl
sent_to-missing d (first ∷ others) point e =
    let parts = or_parts (first == d) (has d others) e in rw parts.0 (sent_to-missing d others point parts.1)

eqb_flips : (x y : ℕ) → eqb x y ≡ eqb y x
eqb_flips x y = grind (arith, nat_tests)

missing : (d : ℕ) (dests : List ℕ) → AllByRecursion (λ (other : ℕ). d == other ≡ false) dests → has d dests ≡ false
missing d [] apart = refl
missing d (other ∷ dests) apart = ap (λ b. b || has d dests) (eqb_flips other d ∙ apart.0) ∙ missing d dests apart.1

-- each destination is named once, so that the point goes there once or not at all
sent_to-each : (d : ℕ) (dests : List ℕ) (point : Datapoint) → IsDistinct (λ (a b : ℕ). a == b) dests
    → sent_to d (to_each dests point) ≡ cond (has d dests) (point ∷ []) []
unfolding IsDistinct
sent_to-each d [] point once = refl
sent_to-each d (first ∷ others) point once =
    by_case (first == d) refl (missing first others once.0) (sent_to-each d others point once.1)
  where
    by_case : (b : Bool) → first == d ≡ b → has first others ≡ false
        → sent_to d (to_each others point) ≡ cond (has d others) (point ∷ []) []
        → sent_to d (to_each (first ∷ others) point) ≡ cond (has d (first ∷ others)) (point ∷ []) []
    by_case true h apart rest =
        let away : has d others ≡ false = rw (← eqb-true first d h) apart in
        rw h (ap (λ points. point ∷ points) (sent_to-missing d others point away))
    by_case false h apart rest = rw h rest

module _ (c : Configuration) (routes_once : RoutesOnce c) where
  sent_to-route : (d : ℕ) (point : Option Datapoint) → sent_to d (dispatches c point) ≡ point_for c d point
  sent_to-route d None = refl
  sent_to-route d (Some point) = sent_to-each d (c.route point.name) point (routes_once point.name)

  -- of many points
  pub sent_to-sends : (d : ℕ) (points : List Datapoint) → sent_to d (flat_map (sends c) points) ≡ points_for c d points
  sent_to-sends d [] = refl
  sent_to-sends d (point ∷ points) =
      sent_to-append d (sends c point) (flat_map (sends c) points)
      ∙ rw (sent_to-route d (rewritten_point c point), sent_to-sends d points)
