-- The law `prefix` at line readers, one destination and the route that sends every datapoint there.
use Rattle.std.proofs.Common.{◌≡◌, ℕ, ◌==◌, List, [], ◌∷◌, ◌++◌, map, drop, flat_map, refl, sym, ap, ◌∙◌, arith}
use Rattle.std.specs.List.{IsDistinct}
use Rattle.std.proofs.lemmas.List.{drop-map}
use Rattle.line_text.specs.Datapoint.{Datapoint}
use Rattle.line_text.specs.Laws.{NothingAtFirstLaw, AcceptedGrowsLaw}
use Rattle.reader_core.specs.Reading.{IsOrderly}
use Rattle.reader_core.specs.Configuration.{Dispatch, sends, sent_to, points_for}
use Rattle.relay_core.specs.World.{RunEvent}
use Rattle.relay_core.specs.Run.{reader_in, offered_in, waiting_in}
use Rattle.relay_core.specs.FirstPath.{line_reading, all_to_one, first_path, accepted_in, all_waiting, OffersAccepted}
use Rattle.relay_core.proofs.Offers.{offers_prefix}
use Rattle.relay_core.proofs.Kept.{hands_over_kept}
use Rattle.relay_core.proofs.laws.first_path.Goals as goal

orderly : NothingAtFirstLaw → AcceptedGrowsLaw → IsOrderly line_reading
orderly nothing grows = record { nothing = λ kind has. nothing; grows = λ kind has bytes more. grows bytes more }

module _ (size limit : ℕ) where
  -- a point on its way to the one destination
  abbrev to_one : Datapoint → Dispatch
  to_one point = record { dest = 0; point = point }

  all_sends : (points : List Datapoint) → flat_map (sends (all_to_one size limit)) points ≡ map to_one points
  all_sends [] = refl
  all_sends (point ∷ points) = ap (λ others. to_one point ∷ others) (all_sends points)

  all_sent : (points : List Datapoint) → sent_to 0 (map to_one points) ≡ map (λ s. s.point) (map to_one points)
  all_sent [] = refl
  all_sent (point ∷ points) = ap (λ others. point ∷ others) (all_sent points)

  all_points : (points : List Datapoint) → points_for (all_to_one size limit) 0 points ≡ points
  all_points [] = refl
  all_points (point ∷ points) = ap (λ others. point ∷ others) (all_points points)

one_place : IsDistinct (λ (a b : ℕ). a == b) (0 ∷ [])
unfolding IsDistinct
one_place = (tt, tt)

offers_accepted : IsOrderly line_reading → (readers size limit : ℕ) (events : List RunEvent) → OffersAccepted (first_path readers size limit events)
offers_accepted lines readers size limit events r =
    let run = first_path readers size limit events in
    let made = (reader_in line_reading run r).made in
    let waits : all_waiting run r ≡ waiting_in line_reading run r 0 =
    rw (all_sends size limit (accepted_in run r), drop-map) (sym (all_sent size limit (drop made (accepted_in run r)))) in
    ap (λ points. offered_in line_reading run r 0 ++ points) waits
    ∙ offers_prefix line_reading lines run (λ name. one_place) r 0
    ∙ all_points size limit (accepted_in run r)

pub returns : goal.returns
returns c = λ readers size limit events.
    (offers_accepted (orderly c.orderly.ensures.nothing c.orderly.ensures.grows) readers size limit events, hands_over_kept line_reading (first_path readers size limit events) 0 (omega arith))
