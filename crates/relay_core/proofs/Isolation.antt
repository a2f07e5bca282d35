-- What happened at a destination is determined by its steps and by what each reader has for it.
use Rattle.std.proofs.Common.{◌≡◌, ◌≢◌, ◌<◌, ℕ, ◌==◌, cond, List, [], ◌∷◌, ◌++◌, map, length, drop, refl, sym, ap, ◌∙◌, eq-eqb, inl, inr}
use Rattle.std.proofs.lemmas.Bool.{cases_eq, ne_eqb}
use Rattle.std.proofs.lemmas.List.{map_push}
use Rattle.std.specs.Prelude.{◌⊎◌}
use Rattle.line_text.specs.Datapoint.{Datapoint}
use Rattle.dest_queue.specs.Counts.{counts_of}
use Rattle.reader_core.specs.Reading.{Reading, IsOrderly}
use Rattle.reader_core.specs.Configuration.{RoutesOnce}
use Rattle.relay_core.specs.Destination.{Destination, Act, Offered, Taken, Connected, Written, Lost, fresh_destination, dest_after, dest_after_all}
use Rattle.relay_core.specs.World.{RunEvent, Piece, End, Offer, Take, Up, Wrote, Down}
use Rattle.relay_core.specs.Run.{Run, Deed, offered_by, deeds_in, dest_in, points_in, waiting_in}
use Rattle.relay_core.specs.Agreement.{event_of, steps_in, AgreesAt, SameAt}
use Rattle.relay_core.proofs.Destinations.{at_each}
use Rattle.relay_core.proofs.Offers.{offers_prefix}
use mathlib.Core.Path.{fun_ext}

-- ---- the acts of steps, when each reader offers its points in order

first_act : ℕ → List Datapoint → List Act
first_act r [] = []
first_act r (point ∷ points) = Offered r point ∷ []

without_first : ℕ → (ℕ → List Datapoint) → ℕ → List Datapoint
without_first r points q = cond (q == r) (drop 1 (points q)) (points q)

acts_of : (ℕ → List Datapoint) → List RunEvent → List Act
acts_of points [] = []
acts_of points (Offer r ∷ steps) = first_act r (points r) ++ acts_of (without_first r points) steps
acts_of points (Take d ∷ steps) = Taken ∷ acts_of points steps
acts_of points (Up d ∷ steps) = Connected ∷ acts_of points steps
acts_of points (Wrote d count ∷ steps) = Written count ∷ acts_of points steps
acts_of points (Down d ∷ steps) = Lost ∷ acts_of points steps
acts_of points (Piece r bytes moment ∷ steps) = acts_of points steps
acts_of points (End r ∷ steps) = acts_of points steps

-- what the readers offer in these deeds, and more behind
abbrev behind : List Deed → (ℕ → List Datapoint) → ℕ → List Datapoint
behind deeds more r = offered_by r deeds ++ more r

one_deed : (d dest : ℕ) (act : Act) (before : Destination) (deeds : List Deed) (more : ℕ → List Datapoint)
    → acts_of (behind deeds more) (map (λ deed. event_of d deed.act) deeds) ≡ map (λ deed. deed.act) deeds
    → acts_of (behind (record { dest = dest; act = act; before = before } ∷ deeds) more) (event_of d act ∷ map (λ deed. event_of d deed.act) deeds)
    ≡ act ∷ map (λ deed. deed.act) deeds
unfolding first_act without_first acts_of
one_deed d dest (Offered r point) before deeds more rest =
    rw (eq-eqb r r refl) (ap (λ acts. Offered r point ∷ acts) (ap (λ points. acts_of points (map (λ deed. event_of d deed.act) deeds)) (fun_ext same) ∙ rest))
  where
    same : (q : ℕ) → without_first r (behind (record { dest = dest; act = Offered r point; before = before } ∷ deeds) more) q ≡ behind deeds more q
    same q = by_case (cases_eq r q)
      where
        by_case : (r ≡ q) ⊎ (r ≢ q) → without_first r (behind (record { dest = dest; act = Offered r point; before = before } ∷ deeds) more) q ≡ behind deeds more q
        by_case (inl e) = rw (eq-eqb r q e, eq-eqb q r (sym e))
        by_case (inr n) = rw (ne_eqb r q n, ne_eqb q r (λ e. n (sym e)))
one_deed d dest Taken before deeds more rest = ap (λ acts. Taken ∷ acts) rest
one_deed d dest Connected before deeds more rest = ap (λ acts. Connected ∷ acts) rest
one_deed d dest (Written count) before deeds more rest = ap (λ acts. Written count ∷ acts) rest
one_deed d dest Lost before deeds more rest = ap (λ acts. Lost ∷ acts) rest

acts_are : (d : ℕ) (deeds : List Deed) (more : ℕ → List Datapoint)
    → acts_of (behind deeds more) (map (λ deed. event_of d deed.act) deeds) ≡ map (λ deed. deed.act) deeds
unfolding acts_of
acts_are d [] more = refl
acts_are d (deed ∷ deeds) more = one_deed d deed.dest deed.act deed.before deeds more (acts_are d deeds more)

-- ---- a destination is what its acts make it, except for the readers' next numbers

abbrev acts_in : Reading → Run → ℕ → List Act
acts_in reading run d = map (λ deed. deed.act) (deeds_in reading run d)

dest_after_all-push : (size limit : ℕ) (dest : Destination) (acts : List Act) (act : Act)
    → dest_after_all size limit dest (acts ++ act ∷ []) ≡ dest_after size limit (dest_after_all size limit dest acts) act
dest_after_all-push size limit dest [] act = refl
dest_after_all-push size limit dest (first ∷ acts) act = dest_after_all-push size limit (dest_after size limit dest first) acts act

made_by_acts : (reading : Reading) (run : Run) (d : ℕ) → d < run.configuration.destinations
    → dest_in reading run d ≡ dest_after_all run.configuration.size run.configuration.limit (fresh_destination (length run.kinds)) (acts_in reading run d)
made_by_acts reading run d l =
    at_each reading run
    (λ dest deeds. dest ≡ dest_after_all run.configuration.size run.configuration.limit (fresh_destination (length run.kinds)) (map (λ deed. deed.act) deeds))
    (λ dest deeds e act may same.
    ap (λ dest. dest_after run.configuration.size run.configuration.limit dest act) same
    ∙ sym (ap (dest_after_all run.configuration.size run.configuration.limit (fresh_destination (length run.kinds))) (map_push (λ deed. deed.act) deeds (record { dest = e; act = act; before = dest }))
    ∙ dest_after_all-push run.configuration.size run.configuration.limit (fresh_destination (length run.kinds)) (map (λ deed. deed.act) deeds) act))
    refl d l

without_numbers : Destination → Destination
without_numbers dest = record dest { queue = record dest.queue { next = [] } }

dest_after-without : (size limit : ℕ) (dest : Destination) (act : Act)
    → without_numbers (dest_after size limit dest act) ≡ without_numbers (dest_after size limit (without_numbers dest) act)
unfolding without_numbers
dest_after-without size limit dest (Offered r point) = refl
dest_after-without size limit dest Taken = refl
dest_after-without size limit dest Connected = refl
dest_after-without size limit dest (Written count) = refl
dest_after-without size limit dest Lost = refl

dest_after_all-without : (size limit : ℕ) (a b : Destination) (acts : List Act) → without_numbers a ≡ without_numbers b
    → without_numbers (dest_after_all size limit a acts) ≡ without_numbers (dest_after_all size limit b acts)
dest_after_all-without size limit a b [] same = same
dest_after_all-without size limit a b (act ∷ acts) same =
    dest_after_all-without size limit (dest_after size limit a act) (dest_after size limit b act) acts
    (dest_after-without size limit a act ∙ ap (λ dest. without_numbers (dest_after size limit dest act)) same ∙ sym (dest_after-without size limit b act))

-- ---- two runs that agree

module _ (reading : Reading) (orderly : IsOrderly reading) where
  acts_from_steps : (run : Run) → RoutesOnce run.configuration → (d : ℕ)
      → acts_of (λ r. points_in reading run r d) (steps_in reading run d) ≡ acts_in reading run d
  acts_from_steps run routes_once d =
      ap (λ points. acts_of points (steps_in reading run d)) (fun_ext (λ r. sym (offers_prefix reading orderly run routes_once r d)))
      ∙ acts_are d (deeds_in reading run d) (λ r. waiting_in reading run r d)

  module _ (a b : Run) (d : ℕ) (agrees : AgreesAt reading d a b) where
    same_acts : RoutesOnce a.configuration → RoutesOnce b.configuration → acts_in reading a d ≡ acts_in reading b d
    same_acts once_a once_b =
        sym (acts_from_steps a once_a d)
        ∙ ap (λ points. acts_of points (steps_in reading a d)) (fun_ext agrees.points)
        ∙ ap (acts_of (λ r. points_in reading b r d)) agrees.steps
        ∙ acts_from_steps b once_b d

    same_destination : RoutesOnce a.configuration → RoutesOnce b.configuration
        → d < a.configuration.destinations → d < b.configuration.destinations
        → without_numbers (dest_in reading a d) ≡ without_numbers (dest_in reading b d)
    unfolding without_numbers
    same_destination once_a once_b in_a in_b =
        let alike :
        dest_after_all a.configuration.size a.configuration.limit (fresh_destination (length a.kinds)) (acts_in reading a d)
        ≡ dest_after_all b.configuration.size b.configuration.limit (fresh_destination (length a.kinds)) (acts_in reading b d) =
        rw (same_acts once_a once_b, agrees.size, agrees.limit) in
        ap without_numbers (made_by_acts reading a d in_a ∙ alike)
        ∙ dest_after_all-without b.configuration.size b.configuration.limit (fresh_destination (length a.kinds)) (fresh_destination (length b.kinds)) (acts_in reading b d) refl
        ∙ ap without_numbers (sym (made_by_acts reading b d in_b))

    pub same_at : RoutesOnce a.configuration → RoutesOnce b.configuration
        → d < a.configuration.destinations → d < b.configuration.destinations → SameAt reading d a b
    unfolding without_numbers
    same_at once_a once_b in_a in_b =
        let same = same_destination once_a once_b in_a in_b in
        record {
          handed = ap (λ dest. dest.connections) same;
          counts = ap (λ dest. counts_of dest.queue) same;
        }
