-- Destinations mentioned one after the other.
use Rattle.std.proofs.Common.{◌≡◌, ℕ, ◌+◌, ◌<◌, Bool, cond, List, [], ◌∷◌, ◌++◌, length, drop, get_or, refl, ap, sym, ◌∙◌}
use Rattle.std.proofs.lemmas.List.{at_drop_more}
use Rattle.relay_base.specs.declared.dest_id.DestId.{DestId}
use Rattle.relay_rules.specs.Destinations.{has_id, with_more}

-- the next of the destinations that are still to be mentioned
pub with_more-drop : (ids more : List DestId) (i : ℕ) (d : DestId) (has : Bool) → i < length more → has ≡ has_id ids (get_or more i d) →
    with_more (cond has ids (ids ++ get_or more i d ∷ [])) (drop (i + 1) more) ≡ with_more ids (drop i more)
with_more-drop ids more i d has lt is =
    ap (λ (b : Bool). with_more (cond b ids (ids ++ get_or more i d ∷ [])) (drop (i + 1) more)) is ∙ sym (at_drop_more (with_more ids) more i d lt)

-- mentioned in two goes
pub with_more-append : (ids more later : List DestId) → with_more (with_more ids more) later ≡ with_more ids (more ++ later)
with_more-append ids [] later = refl
with_more-append ids (id ∷ more) later = with_more-append (cond (has_id ids id) ids (ids ++ id ∷ [])) more later
