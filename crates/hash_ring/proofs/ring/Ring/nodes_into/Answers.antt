use Rattle.std.proofs.Common.{◌≡◌, ℕ, ◌++◌, [], List, map, take, length, sym, ap, ◌∙◌}
use Rattle.hash_ring.specs.Entry.{Entry, Ring, node_of}
use Rattle.hash_ring.specs.Walk.{in_rising_order, from_position, below_position, taken_by, mark_of, choice}
use Rattle.hash_ring.proofs.ChoiceLemmas.{none_chosen}
use Rattle.hash_ring.proofs.WalkLemmas.{choice_from_parts}
use Rattle.hash_ring.proofs.ring.Ring.nodes_into.Goals as goal

pub returns : goal.returns
returns c =
    let ring = c.self.inside in
    let es = ring.entries.items in
    let diverse = c.args.diverse in
    let mark = mark_of ring.servers.items diverse in
    let above = c.split_at_place.result.1.now in
    let below = c.split_at_place.result.0.now in
    let wanted = c.min-wanted.result in
    let is_above : above ≡ in_rising_order (from_position c.args.position es) =
    c.split_at_place.ensures.above ∙ ap (λ (p : ℕ). in_rising_order (from_position p c.deref.result.now)) c.from.ensures ∙ ap (λ (l : List Entry). in_rising_order (from_position c.args.position l)) c.deref.ensures.value
    in
    let is_below : below ≡ in_rising_order (below_position c.args.position es) =
    c.split_at_place.ensures.below ∙ ap (λ (p : ℕ). in_rising_order (below_position p c.deref.result.now)) c.from.ensures ∙ ap (λ (l : List Entry). in_rising_order (below_position c.args.position l)) c.deref.ensures.value
    in
    let start = c.clear.ensures.items ∙ none_chosen (mark_of c.deref-2.result.now diverse) wanted in
    let first : c.choose_along.new.chosen.items ≡ take wanted (taken_by mark (map node_of above)) =
    c.in_ok-choose_along.ensures [] start ∙ ap (λ (l : List ℕ). take wanted (taken_by (mark_of l diverse) (map node_of above))) c.deref-2.ensures.value
    in
    let again = first ∙ sym (ap (λ (l : List ℕ). take wanted (taken_by (mark_of l diverse) (map node_of above))) c.deref-3.ensures.value) in
    let second : c.choose_along-2.new.chosen.items ≡ take wanted (taken_by mark (map node_of above ++ map node_of below)) =
    c.in_ok-choose_along-2.ensures (map node_of above) again ∙ ap (λ (l : List ℕ). take wanted (taken_by (mark_of l diverse) (map node_of above ++ map node_of below))) c.deref-3.ensures.value
    in
    let counts : c.most.result ≡ length (taken_by mark (map node_of es)) =
    c.most.ensures ∙ sym (ap (λ (r : Ring). length (taken_by (mark_of r.servers diverse) (map node_of r.entries))) c.self.view_is)
    in
    let joined = choice_from_parts mark es above below c.args.position c.args.factor c.most.result is_above is_below counts in
    second ∙ ap (λ w. take w (taken_by mark (map node_of above ++ map node_of below))) c.min-wanted.ensures ∙ joined ∙ ap (λ (r : Ring). choice r c.args.position c.args.factor diverse) c.self.view_is
