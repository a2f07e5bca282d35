use Rattle.std.proofs.Common.{◌≡◌, true, false, cond, nat_eq, ◌∷◌, ◌++◌, [], List, sym, ap, ◌∙◌, subst}
use Rattle.hash_ring.specs.Entry.{Entry, is_taken, has_shared_place}
use Rattle.hash_ring.specs.Placing.{free_place}
use Rattle.hash_ring.proofs.PlacingLemmas.{is_taken-push, shared-push, free_is_free}
use Rattle.hash_ring.proofs.entries.RingEntries.place.Goals as goal

-- the entries with the new one
grown : (c : goal.After-push_reserved) → c.push_reserved.new.self.items ≡ c.self.inside.entries.items ++ (c.free_place-place.result, c.args.node) ∷ []
grown c = c.push_reserved.ensures.items ∙ ap (λ (l : List Entry). l ++ (c.free_place-place.result, c.args.node) ∷ []) c.in_ok-reserve.ensures.items

-- its position was free
was_free : (c : goal.After-push_reserved) → is_taken c.self.inside.entries.items c.free_place-place.result ≡ false
was_free c = ap (is_taken c.self.inside.entries.items) (c.free_place-place.ensures ∙ ap (λ (l : List Entry). free_place l c.args.wanted) (sym c.self.view_is)) ∙ free_is_free c.self.inside.entries.items c.args.wanted

pub invariant_of-self-2 : goal.invariant_of-self-2
invariant_of-self-2 c =
    let es = c.self.inside.entries.items in
    let e : Entry = (c.free_place-place.result, c.args.node) in (
      λ p. c.in_ok-insert.ensures.updates.0 p ∙ ap (cond (nat_eq c.free_place-place.result p) true) (c.self.invariant.0 p) ∙ sym (is_taken-push es e p) ∙ ap (λ (l : List Entry). is_taken l p) (sym (grown c)),
      subst (λ (l : List Entry). has_shared_place l ≡ false) (sym (grown c)) (shared-push es e c.self.invariant.1 (was_free c)),
    )
