use Rattle.std.proofs.Common.{◌≡◌, List, ℕ, [], ◌∷◌, ◌++◌, map, length, ap, sym, subst, ◌∙◌, arith}
use Rattle.std.proofs.lemmas.List.{map_push, length-map}
use Rattle.conf_text.specs.Sections.{Pair}
use Rattle.conf_text.specs.Places.{IsIndexOf}
use Rattle.conf_text.proofs.Indexes.{unlisted}
use Rattle.conf_text.proofs.section.Section.push.Goals as goal

abbrev key : Pair → List ℕ
key p = p.key

pub invariant_of-self-2 : goal.invariant_of-self-2
invariant_of-self-2 c =
    let items = c.self.inside.pairs.items in
    let fresh = unlisted key c.args.key.now items (rw (← c.self.view_is) at c.requires) in
    let count : c.len.result ≡ length (map key items) = omega (arith, c.len.ensures, c.in_ok-reserve.ensures.len, c.self.inside.pairs.ok.0, length-map items key) in
    let pairs_are : c.push_reserved.new.self.items ≡ items ++ c.in_ok-pair.pair ∷ [] = c.push_reserved.ensures.items ∙ ap (λ (xs : List Pair). xs ++ c.in_ok-pair.pair ∷ []) c.in_ok-reserve.ensures.items in
    let keys_are : map key c.push_reserved.new.self.items ≡ map key items ++ c.args.key.now ∷ [] =
    ap (map key) pairs_are ∙ map_push key items c.in_ok-pair.pair ∙ ap (λ (p : Pair). map key items ++ p.key ∷ []) c.in_ok-pair.ensures in
    subst (λ (ks : List (List ℕ)). IsIndexOf ks c.put.new.places) (sym keys_are) (c.in_ok-put.ensures.ok (map key items) c.self.invariant fresh count)
