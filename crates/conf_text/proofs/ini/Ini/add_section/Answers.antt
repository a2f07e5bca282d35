use Rattle.std.proofs.Common.{◌≡◌, List, ℕ, [], ◌∷◌, ◌++◌, map, length, ap, sym, subst, ◌∙◌, arith, inr}
use Rattle.std.specs.Option.{is_some}
use Rattle.std.proofs.lemmas.List.{map_push, length-map}
use Rattle.conf_text.specs.Sections.{SectionText}
use Rattle.conf_text.specs.Places.{IsIndexOf}
use Rattle.conf_text.proofs.Indexes.{listed, unlisted}
use Rattle.conf_text.proofs.IniLines.{header_again, new_header}
use Rattle.conf_text.proofs.ini.Ini.add_section.Goals as goal

abbrev name : SectionText → List ℕ
name s = s.name

pub returns-then-contains_key-clause-err : goal.returns-then-contains_key-clause-err
returns-then-contains_key-clause-err c =
    let sections = c.self.inside.sections.items in
    let known = listed name c.args.name.now sections ∙ ap is_some (sym (c.self.invariant c.args.name.now)) ∙ sym c.contains_key.ensures ∙ c.if-contains_key.true in
    inr (rw (← c.self.view_is) (header_again sections c.args.number c.args.name.now known))

pub invariant_of-self-2 : goal.invariant_of-self-2
invariant_of-self-2 c =
    let sections = c.self.inside.sections.items in
    let unknown = listed name c.args.name.now sections ∙ ap is_some (sym (c.self.invariant c.args.name.now)) ∙ sym c.contains_key.ensures ∙ c.if-contains_key.false in
    let fresh = unlisted name c.args.name.now sections unknown in
    let count : c.len.result ≡ length (map name sections) = omega (arith, c.len.ensures, c.in_ok-reserve.ensures.len, c.self.inside.sections.ok.0, length-map sections name) in
    let sections_are : c.push_reserved.new.self.items ≡ sections ++ c.in_ok-section.section ∷ [] = c.push_reserved.ensures.items ∙ ap (λ (xs : List SectionText). xs ++ c.in_ok-section.section ∷ []) c.in_ok-reserve.ensures.items in
    let names_are : map name c.push_reserved.new.self.items ≡ map name sections ++ c.args.name.now ∷ [] =
    ap (map name) sections_are ∙ map_push name sections c.in_ok-section.section ∙ ap (λ (s : SectionText). map name sections ++ s.name ∷ []) c.in_ok-section.ensures in
    subst (λ (ns : List (List ℕ)). IsIndexOf ns c.put.new.places) (sym names_are) (c.in_ok-put.ensures.ok (map name sections) c.self.invariant fresh count)

pub returns-clause-ok : goal.returns-clause-ok
returns-clause-ok c =
    let sections = c.self.inside.sections.items in
    let unknown = listed name c.args.name.now sections ∙ ap is_some (sym (c.self.invariant c.args.name.now)) ∙ sym c.contains_key.ensures ∙ c.if-contains_key.false in
    rw (c.push_reserved.ensures.items, c.in_ok-reserve.ensures.items, ← c.self.view_is, c.in_ok-section.ensures) (new_header sections c.args.number c.args.name.now unknown)
