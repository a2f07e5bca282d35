use Rattle.std.proofs.Common.{◌≡◌, ℕ, ◌+◌, ◌-◌, false, length, sym, ap, ◌∙◌, arith}
use Rattle.std.proofs.lemmas.List.{get_or_default}
use Rattle.conf_text.specs.Sections.{SectionText, has_key}
use Rattle.conf_text.specs.ReadLine.{pair_view}
use Rattle.conf_text.proofs.IniLines.{new_key, names_stay, place_of_last}
use Rattle.conf_text.proofs.ini.add_to_last.Goals as goal

pub returns-clause-ok : goal.returns-clause-ok
returns-clause-ok c =
    let sections = c.args.sections.now.items in
    let n : ℕ = c.len-last.result - 1 in
    let count = c.args.sections.now.ok.0 in
    let last : n + 1 ≡ length sections = place_of_last c.args.sections.now.len c.len-last.result (length sections) c.is_empty.result c.is_empty.ensures c.if-is_empty.false c.len-last.ensures count in
    let same : c.index.result.now ≡ c.index_mut.result.now = c.index.ensures ∙ get_or_default sections n c.index.result.now c.index_mut.result.now (omega arith) ∙ sym c.index_mut.ensures.value in
    let fresh : has_key c.in-Some.pair.key.now c.index_mut.result.now.pairs ≡ false = ap (λ (s : SectionText). has_key c.in-Some.pair.key.now s.pairs) (sym same) ∙ sym c.contains_key.ensures ∙ c.if-contains_key.false in
    rw (c.in-Some.is, c.in_ok-push.ensures.ok) (new_key sections c.args.number n c.index_mut.result.now (pair_view c.in-Some.pair) last c.index_mut.ensures.value fresh)

pub returns-clause-names : goal.returns-clause-names
returns-clause-names c =
    names_stay c.args.sections.now.items (c.len-last.result - 1) c.index_mut.result.now c.push.new.self c.index_mut.ensures.value (ap (λ (s : SectionText). s.name) c.in_ok-push.ensures.ok)
