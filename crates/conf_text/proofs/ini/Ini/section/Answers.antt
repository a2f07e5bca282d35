use Rattle.std.proofs.Common.{List, ℕ, Some, sym, ap, ◌∙◌, arith}
use Rattle.conf_text.specs.Sections.{SectionText}
use Rattle.conf_text.proofs.Indexes.{found, not_found}
use Rattle.conf_text.proofs.ini.Ini.section.Goals as goal

abbrev name : SectionText → List ℕ
name s = s.name

pub returns-in_err-place : goal.returns-in_err-place
returns-in_err-place c =
    let none = not_found name c.args.name.now c.self.inside.sections.items (sym (c.in_err-place.ensures.value ∙ c.self.invariant c.args.name.now)) in
    rw (c.from_residual.ensures, ← c.self.view_is) (sym none)

pub index-requires : goal.index-requires
index-requires c =
    let at = found name c.args.name.now c.self.inside.sections.items c.in_ok-place.field-0.now (sym (c.in_ok-place.ensures.value ∙ c.self.invariant c.args.name.now)) in
    omega (arith, at.0, c.self.inside.sections.ok.0)

pub returns : goal.returns
returns c =
    let at = found name c.args.name.now c.self.inside.sections.items c.in_ok-place.field-0.now (sym (c.in_ok-place.ensures.value ∙ c.self.invariant c.args.name.now)) in
    rw (← c.self.view_is) (sym (at.1 c.index.result.now ∙ ap (λ (s : SectionText). Some s) (sym c.index.ensures)))
