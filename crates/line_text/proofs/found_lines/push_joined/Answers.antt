use Rattle.std.proofs.Common.{◌≡◌, ℕ, Bool, true, List, [], ◌++◌, length, Result, is_err, subst, ap, sym, ◌∙◌}
use Rattle.std.specs.Prelude.{◌==◌, IfOk}
use Rattle.std.proofs.lemmas.Bool.{eqb-true}
use Rattle.std.proofs.lemmas.List.{nil_from_length}
use Rattle.line_text.specs.Line.{points, one_line, reading}
use Rattle.line_text.proofs.found_lines.push_joined.Goals as goal

-- what holds of a text holds of all bytes, which are that text
of_all : {X E : Type 0} (r : Result X E) (P : X → List ℕ → Type 0) (text all : List ℕ) → text ≡ all → IfOk r (λ x. P x text) → IfOk r (λ x. P x all)
of_all r P text all same holds = subst (λ (t : List ℕ). IfOk r (λ x. P x t)) same holds

-- if nothing was kept, all bytes are those of the piece
no_rest : (b : Bool) (n : ℕ) (rest more : List ℕ) → n ≡ length rest → b ≡ (n == 0) → b ≡ true → more ≡ rest ++ more
no_rest b n rest more size test none =
    let empty : rest ≡ [] = nil_from_length rest (sym size ∙ eqb-true n 0 (sym test ∙ none)) in
    sym (ap (λ (r : List ℕ). r ++ more) empty)

pub returns-then-is_empty-clause-gained : goal.returns-then-is_empty-clause-gained
returns-then-is_empty-clause-gained g c =
    let rest = c.args.rest.now in
    of_all c.push_point_of.result (λ bad (text : List ℕ). c.push_point_of.new.out.items ≡ c.args.out.now.items ++ points (one_line text c.args.moment)) c.args.more.now (rest.items ++ c.args.more.now)
    (no_rest c.is_empty.result rest.len rest.items c.args.more.now rest.ok.0 c.is_empty.ensures c.if-is_empty.true) c.push_point_of.ensures.gained

pub returns-then-is_empty-clause-bad : goal.returns-then-is_empty-clause-bad
returns-then-is_empty-clause-bad g c =
    let rest = c.args.rest.now in
    of_all c.push_point_of.result (λ bad (text : List ℕ). bad ≡ is_err (reading (record { text = text; moment = c.args.moment }))) c.args.more.now (rest.items ++ c.args.more.now)
    (no_rest c.is_empty.result rest.len rest.items c.args.more.now rest.ok.0 c.is_empty.ensures c.if-is_empty.true) c.push_point_of.ensures.bad

pub returns-clause-gained : goal.returns-clause-gained
returns-clause-gained g c =
    of_all c.push_point_of-read.result (λ bad (text : List ℕ). c.push_point_of-read.new.out.items ≡ c.args.out.now.items ++ points (one_line text c.args.moment)) c.as_slice.result.now (c.args.rest.now.items ++ c.args.more.now)
    (c.as_slice.ensures.value ∙ c.in_ok-extend_from_slice.ensures.items) c.push_point_of-read.ensures.gained

pub returns-clause-bad : goal.returns-clause-bad
returns-clause-bad g c =
    of_all c.push_point_of-read.result (λ bad (text : List ℕ). bad ≡ is_err (reading (record { text = text; moment = c.args.moment }))) c.as_slice.result.now (c.args.rest.now.items ++ c.args.more.now)
    (c.as_slice.ensures.value ∙ c.in_ok-extend_from_slice.ensures.items) c.push_point_of-read.ensures.bad
