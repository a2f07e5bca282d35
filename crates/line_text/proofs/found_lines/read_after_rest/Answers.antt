use Rattle.std.proofs.Common.{◌≡◌, ℕ, ◌+◌, Bool, not, ◌&&◌, List, ◌++◌, ◌∷◌, [], length, take, take_while, ap, sym, ◌∙◌, arith}
use Rattle.std.specs.Prelude.{nat_le}
use Rattle.std.proofs.lemmas.Bool.{not-false, not-true}
use Rattle.std.specs.List.{list_all}
use Rattle.std.proofs.lemmas.List.{append-nil, length-append, take_all}
use mir.Val.{bool_byte}
use Rattle.relay_base.proofs.Growth.{take-all_of, take-kept_through}
use Rattle.line_text.specs.Line.{Line, points, bad_count, count_of}
use Rattle.line_text.specs.Connection.{fits, is_short, longest_line}
use Rattle.line_text.specs.Split.{lines_at}
use Rattle.line_text.proofs.LineLemmas.{bool_count, take_while-passes, take_while-fails, points-front, bad_count-append}
use Rattle.line_text.proofs.found_lines.read_after_rest.Goals as goal

-- the test of two lengths is that of all bytes
all_long : (long : Bool) (n k : ℕ) (rest more : List ℕ) → n ≡ k → k ≡ length rest → long ≡ not (nat_le (n + length more) longest_line) → long ≡ not (fits (rest ++ more))
all_long long n k rest more len size test =
    let all : n + length more ≡ length (rest ++ more) = omega (arith, length-append rest more) in
    test ∙ ap (λ (t : ℕ). not (nat_le t longest_line)) all

pub returns-in_err-others-clause-kept : goal.returns-in_err-others-clause-kept
returns-in_err-others-clause-kept g c =
    let first = ap (λ out. take (length c.args.out.now.items) out) c.in_ok-bad.ensures.gained ∙ take-all_of c.args.out.now.items _ in
    take-kept_through c.args.out.now.items c.push_joined.new.out.items c.read_lines.new.out.items first c.read_lines.ensures.kept

pub returns-clause-gained : goal.returns-clause-gained
returns-clause-gained g c =
    let rest = c.args.rest.now in
    let fits = not-false _ (sym (all_long c.is_over_limit.result c.len.result rest.len rest.items c.args.head.now c.len.ensures rest.ok.0 c.is_over_limit.ensures) ∙ c.if-is_over_limit.false) in
    let line : Line = record { text = rest.items ++ c.args.head.now; moment = c.args.moment } in
    let others = lines_at c.args.moment c.args.lines in
    points-front line others c.args.out.now.items c.push_joined.new.out.items c.read_lines.new.out.items fits c.in_ok-bad.ensures.gained c.in_ok-others.ensures.gained

pub returns-clause-bad : goal.returns-clause-bad
returns-clause-bad g c =
    let rest = c.args.rest.now in
    let fits = not-false _ (sym (all_long c.is_over_limit.result c.len.result rest.len rest.items c.args.head.now c.len.ensures rest.ok.0 c.is_over_limit.ensures) ∙ c.if-is_over_limit.false) in
    let line : Line = record { text = rest.items ++ c.args.head.now; moment = c.args.moment } in
    let others = lines_at c.args.moment c.args.lines in
    let count = ap bad_count (take_while-passes is_short line others fits) ∙ bad_count-append (line ∷ []) (take_while is_short others) in
    let reported = c.from.ensures ∙ ap bool_byte c.in_ok-bad.ensures.bad ∙ bool_count _ in
    omega (arith, count, reported, c.in_ok-others.ensures.bad, c.saturating_add.ensures)

pub returns-clause-too_long : goal.returns-clause-too_long
returns-clause-too_long g c =
    let rest = c.args.rest.now in
    let fits = not-false _ (sym (all_long c.is_over_limit.result c.len.result rest.len rest.items c.args.head.now c.len.ensures rest.ok.0 c.is_over_limit.ensures) ∙ c.if-is_over_limit.false) in
    c.in_ok-others.ensures.too_long ∙ ap (λ (t : Bool). not (t && list_all is_short (lines_at c.args.moment c.args.lines))) (sym fits)

pub returns-clause-kept : goal.returns-clause-kept
returns-clause-kept g c =
    let first = ap (λ out. take (length c.args.out.now.items) out) c.in_ok-bad.ensures.gained ∙ take-all_of c.args.out.now.items _ in
    take-kept_through c.args.out.now.items c.push_joined.new.out.items c.read_lines.new.out.items first c.read_lines.ensures.kept

-- nothing is read from a line on that is too long

pub returns-then-is_over_limit-clause-gained : goal.returns-then-is_over_limit-clause-gained
returns-then-is_over_limit-clause-gained g c =
    let rest = c.args.rest.now in
    let long = not-true _ (sym (all_long c.is_over_limit.result c.len.result rest.len rest.items c.args.head.now c.len.ensures rest.ok.0 c.is_over_limit.ensures) ∙ c.if-is_over_limit.true) in
    let line : Line = record { text = rest.items ++ c.args.head.now; moment = c.args.moment } in
    let none = take_while-fails is_short line (lines_at c.args.moment c.args.lines) long in
    sym (append-nil c.args.out.now.items) ∙ ap (λ (ls : List Line). c.args.out.now.items ++ points ls) (sym none)

pub returns-then-is_over_limit-clause-bad : goal.returns-then-is_over_limit-clause-bad
returns-then-is_over_limit-clause-bad g c =
    let rest = c.args.rest.now in
    let long = not-true _ (sym (all_long c.is_over_limit.result c.len.result rest.len rest.items c.args.head.now c.len.ensures rest.ok.0 c.is_over_limit.ensures) ∙ c.if-is_over_limit.true) in
    let line : Line = record { text = rest.items ++ c.args.head.now; moment = c.args.moment } in
    let none = take_while-fails is_short line (lines_at c.args.moment c.args.lines) long in
    ap (λ (ls : List Line). count_of (bad_count ls)) (sym none)

pub returns-then-is_over_limit-clause-too_long : goal.returns-then-is_over_limit-clause-too_long
returns-then-is_over_limit-clause-too_long g c =
    let rest = c.args.rest.now in
    let long = not-true _ (sym (all_long c.is_over_limit.result c.len.result rest.len rest.items c.args.head.now c.len.ensures rest.ok.0 c.is_over_limit.ensures) ∙ c.if-is_over_limit.true) in
    ap (λ (t : Bool). not (t && list_all is_short (lines_at c.args.moment c.args.lines))) (sym long)
