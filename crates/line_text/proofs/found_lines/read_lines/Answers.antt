use Rattle.std.proofs.Common.{◌≡◌, ℕ, length, zero-add, ◌++◌, ◌∷◌, [], ◌&&◌, Bool, true, List, is_err, take_while, ap, sym, ◌∙◌, arith}
use Rattle.std.specs.List.{list_all}
use Rattle.std.specs.Prelude.{nat_le}
use Rattle.std.proofs.lemmas.Bool.{not-false}
use mir.Val.{bool_byte}
use Rattle.relay_base.proofs.Growth.{take-kept}
use Rattle.line_text.specs.Datapoint.{Datapoint}
use Rattle.line_text.specs.Line.{Line, points, bad_count, reading}
use Rattle.line_text.specs.Connection.{is_short, longest_line}
use Rattle.line_text.specs.Split.{lines_at}
use Rattle.line_text.proofs.LineLemmas.{take_while-passes, points-line, bad_count-line, bool_count}
use Rattle.line_text.proofs.found_lines.read_lines.Goals as goal

pub loop-line-preserved : goal.loop-line-preserved
loop-line-preserved g c =
    let line : Line = record { text = c.in-Some.line.now; moment = c.args.moment } in
    let left = lines_at c.args.moment c.next.new.self in
    let begins = ap (lines_at c.args.moment) c.in-Some.ensures.steps in
    let within = not-false _ (sym c.is_over_limit.ensures ∙ c.if-is_over_limit.false) in
    let short : is_short line ≡ true = ap (λ (n : ℕ). nat_le n longest_line) (sym (zero-add (length line.text))) ∙ within in
    let front = ap (λ (lines : List Line). take_while is_short lines) begins ∙ take_while-passes is_short line left short in
    record {
      gained =
          ap (λ (out : List Datapoint). out ++ points (take_while is_short left)) c.in_ok-bad.ensures.gained
          ∙ points-line line (take_while is_short left) c.loop-line.out.items
          ∙ ap (λ (lines : List Line). c.loop-line.out.items ++ points lines) (sym front)
          ∙ c.loop-line.invariant.gained;
      bad =
          let reported = c.from.ensures ∙ ap bool_byte c.in_ok-bad.ensures.bad ∙ bool_count (is_err (reading line)) in
          let more = ap bad_count front ∙ bad_count-line line (take_while is_short left) in
          omega (arith, reported, more, c.saturating_add-bad_lines.ensures, c.loop-line.invariant.bad, c.loop-line.invariant.count);
      count = c.saturating_add-bad_lines.type_inv;
      goes_on =
          sym (ap (λ (lines : List Line). list_all is_short lines) begins ∙ ap (λ (t : Bool). t && list_all is_short left) short)
          ∙ c.loop-line.invariant.goes_on;
      kept = rw c.in_ok-bad.ensures.gained (take-kept c.args.out.now.items c.loop-line.out.items (points (line ∷ [])) c.loop-line.invariant.kept);
    }
