use Rattle.std.proofs.Common.{◌++◌, ◌∷◌, [], List, is_err, ap, sym, ◌∙◌, arith}
use mir.Val.{bool_byte}
use Rattle.relay_base.proofs.Growth.{take-kept}
use Rattle.line_text.specs.Datapoint.{Datapoint}
use Rattle.line_text.specs.Line.{Line, points, bad_count, reading}
use Rattle.line_text.specs.Datagram.{lines, line_at}
use Rattle.line_text.proofs.LineLemmas.{points-line, bad_count-line, bool_count}
use Rattle.line_text.proofs.datagrams.read_lines.Goals as goal

pub loop-line-preserved : goal.loop-line-preserved
loop-line-preserved g c =
    let moment = c.args.moment in
    let line : Line = line_at moment c.in-Some.line.text.now in
    let behind = lines c.in-Some.line.rest.now moment in
    let begins = c.in-Some.ensures.line moment in
    record {
      gained =
          ap (λ (out : List Datapoint). out ++ points behind) c.in_ok-bad.ensures.gained
          ∙ points-line line behind c.loop-line.out.items
          ∙ ap (λ (all : List Line). c.loop-line.out.items ++ points all) (sym begins)
          ∙ c.loop-line.invariant.gained;
      bad =
          let reported = c.from.ensures ∙ ap bool_byte c.in_ok-bad.ensures.bad ∙ bool_count (is_err (reading line)) in
          let more = ap bad_count begins ∙ bad_count-line line behind in
          omega (arith, reported, more, c.saturating_add-bad_lines.ensures, c.loop-line.invariant.bad, c.loop-line.invariant.count);
      count = c.saturating_add-bad_lines.type_inv;
      kept = rw c.in_ok-bad.ensures.gained (take-kept c.args.out.now.items c.loop-line.out.items (points (line ∷ [])) c.loop-line.invariant.kept);
    }

pub returns : goal.returns
returns g c =
    let moment = c.args.moment in
    let line : Line = line_at moment c.loop-line.text.now in
    let ends = c.in_default.ensures.line moment in
    record {
      gained =
          c.in_ok-last.ensures.gained
          ∙ ap (λ (all : List Line). c.loop-line.out.items ++ points all) (sym ends)
          ∙ c.loop-line.invariant.gained;
      bad =
          let reported = c.from-2.ensures ∙ ap bool_byte c.in_ok-last.ensures.bad ∙ bool_count (is_err (reading line)) in
          let more = ap bad_count ends ∙ bad_count-line line [] in
          omega (arith, reported, more, c.saturating_add.ensures, c.loop-line.invariant.bad, c.loop-line.invariant.count);
      kept = tt;
    }
