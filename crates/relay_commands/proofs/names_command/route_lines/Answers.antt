use Rattle.std.proofs.Common.{◌≡◌, ℕ, ◌+◌, ◌++◌, ◌∷◌, [], List, Option, length, option_copied, Bor, ap, sym, ◌∙◌, arith}
use Rattle.std.proofs.lemmas.List.{length_push}
use Rattle.std.specs.Io.KnownBytes.{Appends}
use Rattle.relay_commands.specs.Names.{lines_in, lines_left, names_text, names_notes}
use Rattle.relay_files.proofs.BytesLemmas.{part-of_written}
use Rattle.relay_commands.proofs.NamesLemmas.{length_left, less_left, passed, text_written, notes_written, text_part, notes_part, all_lines}
use Rattle.relay_commands.proofs.names_command.route_lines.Given.{Over}
use Rattle.relay_commands.proofs.names_command.route_lines.Goals as goal

pub loop-left-preserved : goal.loop-left-preserved
loop-left-preserved g c =
    let before = c.loop-left.invariant.passed in
    let others = lines_left (option_copied c.cut_line.result.1) in
    let line = c.cut_line.result.0.now in
    let are = before.1 ∙ ap (λ (o : Option (Bor (List ℕ))). before.0 ++ lines_left (option_copied o)) c.in-Some.is ∙ ap (λ (ls : List (List ℕ)). before.0 ++ ls) c.cut_line.ensures.lines in
    let output = rw (c.strip_bytes.ensures, c.loop-left.invariant.same) at c.in_ok-route_one.ensures.output in
    let notes = rw c.strip_bytes.ensures at c.in_ok-route_one.ensures.notes in
    let left = ap (λ (o : Option (Bor (List ℕ))). length_left (option_copied o)) c.in-Some.is in
    record {
      same = c.route_one.ensures.same ∙ c.loop-left.invariant.same;
      within = omega (arith, c.loop-left.invariant.within, left, less_left (option_copied c.cut_line.result.1) (length c.in-Some.lines.now) c.cut_line.ensures.shorter);
      passed = (
        before.0 ++ line ∷ [],
        passed (lines_in c.args.text.now) before.0 others line are,
        ap (λ (n : ℕ). n + 1) before.2 ∙ sym (length_push before.0 line),
        text_written (lines_in c.args.text.now) before.0 others line are c.args.plan.now c.args.dests.now _ _ _ before.3 output,
        notes_written (lines_in c.args.text.now) before.0 others line are c.loop-left.number before.2 _ _ _ before.4 notes,
      );
    }

-- the lines after the one whose routing failed
abbrev others : (g : Over) → goal.After-from_residual g → List (List ℕ)
others g c = lines_left (option_copied c.cut_line.result.1)

-- the lines are those before it, that one and the others
lines_are : (g : Over) (c : goal.After-from_residual g) → lines_in c.args.text.now ≡ c.loop-left.invariant.passed.0 ++ c.cut_line.result.0.now ∷ others g c
lines_are g c =
    let before = c.loop-left.invariant.passed in
    before.1 ∙ ap (λ (o : Option (Bor (List ℕ))). before.0 ++ lines_left (option_copied o)) c.in-Some.is ∙ ap (λ (ls : List (List ℕ)). before.0 ++ ls) c.cut_line.ensures.lines

pub returns-in_err-route_one-clause-part : goal.returns-in_err-route_one-clause-part
returns-in_err-route_one-clause-part g c =
    let before = c.loop-left.invariant.passed in
    let part = rw (c.strip_bytes.ensures, c.loop-left.invariant.same) at c.route_one.ensures.part in
    text_part (lines_in c.args.text.now) before.0 (others g c) c.cut_line.result.0.now (lines_are g c) c.args.plan.now c.args.dests.now _ _ _ before.3 part

pub returns-in_err-route_one-clause-notes_part : goal.returns-in_err-route_one-clause-notes_part
returns-in_err-route_one-clause-notes_part g c =
    let before = c.loop-left.invariant.passed in
    let part = rw c.strip_bytes.ensures at c.route_one.ensures.notes_part in
    notes_part (lines_in c.args.text.now) before.0 (others g c) c.cut_line.result.0.now (lines_are g c) c.loop-left.number before.2 _ _ _ before.4 part

pub returns-clause-part : goal.returns-clause-part
returns-clause-part g c =
    let before = c.loop-left.invariant.passed in
    let are = before.1 ∙ ap (λ (o : Option (Bor (List ℕ))). before.0 ++ lines_left (option_copied o)) c.in_default.is in
    part-of_written _ _ _ (all_lines (λ (ls : List (List ℕ)). Appends (g.W.Write.contents c.args.output.now) (g.W.Write.contents c.loop-left.output) (names_text c.args.plan.now c.args.dests.now ls)) (lines_in c.args.text.now) before.0 are before.3)

pub returns-clause-notes_part : goal.returns-clause-notes_part
returns-clause-notes_part g c =
    let before = c.loop-left.invariant.passed in
    let are = before.1 ∙ ap (λ (o : Option (Bor (List ℕ))). before.0 ++ lines_left (option_copied o)) c.in_default.is in
    part-of_written _ _ _ (all_lines (λ (ls : List (List ℕ)). Appends (g.N.Write.contents c.args.notes.now) (g.N.Write.contents c.loop-left.notes) (names_notes 1 ls)) (lines_in c.args.text.now) before.0 are before.4)
