use Rattle.std.proofs.Common.{◌≡◌, ℕ, List, [], false, ap, sym, ◌∙◌, subst}
use Rattle.std.specs.Io.KnownBytes.{Appends}
use Rattle.line_text.specs.Reader.{is_too_long}
use Rattle.pass_lines.specs.Pass.{pass_text, notes_text, note_of_end}
use Rattle.pass_lines.specs.declared.relay.Relay.{Relay}
use Rattle.relay_files.proofs.BytesLemmas.{Keeps-self}
use Rattle.pass_lines.proofs.PassLemmas.{nothing_passed, at_end, at_close, note-at_end, note-at_close, part-so_far}
use Rattle.pass_lines.proofs.pass_command.pass_pieces.Goals as goal

pub loop-turn-init : goal.loop-turn-init
loop-turn-init g c = record {
  passed = ([], nothing_passed _ _ c.args.relay.now.reader c.args.moment c.requires.nothing_came);
  goes_on = c.requires.nothing_came.closed;
}

pub returns-in_err-end-clause-part : goal.returns-in_err-end-clause-part
returns-in_err-end-clause-part g c =
    let before = c.loop-turn.invariant.passed in
    c.in_err-end.ensures.part _ _ before.0 before.1

pub returns-in_default-clause-output : goal.returns-in_default-clause-output
returns-in_default-clause-output g c =
    let before = c.loop-turn.invariant.passed in
    let next = c.in_ok-end.ensures.passes _ _ before.0 before.1 in
    let ended = rw c.in_default.is at c.in_ok-end.ensures.at_end in
    at_end _ _ next.0 (λ (all : List ℕ). Appends (g.W.Write.contents c.args.output.now) (g.W.Write.contents c.pass_piece.new.output) (pass_text all c.args.moment)) next.1.read ended next.1.written

pub returns-in_default-clause-ended : goal.returns-in_default-clause-ended
returns-in_default-clause-ended g c =
    let before = c.loop-turn.invariant.passed in
    let next = c.in_ok-end.ensures.passes _ _ before.0 before.1 in
    let ended = rw c.in_default.is at c.in_ok-end.ensures.at_end in
    let same = rw c.in_default.is at c.in_ok-end.ensures.closed in
    let going : c.pass_piece.new.relay.reader.closed ≡ false = ap (λ (relay : Relay). relay.reader.closed) same ∙ c.loop-turn.invariant.goes_on in
    let bad = c.of.result.bad_lines in
    let note = note-at_end c.pass_piece.new.relay.reader c.args.moment next.0 bad next.1.represents going c.of.ensures.bad_lines in
    at_end _ _ next.0 (λ (all : List ℕ). note_of_end c.of.result.too_long bad ≡ notes_text all c.args.moment) next.1.read ended
    (rw c.of.ensures.too_long note)

pub returns-in_default-clause-part : goal.returns-in_default-clause-part
returns-in_default-clause-part g c =
    let before = c.loop-turn.invariant.passed in
    c.in_ok-end.ensures.part _ _ before.0 before.1

pub returns-in-LineTooLong-clause-output : goal.returns-in-LineTooLong-clause-output
returns-in-LineTooLong-clause-output g c =
    let before = c.loop-turn.invariant.passed in
    let next = c.in_ok-end.ensures.passes _ _ before.0 before.1 in
    let close = rw c.in-Some.is at next.2 in
    let contents = g.W.Write.contents in
    at_close _ _ next.0 c.args.moment (λ (all : List ℕ). Appends (contents c.args.output.now) (contents c.pass_piece.new.output) (pass_text all c.args.moment)) next.1.read
    (close (ap is_too_long c.in-LineTooLong.is)) (λ all same. subst (Appends (contents c.args.output.now) (contents c.pass_piece.new.output)) (sym same.lines) next.1.written)

pub returns-in-LineTooLong-clause-ended : goal.returns-in-LineTooLong-clause-ended
returns-in-LineTooLong-clause-ended g c =
    let before = c.loop-turn.invariant.passed in
    let next = c.in_ok-end.ensures.passes _ _ before.0 before.1 in
    let close = rw c.in-Some.is at next.2 in
    let is = c.of-in-LineTooLong.ensures in
    let bad = c.of-in-LineTooLong.result.bad_lines in
    at_close _ _ next.0 c.args.moment (λ (all : List ℕ). note_of_end c.of-in-LineTooLong.result.too_long bad ≡ notes_text all c.args.moment) next.1.read (close (ap is_too_long c.in-LineTooLong.is))
    (λ all same. rw is.too_long (note-at_close c.pass_piece.new.relay.reader c.args.moment next.0 all bad next.1.represents is.bad_lines same))

pub returns-in-LineTooLong-clause-part : goal.returns-in-LineTooLong-clause-part
returns-in-LineTooLong-clause-part g c =
    let before = c.loop-turn.invariant.passed in
    c.in_ok-end.ensures.part _ _ before.0 before.1

pub loop-turn-preserved : goal.loop-turn-preserved
loop-turn-preserved g c =
    let before = c.loop-turn.invariant.passed in
    let next = c.in_ok-end.ensures.passes _ _ before.0 before.1 in
    let answer = rw c.in-Some.is at c.in_ok-end.ensures.closed in
    record {
      passed = (next.0, next.1);
      goes_on = sym answer ∙ ap is_too_long c.in-Open.is;
    }

pub returns-clause-part : goal.returns-clause-part
returns-clause-part g c =
    let before = c.loop-turn.invariant.passed in
    part-so_far c.accepted_grows.ensures _ _ _ _ _ c.args.moment before.0 before.1 _ (Keeps-self _)
