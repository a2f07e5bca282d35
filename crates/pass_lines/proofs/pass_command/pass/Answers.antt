use Rattle.relay_files.proofs.BytesLemmas.{Keeps-self}
use Rattle.pass_lines.specs.Pass.{pass_text, notes_text}
use Rattle.pass_lines.proofs.EndLemmas.{part-of_nothing, part-flushed, all-flushed, part-of_note, all-of_note}
use Rattle.pass_lines.proofs.pass_command.pass.Goals as goal

pub returns-in_err-piece-clause-part : goal.returns-in_err-piece-clause-part
returns-in_err-piece-clause-part g c = part-of_nothing _ _ _ (λ bytes. pass_text bytes c.args.moment) (Keeps-self _)

pub returns-in_err-piece-clause-notes_part : goal.returns-in_err-piece-clause-notes_part
returns-in_err-piece-clause-notes_part g c = part-of_nothing _ _ _ (λ bytes. notes_text bytes c.args.moment) (Keeps-self _)

pub returns-in_err-relay-clause-part : goal.returns-in_err-relay-clause-part
returns-in_err-relay-clause-part g c = part-of_nothing _ _ _ (λ bytes. pass_text bytes c.args.moment) (Keeps-self _)

pub returns-in_err-relay-clause-notes_part : goal.returns-in_err-relay-clause-notes_part
returns-in_err-relay-clause-notes_part g c = part-of_nothing _ _ _ (λ bytes. notes_text bytes c.args.moment) (Keeps-self _)

pub returns-in_err-ended-clause-part : goal.returns-in_err-ended-clause-part
returns-in_err-ended-clause-part g c = c.pass_pieces-ended.ensures.part

pub returns-in_err-ended-clause-notes_part : goal.returns-in_err-ended-clause-notes_part
returns-in_err-ended-clause-notes_part g c = part-of_nothing _ _ _ (λ bytes. notes_text bytes c.args.moment) (Keeps-self _)

pub returns-in_err-flush-clause-part : goal.returns-in_err-flush-clause-part
returns-in_err-flush-clause-part g c = part-flushed _ _ _ _ (λ bytes. pass_text bytes c.args.moment) c.pass_pieces-ended.ensures.part c.flush.ensures

pub returns-in_err-flush-clause-notes_part : goal.returns-in_err-flush-clause-notes_part
returns-in_err-flush-clause-notes_part g c = part-of_nothing _ _ _ (λ bytes. notes_text bytes c.args.moment) (Keeps-self _)

pub returns-in_err-write_notes-clause-part : goal.returns-in_err-write_notes-clause-part
returns-in_err-write_notes-clause-part g c = part-flushed _ _ _ _ (λ bytes. pass_text bytes c.args.moment) c.pass_pieces-ended.ensures.part c.flush.ensures

pub returns-in_err-write_notes-clause-notes_part : goal.returns-in_err-write_notes-clause-notes_part
returns-in_err-write_notes-clause-notes_part g c =
    part-of_note _ _ _ _ (λ bytes. notes_text bytes c.args.moment) c.in_ok-ended.ensures.ended c.write_notes.ensures.part

pub returns-clause-output : goal.returns-clause-output
returns-clause-output g c = all-flushed _ _ _ _ (λ bytes. pass_text bytes c.args.moment) c.in_ok-ended.ensures.output c.flush.ensures

pub returns-clause-notes : goal.returns-clause-notes
returns-clause-notes g c = all-of_note _ _ _ _ (λ bytes. notes_text bytes c.args.moment) c.in_ok-ended.ensures.ended c.in_ok-write_notes.ensures.ok

pub returns-clause-part : goal.returns-clause-part
returns-clause-part g c = part-flushed _ _ _ _ (λ bytes. pass_text bytes c.args.moment) c.pass_pieces-ended.ensures.part c.flush.ensures

pub returns-clause-notes_part : goal.returns-clause-notes_part
returns-clause-notes_part g c =
    part-of_note _ _ _ _ (λ bytes. notes_text bytes c.args.moment) c.in_ok-ended.ensures.ended c.write_notes.ensures.part
