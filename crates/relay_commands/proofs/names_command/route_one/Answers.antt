use Rattle.std.proofs.Common.{◌≡◌, ◌==◌, ℕ, false, List, length, subst, refl, sym, ◌∙◌}
use Rattle.std.specs.Io.KnownBytes.{Appends}
use Rattle.line_text.specs.Name.{is_name}
use Rattle.relay_files.specs.Output.{GrowsByPart}
use Rattle.relay_commands.specs.Names.{name_note, bad_name_line}
use Rattle.relay_commands.proofs.names_command.route_one.Goals as goal

-- the note of a line that is neither empty nor a name
noted : (number : ℕ) (name : List ℕ) → (length name == 0) ≡ false → is_name name ≡ false → bad_name_line number ≡ name_note number name
noted number name some bad = rw (some, bad) refl

pub returns-in_err-note_bad_name-in-None-clause-notes_part : goal.returns-in_err-note_bad_name-in-None-clause-notes_part
returns-in_err-note_bad_name-in-None-clause-notes_part g c =
    let note = noted c.args.line.number c.args.line.name.now (sym c.is_empty.ensures ∙ c.if-is_empty.false) (rw c.in-None.is at c.in_ok-answer.ensures.line) in
    subst (GrowsByPart (g.N.Write.contents c.args.notes.now) (g.N.Write.contents c.note_bad_name.new.notes)) note c.note_bad_name.ensures.part

pub returns-in_ok-note_bad_name-in-None-clause-notes : goal.returns-in_ok-note_bad_name-in-None-clause-notes
returns-in_ok-note_bad_name-in-None-clause-notes g c =
    let note = noted c.args.line.number c.args.line.name.now (sym c.is_empty.ensures ∙ c.if-is_empty.false) (rw c.in-None.is at c.in_ok-answer.ensures.line) in
    subst (Appends (g.N.Write.contents c.args.notes.now) (g.N.Write.contents c.note_bad_name.new.notes)) note c.in_ok-note_bad_name-in-None.ensures.notes

pub returns-in_ok-note_bad_name-in-None-clause-notes_part : goal.returns-in_ok-note_bad_name-in-None-clause-notes_part
returns-in_ok-note_bad_name-in-None-clause-notes_part g c =
    let note = noted c.args.line.number c.args.line.name.now (sym c.is_empty.ensures ∙ c.if-is_empty.false) (rw c.in-None.is at c.in_ok-answer.ensures.line) in
    subst (GrowsByPart (g.N.Write.contents c.args.notes.now) (g.N.Write.contents c.note_bad_name.new.notes)) note c.note_bad_name.ensures.part
