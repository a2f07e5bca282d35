use Rattle.std.proofs.Common.{refl, inl}
use Rattle.std.proofs.lemmas.Result.{err_from_is_err_and}
use Rattle.relay_files.specs.Files.{Unreadable, Bytes}
use Rattle.relay_commands.specs.Names.{AtFiles, AtNames, InNames}
use Rattle.relay_files.proofs.BytesLemmas.{Keeps-self, Appends-kept, part-of_written}
use Rattle.relay_commands.proofs.AnswerLemmas.{names_unread, names_written, names_noted}
use Rattle.relay_commands.proofs.names_command.route_names.Goals as goal

pub returns-in_err-settings-clause-fault : goal.returns-in_err-settings-clause-fault
returns-in_err-settings-clause-fault g c =
    let p = err_from_is_err_and c.from_residual.result c.from_residual.ensures.1 in
    let read = c.in_err-settings.ensures.err in
    rw (p.1, p.2) (read.0, read.1, (Unreadable, tt, AtFiles read.2 refl (Keeps-self _) (Keeps-self _)))

pub returns-in-Err-clause-fault : goal.returns-in-Err-clause-fault
returns-in-Err-clause-fault g c =
    let read = c.in_ok-settings.ensures.ok in
    (read.0, read.1, (Unreadable, tt, AtNames _ read.2 (names_unread _ c.in-Err.ensures.err) (Keeps-self _) (Keeps-self _)))

pub returns-in_err-routed-clause-fault : goal.returns-in_err-routed-clause-fault
returns-in_err-routed-clause-fault g c =
    let p = err_from_is_err_and c.from_residual-in_err-routed.result c.from_residual-in_err-routed.ensures.1 in
    let read = c.in_ok-settings.ensures.ok in
    let lines = rw (c.destinations.ensures.list, c.deref.ensures.value) at c.route_lines-routed.ensures.part in
    let notes = rw c.deref.ensures.value at c.route_lines-routed.ensures.notes_part in
    rw (p.1, p.2) (read.0, read.1, (Bytes c.in-Ok.text.items, c.in-Ok.ensures.ok, InNames _ _ read.2 refl record { lines = lines; bad_names = notes; is_fault = c.in_err-routed.ensures.fault }))

pub returns-in_err-flush-clause-fault : goal.returns-in_err-flush-clause-fault
returns-in_err-flush-clause-fault g c =
    let p = err_from_is_err_and c.from_residual-in_err-flush.result c.from_residual-in_err-flush.ensures.1 in
    let read = c.in_ok-settings.ensures.ok in
    let lines = rw (c.destinations.ensures.list, c.deref.ensures.value) at c.in_ok-routed.ensures.output in
    let notes = rw c.deref.ensures.value at c.in_ok-routed.ensures.notes in
    rw (p.1, p.2) (read.0, read.1, (Bytes c.in-Ok.text.items, c.in-Ok.ensures.ok, InNames _ _ read.2 refl record { lines = part-of_written _ _ _ (Appends-kept _ _ _ _ lines c.flush.ensures); bad_names = part-of_written _ _ _ notes; is_fault = inl refl }))

pub returns-clause-output : goal.returns-clause-output
returns-clause-output g c =
    let read = c.in_ok-settings.ensures.ok in
    let lines = rw (c.destinations.ensures.list, c.deref.ensures.value) at c.in_ok-routed.ensures.output in
    (read.0, read.1, (Bytes c.in-Ok.text.items, c.in-Ok.ensures.ok, names_written _ _ c.in-Ok.text.items _ _ read.2 (Appends-kept _ _ _ _ lines c.flush.ensures)))

pub returns-clause-notes : goal.returns-clause-notes
returns-clause-notes g c =
    let read = c.in_ok-settings.ensures.ok in
    let notes = rw c.deref.ensures.value at c.in_ok-routed.ensures.notes in
    (read.0, read.1, (Bytes c.in-Ok.text.items, c.in-Ok.ensures.ok, names_noted _ _ c.in-Ok.text.items _ _ read.2 notes))
