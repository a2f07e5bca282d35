use Rattle.std.proofs.lemmas.Result.{err_from_is_err_and}
use Rattle.std.proofs.Common.{refl}
use Rattle.relay_files.specs.Files.{Unreadable, Bytes}
use Rattle.relay_commands.specs.Replay.{AtScript, InReplay}
use Rattle.relay_commands.proofs.ReplayLemmas.{configuration_seen, ends_at_files, lines_unread, replay_lines_is}
use Rattle.relay_commands.proofs.replay_lines_command.text_of_lines.Goals as goal

pub returns-in_err-settings-clause-err : goal.returns-in_err-settings-clause-err
returns-in_err-settings-clause-err g c = ends_at_files _ _ _ _ _ _ _ c.from_residual.result c.from_residual.ensures.1 c.in_err-settings.ensures.err

pub returns-in-Err-clause-err : goal.returns-in-Err-clause-err
returns-in-Err-clause-err g c =
    let read = c.in_ok-settings.ensures.ok in
    (read.0, read.1, (Unreadable, tt, AtScript _ read.2 (lines_unread _ c.in-Err.ensures.err)))

pub returns-in_err-text-clause-err : goal.returns-in_err-text-clause-err
returns-in_err-text-clause-err g c =
    let p = err_from_is_err_and c.from_residual-in_err-text.result c.from_residual-in_err-text.ensures.1 in
    let read = c.in_ok-settings.ensures.ok in
    rw (p.1, p.2) (read.0, read.1, (Bytes c.in-Ok.bytes.items, c.in-Ok.ensures.ok, InReplay _ _ read.2 refl refl))

pub returns-clause-ok : goal.returns-clause-ok
returns-clause-ok g c =
    let read = c.in_ok-settings.ensures.ok in
    let configuration = configuration_seen c.in_ok-settings.field-0 in
    let answer = replay_lines_is c.args.form read.0 configuration c.in-Ok.bytes.items read.2 in
    (read.0, read.1, (Bytes c.in-Ok.bytes.items, c.in-Ok.ensures.ok, rw (c.in_ok-text.ensures, c.max_queue_size.ensures.size, c.max_datapoints_per_message.ensures.limit, c.destinations.ensures.list) answer))
