use Rattle.std.proofs.Common.{◌++◌, [], refl, sym}
use Rattle.std.proofs.lemmas.List.{append-nil}
use Rattle.pass_lines.specs.Pass.{too_long_note, bad_lines_note}
use Rattle.relay_files.proofs.BytesLemmas.{GrowsByPart-behind}
use Rattle.pass_lines.proofs.PassLemmas.{part-longer}
use Rattle.pass_lines.proofs.pass_command.write_notes.Goals as goal

pub returns-in_err-write_too_long-clause-part : goal.returns-in_err-write_too_long-clause-part
returns-in_err-write_too_long-clause-part g c =
    let ended = c.args.ended in
    part-longer _ _ (too_long_note ended.too_long) (bad_lines_note ended.bad_lines) (too_long_note ended.too_long ++ bad_lines_note ended.bad_lines) refl c.write_too_long.ensures.part

pub returns-clause-part : goal.returns-clause-part
returns-clause-part g c =
    let ended = c.args.ended in
    GrowsByPart-behind _ _ _ (too_long_note ended.too_long) (bad_lines_note ended.bad_lines) [] (too_long_note ended.too_long ++ bad_lines_note ended.bad_lines)
    c.in_ok-write_too_long.ensures.ok c.write_bad_lines.ensures.part (sym (append-nil (too_long_note ended.too_long ++ bad_lines_note ended.bad_lines)))
