use Rattle.std.proofs.Common.{◌++◌, [], refl, sym, ◌∙◌, append_assoc}
use Rattle.std.proofs.lemmas.List.{append-nil}
use Rattle.relay_base.proofs.Growth.{Appends-then}
use Rattle.relay_files.proofs.BytesLemmas.{GrowsByPart-behind}
use Rattle.pass_lines.proofs.PassLemmas.{part-longer}
use Rattle.pass_lines.proofs.pass_command.write_three.Goals as goal

pub returns-in_err-write_all-clause-part : goal.returns-in_err-write_all-clause-part
returns-in_err-write_all-clause-part g c =
    part-longer _ _ c.args.first.now (c.args.second.now ++ c.args.third.now) (c.args.first.now ++ (c.args.second.now ++ c.args.third.now)) refl c.write_all.ensures.part

pub returns-in_err-write_all-2-clause-part : goal.returns-in_err-write_all-2-clause-part
returns-in_err-write_all-2-clause-part g c =
    GrowsByPart-behind _ _ _ c.args.first.now c.args.second.now c.args.third.now (c.args.first.now ++ (c.args.second.now ++ c.args.third.now)) c.in_ok-write_all.ensures.ok
    c.write_all-2.ensures.part (sym (append_assoc c.args.first.now c.args.second.now c.args.third.now))

pub returns-clause-part : goal.returns-clause-part
returns-clause-part g c =
    let first = c.args.first.now in
    let second = c.args.second.now in
    let third = c.args.third.now in
    GrowsByPart-behind _ _ _ (first ++ second) third [] (first ++ (second ++ third)) (Appends-then _ _ _ first second c.in_ok-write_all.ensures.ok c.in_ok-write_all-2.ensures.ok)
    c.write_all-3.ensures.part (sym (append_assoc first second third) ∙ sym (append-nil ((first ++ second) ++ third)))
