use Rattle.std.proofs.Common.{sym, ◌∙◌}
use Rattle.pickle_subset.specs.Instruction.{instruction_view}
use Rattle.pickle_subset.specs.UsualRow.{row_actions}
use Rattle.pickle_subset.specs.Views.{machine}
use Rattle.pickle_subset.specs.Pickle.{rows_of}
use Rattle.pickle_subset.proofs.LoadLemmas.{instruction_at-shorter, goes_on, actions_at-less, all_go_on}
use Rattle.pickle_subset.proofs.loading.carry_out.Goals as goal

pub loop-rest-smaller-in-Some : goal.loop-rest-smaller-in-Some
loop-rest-smaller-in-Some g c =
    actions_at-less 7 c.loop-rest.rest.now c.in-Some.others.now (row_actions c.in-Some.row) c.in-Some.ensures

pub loop-rest-preserved-in-Some : goal.loop-rest-preserved-in-Some
loop-rest-preserved-in-Some g c =
    all_go_on 8 (machine c.loop-rest.machine) (machine c.take_row.new.self) c.loop-rest.rest.now c.in-Some.others.now (row_actions c.in-Some.row) (rows_of c.args.pickle.now) c.in-Some.ensures c.in_ok-take_row.ensures c.loop-rest.invariant

pub loop-rest-smaller : goal.loop-rest-smaller
loop-rest-smaller g c =
    let next = c.in_ok-next.next in
    instruction_at-shorter c.loop-rest.rest.now next.rest.now (instruction_view next.instruction) c.in_ok-next.ensures.next

pub loop-rest-preserved : goal.loop-rest-preserved
loop-rest-preserved g c =
    let next = c.in_ok-next.next in
    let goes = sym c.is_stop.ensures ∙ c.if-is_stop.false in
    goes_on (machine c.loop-rest.machine) (machine c.step.new.self) c.loop-rest.rest.now next.rest.now (instruction_view next.instruction) (rows_of c.args.pickle.now) c.in_ok-next.ensures.next goes c.in_ok-step.ensures c.loop-rest.invariant
