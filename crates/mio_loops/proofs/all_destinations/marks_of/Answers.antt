use Rattle.std.proofs.Common.{◌||◌, ◌==◌, ◌∙◌, Bool, false, ap, sym, get_or}
use Rattle.std.proofs.lemmas.List.{get_or-replicate}
use Rattle.relay_base.specs.declared.dest_id.DestId.{DestId}
use Rattle.mio_loops.proofs.TurnsLemmas.{among-more}
use Rattle.mio_loops.proofs.all_destinations.marks_of.Goals as goal

pub loop-dest-init : goal.loop-dest-init
loop-dest-init c = λ dest low. get_or-replicate 64 dest false false low

pub loop-dest-preserved : goal.loop-dest-preserved
loop-dest-preserved c =
    let ready = c.args.ready.now in
    let place = c.loop-dest.dest-index in
    let first : DestId = record { 0 = 0 } in
    λ dest low. c.mark.ensures dest low
    ∙ ap (λ (b : Bool). b || ((get_or ready place first).0 == dest)) (c.loop-dest.invariant dest low)
    ∙ sym (among-more ready place first dest c.loop-dest-test.true)
