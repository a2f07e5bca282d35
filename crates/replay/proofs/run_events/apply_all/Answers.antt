use Rattle.std.proofs.Common.{◌≡◌, ◌++◌, ◌∷◌, [], ◌+◌, List, ℕ, suc, take, ap, sym, subst, ◌∙◌, arith}
use Rattle.std.proofs.Math.Seq.{take-suc}
use Rattle.std.specs.String.{string_bytes}
use Rattle.replay.specs.ScriptEvent.{NumberedEvent}
use Rattle.replay.specs.RunEvents.{EventsCome}
use Rattle.replay.proofs.RunEvents.{more-come}
use Rattle.replay.proofs.run_events.apply_all.Goals as goal

pub loop-event-preserved : goal.loop-event-preserved
loop-event-preserved c =
    let events = c.args.events.now in
    let place = c.loop-event.event-index in
    let item = c.event-item.result in
    let next : place + 1 ≡ suc place = omega arith in
    let more : take (place + 1) events ≡ take place events ++ item ∷ [] =
    ap (λ (n : ℕ). take n events) next ∙ take-suc events place item c.loop-event-test.true ∙ ap (λ (e : NumberedEvent). take place events ++ e ∷ []) (sym c.event-item.is) in
    subst (λ (l : List NumberedEvent). EventsCome c.args.world.now c.apply_one.new.world l (string_bytes c.args.text.now) (string_bytes c.apply_one.new.text)) (sym more)
    (more-come c.args.world.now c.loop-event.world c.apply_one.new.world (take place events) (item ∷ [])
    (string_bytes c.args.text.now) (string_bytes c.loop-event.text) (string_bytes c.apply_one.new.text) c.loop-event.invariant c.in_ok-apply_one.ensures.come)
