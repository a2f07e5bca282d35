use Rattle.std.proofs.Common.{◌++◌, ◌∷◌, [], List, ℕ, ap, sym, subst, ◌∙◌}
use Rattle.std.specs.String.{string_bytes}
use Rattle.relay_core.specs.World.{RunEvent}
use Rattle.relay_core.specs.WorldModel.{Applies}
use Rattle.relay_core.specs.declared.event.Answer.{Answer}
use Rattle.replay.specs.RunText.{not_now_line}
use Rattle.replay.specs.RunEvents.{EventsCome}
use Rattle.replay.proofs.RunEvents.{not_now-comes, event-comes}
use Rattle.replay.proofs.run_events.apply_one.Goals as goal

pub returns-in_ok-push_not_now-in-NotNow : goal.returns-in_ok-push_not_now-in-NotNow
returns-in_ok-push_not_now-in-NotNow c =
    let old = c.args.world.now in
    let new = c.apply_event.new.world in
    let e = c.args.event.now in
    let before = string_bytes c.args.text.now in
    let reported = c.in_ok-apply_event.ensures in
    let applies =
    subst (λ (x : Answer). Applies old e.event x new) c.in-NotNow.is
    (subst (λ (x : RunEvent). Applies old x c.in_ok-apply_event.field-0 new) c.event.ensures reported.applies) in
    let pushed = c.in_ok-push_not_now-in-NotNow.ensures ∙ ap (λ (n : ℕ). before ++ not_now_line n) c.line.ensures in
    record { come = subst (λ (l : List ℕ). EventsCome old new (e ∷ []) before l) (sym pushed) (not_now-comes old new e before reported.plan reported.places applies) }

pub returns-in_default : goal.returns-in_default
returns-in_default c =
    let old = c.args.world.now in
    let new = c.apply_event.new.world in
    let e = c.args.event.now in
    let reported = c.in_ok-apply_event.ensures in
    let answer = c.in_ok-apply_event.field-0 in
    let applies = subst (λ (x : RunEvent). Applies old x answer new) c.event.ensures reported.applies in
    record { come = event-comes old new e answer (string_bytes c.args.text.now) reported.plan reported.places c.requires c.in_default.not-NotNow applies }
