use Rattle.std.proofs.Common.{◌≡◌, Bool, true, [], ◌∷◌, if◌then◌else◌, sym, subst, ◌∙◌}
use Rattle.std.specs.String.{string_bytes}
use Rattle.relay_core.specs.Event.{run_event}
use Rattle.run_record.specs.Making.{Continues, happens}
use Rattle.run_record.proofs.Making.{event-continues}
use Rattle.run_record.proofs.Recording.{happened-of}
use Rattle.run_record.proofs.applying.try_event.Goals as goal

pub returns-in_ok-write_event-clause-continues : goal.returns-in_ok-write_event-clause-continues
returns-in_ok-write_event-clause-continues c =
    let applied = c.in_ok-answer.ensures in
    let happened : happens c.in_ok-answer.answer ≡ true = sym c.has_happened.ensures ∙ c.if-has_happened.true in
    subst (λ (b : Bool). Continues c.args.world.now c.apply_to.new.world (string_bytes c.args.text.now) (string_bytes c.write_event.new.text)
    (if b then run_event c.args.event.now ∷ [] else [])) (sym happened)
    (event-continues c.args.world.now c.apply_to.new.world (run_event c.args.event.now) c.in_ok-answer.answer (string_bytes c.args.text.now) (string_bytes c.write_event.new.text)
    applied.plan applied.places (happened-of c.in_ok-answer.answer happened) (c.has_line.ensures c.if-not-has_line.false) c.in_ok-write_event.ensures applied.applies)
