use Rattle.std.proofs.Common.{◌≡◌, ◌<◌, ◌∙◌, inl, inr, ℕ, Result, Err, length, sym, ap, subst, refl, arith}
use Rattle.std.proofs.lemmas.Result.{err_from_is_err_and, IfOk-from_err}
use Rattle.std.proofs.lemmas.Option.{MatchOption-at_some, MatchOption-at_none}
use Rattle.std.proofs.lemmas.List.{length_push, length-map}
use Rattle.std.specs.Result.{OnErr}
use Rattle.std.specs.Arc.{arc_value}
use Rattle.dest_queue.specs.declared.offer.Kept.{Kept}
use Rattle.dest_queue.specs.declared.offer.OfferFault.{OfferFault}
use Rattle.queue_records.specs.Offers.{OffersMade, IsReaderOf, most_entries}
use Rattle.queue_records.proofs.Entering.{place-within, next-read, readers-now, with-made, entered, left-out, sound-entered}
use Rattle.queue_records.proofs.door_book.DoorBook.offer_under.Goals as goal
use Rattle.queue_records.proofs.door_book.DoorBook.offer_under.Goals.{in-Some, in_default}

pub index-number-requires : goal.index-number-requires
index-number-requires c =
    let inside = c.self.inside in
    let within = place-within inside c.args.self.now c.args.reader c.args.dest.0 c.self.view_is c.self.invariant c.if-reader-first.false c.if-reader-first-2.false c.requires.dest in
    let count = inside.next.ok.0 in
    omega (arith, within, count)

-- ---- the datapoint could not be shared

pub returns-in_err-recorded-clause-answer : goal.returns-in_err-recorded-clause-answer
returns-in_err-recorded-clause-answer c = IfOk-from_err _ _ c.from_residual.ensures.0

pub returns-in_err-recorded-clause-step : goal.returns-in_err-recorded-clause-step
returns-in_err-recorded-clause-step c = IfOk-from_err _ _ c.from_residual.ensures.0

pub returns-in_err-recorded-clause-base : goal.returns-in_err-recorded-clause-base
returns-in_err-recorded-clause-base c = IfOk-from_err _ _ c.from_residual.ensures.0

pub returns-in_err-recorded-clause-history : goal.returns-in_err-recorded-clause-history
returns-in_err-recorded-clause-history c = IfOk-from_err _ _ c.from_residual.ensures.0

pub returns-in_err-recorded-clause-made : goal.returns-in_err-recorded-clause-made
returns-in_err-recorded-clause-made c = IfOk-from_err _ _ c.from_residual.ensures.0

pub returns-in_err-recorded-clause-number : goal.returns-in_err-recorded-clause-number
returns-in_err-recorded-clause-number c = IfOk-from_err _ _ c.from_residual.ensures.0

pub returns-in_err-recorded-clause-no_fault : goal.returns-in_err-recorded-clause-no_fault
returns-in_err-recorded-clause-no_fault c = IfOk-from_err _ _ c.from_residual.ensures.0

-- ---- the queue refuses the offer

pub returns-in_err-kept-clause-answer : goal.returns-in_err-kept-clause-answer
returns-in_err-kept-clause-answer c = IfOk-from_err _ _ c.from_residual-in_err-kept.ensures.0

pub returns-in_err-kept-clause-step : goal.returns-in_err-kept-clause-step
returns-in_err-kept-clause-step c = IfOk-from_err _ _ c.from_residual-in_err-kept.ensures.0

pub returns-in_err-kept-clause-base : goal.returns-in_err-kept-clause-base
returns-in_err-kept-clause-base c = IfOk-from_err _ _ c.from_residual-in_err-kept.ensures.0

pub returns-in_err-kept-clause-history : goal.returns-in_err-kept-clause-history
returns-in_err-kept-clause-history c = IfOk-from_err _ _ c.from_residual-in_err-kept.ensures.0

pub returns-in_err-kept-clause-made : goal.returns-in_err-kept-clause-made
returns-in_err-kept-clause-made c = IfOk-from_err _ _ c.from_residual-in_err-kept.ensures.0

pub returns-in_err-kept-clause-number : goal.returns-in_err-kept-clause-number
returns-in_err-kept-clause-number c = IfOk-from_err _ _ c.from_residual-in_err-kept.ensures.0

pub returns-in_err-kept-clause-no_fault : goal.returns-in_err-kept-clause-no_fault
returns-in_err-kept-clause-no_fault c = IfOk-from_err _ _ c.from_residual-in_err-kept.ensures.0

pub returns-in_err-kept-clause-no_such_reader : goal.returns-in_err-kept-clause-no_such_reader
returns-in_err-kept-clause-no_such_reader c =
    let p = err_from_is_err_and c.from_residual-in_err-kept.result c.from_residual-in_err-kept.ensures.1 in
    let is : c.from_residual-in_err-kept.result ≡ Err c.in_err-kept.field-0.0 = p.1 ∙ ap Err p.2 in
    λ e. inr (c.in_err-kept.ensures.no_such_reader.0 (sym is ∙ e))

pub returns-in_err-kept-clause-out_of_turn : goal.returns-in_err-kept-clause-out_of_turn
returns-in_err-kept-clause-out_of_turn c =
    let p = err_from_is_err_and c.from_residual-in_err-kept.result c.from_residual-in_err-kept.ensures.1 in
    let is : c.from_residual-in_err-kept.result ≡ Err c.in_err-kept.field-0.0 = p.1 ∙ ap Err p.2 in
    let readers = readers-now c.self.inside c.args.self.now c.args.reader c.self.view_is c.if-reader-first.false c.if-reader-first-2.false in
    let within = place-within c.self.inside c.args.self.now c.args.reader c.args.dest.0 c.self.view_is c.self.invariant c.if-reader-first.false c.if-reader-first-2.false c.requires.dest in
    let number = next-read c.self.inside c.args.self.now c.args.reader c.args.dest.0 c.index-number.result.now c.self.view_is within c.index-number.ensures in
    λ expected e. (let faults = (c.in_err-kept.ensures.out_of_turn expected).0 (sym is ∙ e) in (readers, (faults.0, faults.1, λ same. faults.2 (number ∙ same))))

pub returns-in_err-kept-clause-exhausted : goal.returns-in_err-kept-clause-exhausted
returns-in_err-kept-clause-exhausted c =
    let p = err_from_is_err_and c.from_residual-in_err-kept.result c.from_residual-in_err-kept.ensures.1 in
    let is : c.from_residual-in_err-kept.result ≡ Err c.in_err-kept.field-0.0 = p.1 ∙ ap Err p.2 in
    let readers = readers-now c.self.inside c.args.self.now c.args.reader c.self.view_is c.if-reader-first.false c.if-reader-first-2.false in
    let within = place-within c.self.inside c.args.self.now c.args.reader c.args.dest.0 c.self.view_is c.self.invariant c.if-reader-first.false c.if-reader-first-2.false c.requires.dest in
    let number = next-read c.self.inside c.args.self.now c.args.reader c.args.dest.0 c.index-number.result.now c.self.view_is within c.index-number.ensures in
    λ e. (let faults = c.in_err-kept.ensures.exhausted.0 (sym is ∙ e) in (readers, (faults.0.0, sym number ∙ faults.0.1), inl faults.1))

pub returns-in_err-kept-clause-unchanged : goal.returns-in_err-kept-clause-unchanged
returns-in_err-kept-clause-unchanged c =
    let p = err_from_is_err_and c.from_residual-in_err-kept.result c.from_residual-in_err-kept.ensures.1 in
    let is : c.from_residual-in_err-kept.result ≡ Err c.in_err-kept.field-0.0 = p.1 ∙ ap Err p.2 in
    subst (λ (r : Result Kept OfferFault). OnErr r (c.args.self.now ≡ c.args.self.now × c.offer.new.self ≡ c.args.queue.now)) (sym is) (refl, c.in_err-kept.ensures.unchanged)

-- ---- the offer is made

pub push_reserved-requires : goal.push_reserved-requires
push_reserved-requires c =
    let share = MatchOption-at_some _ _ c.in-Some.point c.in-Some.is c.in_ok-recorded.ensures.share in
    let few : length c.self.inside.made.items < most_entries = subst (λ (n : ℕ). n < most_entries) (length-map c.self.inside.made.items _) (subst (λ (m : OffersMade). length m.entries < most_entries) (sym c.self.view_is) share.1) in
    let room = c.self.invariant.room in
    let len = c.self.inside.made.ok.0 in
    omega (arith, few, room, len)

pub invariant_of-self : goal.invariant_of-self
invariant_of-self c =
    let share = MatchOption-at_some _ _ c.in-Some.point c.in-Some.is c.in_ok-recorded.ensures.share in
    let few : length c.self.inside.made.items < most_entries = subst (λ (n : ℕ). n < most_entries) (length-map c.self.inside.made.items _) (subst (λ (m : OffersMade). length m.entries < most_entries) (sym c.self.view_is) share.1) in
    let more = ap length c.push_reserved.ensures.items ∙ length_push c.self.inside.made.items _ in
    sound-entered c.self.inside c.push_reserved.new.self c.push_reserved.ensures.capacity (omega (arith, few, more)) c.self.invariant

pub count-requires-clause-reader : goal.count-requires-clause-reader
count-requires-clause-reader c =
    let readers : IsReaderOf c.self.inside.receiver c.args.reader = record { above = c.if-reader-first.false; below = c.if-reader-first-2.false } in
    elim c.match-recorded-2.branch [
      | in-Some w ↦ subst (λ (m : OffersMade). IsReaderOf m.receiver c.args.reader) (sym w.self-is) readers
      | in_default w ↦ subst (λ (m : OffersMade). IsReaderOf m.receiver c.args.reader) (sym (w.self-is ∙ sym c.self.view_is)) readers
    ]

pub returns-clause-made : goal.returns-clause-made
returns-clause-made c =
    let inside = c.self.inside in
    let now = c.args.self.now in
    let reader = c.args.reader in
    let dest = c.args.dest.0 in
    let within = place-within c.self.inside c.args.self.now c.args.reader c.args.dest.0 c.self.view_is c.self.invariant c.if-reader-first.false c.if-reader-first-2.false c.requires.dest in
    let number = next-read c.self.inside c.args.self.now c.args.reader c.args.dest.0 c.index-number.result.now c.self.view_is within c.index-number.ensures in
    c.count.ensures ∙ elim c.match-recorded-2.branch [
      | in-Some w ↦ (
          let share = MatchOption-at_some _ _ w.in-Some.point w.in-Some.is c.in_ok-recorded.ensures.share in
          entered reader dest c.index-number.result.now (arc_value w.in-Some.point) (arc_value c.args.point.now) c.in_ok-kept.kept now c.match-recorded-2.self number share.0 share.1
          (with-made inside w.push_reserved.new.self _ now c.match-recorded-2.self c.self.view_is w.self-is w.push_reserved.ensures.items)
          )
      | in_default w ↦ left-out reader dest (arc_value c.args.point.now) c.in_ok-kept.kept now c.match-recorded-2.self (MatchOption-at_none _ _ w.in_default.is c.in_ok-recorded.ensures.share) w.self-is
    ]

pub returns-clause-number : goal.returns-clause-number
returns-clause-number c =
    let within = place-within c.self.inside c.args.self.now c.args.reader c.args.dest.0 c.self.view_is c.self.invariant c.if-reader-first.false c.if-reader-first-2.false c.requires.dest in
    let number = next-read c.self.inside c.args.self.now c.args.reader c.args.dest.0 c.index-number.result.now c.self.view_is within c.index-number.ensures in
    sym number ∙ c.in_ok-kept.ensures.no_fault.0.1
