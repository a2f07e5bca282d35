use Rattle.std.proofs.Common.{◌≡◌, ◌*◌, ap, sym, subst, ◌∙◌, rules}
use Rattle.std.specs.Prelude.{IfErr}
use Rattle.std.specs.Arc.{arc_value}
use Rattle.queue_records.specs.Offers.{MayRefuse, after_offer, readers_each}
use Rattle.locked_queues.specs.DoorWithShares.{DoorWithShares, IsSoundDoor, SharesOfOffer}
use Rattle.locked_queues.proofs.Bearing.{either_way, sound_offer, refused_for}
use Rattle.locked_queues.proofs.locked_door.LockedDoorDoor.offer_with.Goals as goal

pub invariant_of-self : goal.invariant_of-self
invariant_of-self g c =
    let dest = c.deref_mut.result.now.dest in
    let old = c.self.inside in
    let sound = either_way (λ kept. c.offer-answer.new.book ≡ after_offer c.args.reader dest (arc_value c.args.point.now) kept old.book) (λ kept. SharesOfOffer dest kept old.shares.seat.me.0.shares c.offer-answer.new.shares.seat.me.0.shares) ((c.offer-answer.new.shares ≡ old.shares) × (c.offer-answer.new.book ≡ old.book)) (IsSoundDoor g.B.Set.dests c.offer-answer.new.book c.offer-answer.new.shares.seat.me.0.shares × (c.offer-answer.new.book.receiver ≡ old.book.receiver)) c.offer-answer.result c.offer-answer.ensures.made c.offer-answer.ensures.shares c.offer-answer.ensures.refused
    (λ kept is more. (sound_offer g.B.Set.dests c.args.reader dest (arc_value c.args.point.now) kept old.book c.offer-answer.new.book old.shares.seat.me.0.shares c.offer-answer.new.shares.seat.me.0.shares is more c.self.invariant.0, ap (λ m. m.receiver) is))
    (λ same. (rw (same.0, same.1) c.self.invariant.0, ap (λ m. m.receiver) same.1)) in
    (sound.0, c.self.invariant.1, c.self.invariant.2 ∙ sym sound.1)

pub returns : goal.returns
returns g c =
    let dest = c.deref_mut.result.now.dest in
    let old = c.self.inside in
    let sound = either_way (λ kept. c.offer-answer.new.book ≡ after_offer c.args.reader dest (arc_value c.args.point.now) kept old.book) (λ kept. SharesOfOffer dest kept old.shares.seat.me.0.shares c.offer-answer.new.shares.seat.me.0.shares) ((c.offer-answer.new.shares ≡ old.shares) × (c.offer-answer.new.book ≡ old.book)) (IsSoundDoor g.B.Set.dests c.offer-answer.new.book c.offer-answer.new.shares.seat.me.0.shares × (c.offer-answer.new.book.receiver ≡ old.book.receiver)) c.offer-answer.result c.offer-answer.ensures.made c.offer-answer.ensures.shares c.offer-answer.ensures.refused
    (λ kept is more. (sound_offer g.B.Set.dests c.args.reader dest (arc_value c.args.point.now) kept old.book c.offer-answer.new.book old.shares.seat.me.0.shares c.offer-answer.new.shares.seat.me.0.shares is more c.self.invariant.0, ap (λ m. m.receiver) is))
    (λ same. (rw (same.0, same.1) c.self.invariant.0, ap (λ m. m.receiver) same.1)) in
    let readers = readers_each * g.B.Set.receivers in
    record {
      made = search rules;
      shares = search rules;
      refused = search rules;
      refused_shares = search rules;
      bears = sound.0.bears;
      fault = subst (λ (d : DoorWithShares). IfErr c.offer-answer.result (λ fault. MayRefuse readers d.made c.args.reader fault)) c.self.view_is
          (refused_for readers c.self.inside.book c.args.reader c.offer-answer.result c.offer-answer.ensures.no_such_reader (λ is. (c.offer-answer.ensures.exhausted is).0));
      no_fault = search rules;
    }
