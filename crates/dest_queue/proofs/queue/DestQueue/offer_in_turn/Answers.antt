use Rattle.std.proofs.Common.{◌≡◌, ◌≤◌, ◌∙◌, ℕ, length, sym, ap, subst, arith}
use Rattle.std.proofs.lemmas.List.{map-append}
use Rattle.std.proofs.lemmas.Result.{IfOk-from_err}
use Rattle.std.proofs.lemmas.Grind.{common_steps}
use Rattle.std.specs.Arc.{arc_value}
use Rattle.dest_queue.specs.Queue.{queue_after_offer}
use Rattle.dest_queue.specs.SizedQueue.{SizedQueue}
use Rattle.dest_queue.specs.Balance.{IsBalanced}
use Rattle.dest_queue.specs.Stored.{queue_of, steps_until_now}
use Rattle.dest_queue.specs.Tally.{tallied_queue}
use Rattle.dest_queue.proofs.Balances.{balanced_offered}
use Rattle.dest_queue.proofs.Recording.{room-recorded, recorded-within, recorded-some}
use Rattle.dest_queue.proofs.Replaying.{replays_more}
use Rattle.dest_queue.proofs.queue.DestQueue.offer_in_turn.Goals as goal

pub make_room-requires-clause-past : goal.make_room-requires-clause-past
make_room-requires-clause-past c = c.self.invariant.past

pub returns-in_err-recorded-clause-made : goal.returns-in_err-recorded-clause-made
returns-in_err-recorded-clause-made c = IfOk-from_err _ _ c.from_residual.ensures.0

pub returns-in_err-share-clause-made : goal.returns-in_err-share-clause-made
returns-in_err-share-clause-made c = IfOk-from_err _ _ c.from_residual-in_err-share.ensures.0

-- the queue machine's step is made
stepped : (c : goal.After-record)
    → queue_after_offer c.self.inside.size c.args.reader (arc_value c.args.point.now) (queue_of (steps_until_now c.self.inside.past) c.self.inside.current)
    ≡ tallied_queue c.queue_or_drop-kept.new.self.points.items c.count_offer.new.self (steps_until_now c.record.new.self)
stepped c = grind (arith, common_steps)

pub invariant_of-self : goal.invariant_of-self
invariant_of-self c =
    let leads = c.make_room.ensures.leads in
    let made = c.make_room.new.self in
    let past = c.record.new.self in
    record {
      room = subst (λ (n : ℕ). c.self.inside.size ≤ n) (sym c.queue_or_drop-kept.ensures.room) c.self.invariant.room;
      past = record {
        room = room-recorded made past _ c.record.ensures.base c.record.ensures.history c.self.inside.size c.record.ensures.capacity c.make_room.ensures.room;
        leads = record {
          readers = grind (arith, common_steps);
          unsealed = λ none. let same : length c.count_offer.new.self.next.items ≡ length c.self.inside.current.tally.next.items = grind (arith, common_steps) in grind (arith, common_steps);
          replays = rw (c.record.ensures.history, c.record.ensures.base, map-append) (replays_more _ _ _ _ _ _ leads.replays (grind (arith, common_steps)) (grind (arith, common_steps)));
        };
        balanced = subst (IsBalanced c.self.inside.size) (stepped c) (balanced_offered c.self.inside.size c.args.reader (arc_value c.args.point.now) (queue_of (steps_until_now c.self.inside.past) c.self.inside.current) c.self.invariant.past.balanced);
        length = recorded-within made past _ c.record.ensures.base c.record.ensures.history c.make_room.ensures.length;
      };
      sealed_by_a_step = λ _. recorded-some made past _ c.record.ensures.base c.record.ensures.history;
      readers = grind (arith, common_steps);
    }

pub returns-clause-made : goal.returns-clause-made
returns-clause-made c =
    record {
      answer = grind (arith, common_steps);
      step = sym (stepped c) ∙ ap (λ (q : SizedQueue). queue_after_offer q.size c.args.reader (arc_value c.args.point.now) q.queue) c.self.view_is;
      size = grind (arith, common_steps);
      base = grind (arith, common_steps);
      history = grind (arith, common_steps);
    }
