use Rattle.std.proofs.Common.{arith}
use Rattle.std.proofs.lemmas.List.{map-append}
use Rattle.std.proofs.lemmas.Grind.{common_steps}
use Rattle.dest_queue.proofs.Recording.{room-recorded, recorded-within, recorded-some}
use Rattle.dest_queue.proofs.Replaying.{replays_more}
use Rattle.dest_queue.proofs.queue.DestQueue.take.Goals as goal

pub invariant_of-self : goal.invariant_of-self
invariant_of-self c =
    record {
      room = grind (arith, common_steps);
      past = record {
        room = grind (arith, common_steps);
        leads = record {
          readers = grind (arith, common_steps);
          unsealed = grind (arith, common_steps);
          replays = grind (arith, common_steps);
        };
        balanced = grind (arith, common_steps);
        length = grind (arith, common_steps);
      };
      sealed_by_a_step = grind (arith, common_steps);
      readers = grind (arith, common_steps);
    }

pub invariant_of-self-2 : goal.invariant_of-self-2
invariant_of-self-2 c =
    let leads = c.make_room.ensures.leads in
    let made = c.make_room.new.self in
    let past = c.record.new.self in
    record {
      room = grind (arith, common_steps);
      past = record {
        room = room-recorded made past _ c.record.ensures.base c.record.ensures.history c.self.inside.size c.record.ensures.capacity c.make_room.ensures.room;
        leads = record {
          readers = grind (arith, common_steps);
          unsealed = grind (arith, common_steps);
          replays = rw (c.record.ensures.history, c.record.ensures.base, map-append) (replays_more _ _ _ _ _ _ leads.replays (grind (arith, common_steps)) (grind (arith, common_steps)));
        };
        balanced = grind (arith, common_steps);
        length = recorded-within made past _ c.record.ensures.base c.record.ensures.history c.make_room.ensures.length;
      };
      sealed_by_a_step = λ _. recorded-some made past _ c.record.ensures.base c.record.ensures.history;
      readers = c.self.invariant.readers;
    }

pub make_room-requires-clause-past : goal.make_room-requires-clause-past
make_room-requires-clause-past c = c.self.invariant.past
