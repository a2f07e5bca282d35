use Rattle.std.proofs.Common.{◌≡◌, ◌<◌, ◌∙◌, ◌+◌, ◌++◌, ◌∷◌, ℕ, length, take, drop, sym, ap, arith}
use Rattle.std.specs.Option.{option_to_list}
use Rattle.std.specs.VecDeque.{deque_len}
use Rattle.dest_queue.proofs.Moves.{next-moved, next-left, take-limit, count-limit, drop-limit}
use Rattle.dest_queue.proofs.hand.move_front.Goals as goal

pub unwrap-point-requires : goal.unwrap-point-requires
unwrap-point-requires c =
    let test = c.loop-test.true in
    let count = c.min-count.ensures in
    let len = c.len.ensures in
    let left = c.loop.invariant.left_len in
    c.pop_front.ensures.variant.1 (omega (arith, test, count, len, left))

pub push_reserved-requires : goal.push_reserved-requires
push_reserved-requires c =
    let so_far = c.loop.invariant.moved_len in
    let room = c.loop.invariant.room in
    let test = c.loop-test.true in
    let count = c.min-count.ensures in
    let fits = c.requires in
    omega (arith, so_far, room, test, count, fits)

pub loop-preserved : goal.loop-preserved
loop-preserved c =
    let from = c.args.from.now in
    let i = c.loop.counter in
    let so_far = c.loop.invariant in
    let test = c.loop-test.true in
    let count = c.min-count.ensures in
    let len = c.len.ensures in
    let ok = from.ok.0 in
    let within : i < length from.items = omega (arith, test, count, len, ok) in
    let popped = c.pop_front.ensures.items ∙ ap (λ o. option_to_list o ++ c.pop_front.new.self.items) c.unwrap-point.ensures in
    let front : c.unwrap-point.result ∷ c.pop_front.new.self.items ≡ drop i from.items = sym popped ∙ so_far.left in
    let shorter : deque_len c.pop_front.new.self + 1 ≡ deque_len c.loop.from = ap (λ o. deque_len c.pop_front.new.self + length (option_to_list o)) (sym c.unwrap-point.ensures) ∙ c.pop_front.ensures.len in
    let left = so_far.left_len in
    let longer = c.push_reserved.ensures.len in
    let moved = so_far.moved_len in
    record {
      moved = next-moved from.items c.args.to.now.items i c.unwrap-point.result c.pop_front.new.self.items c.loop.to.items c.push_reserved.new.self.items within front so_far.moved c.push_reserved.ensures.items;
      left = next-left from.items c.args.to.now.items i c.unwrap-point.result c.pop_front.new.self.items within front;
      moved_len = omega (arith, longer, moved);
      left_len = omega (arith, shorter, left, test, count, len);
      capacity = c.pop_front.ensures.capacity ∙ so_far.capacity;
      room = c.push_reserved.ensures.capacity ∙ so_far.room;
    }

pub returns-clause-moved : goal.returns-clause-moved
returns-clause-moved c =
    let from = c.args.from.now in
    let past = c.loop-test.false in
    let within = c.loop.auto.counter-end in
    let all : c.loop.counter ≡ c.min-count.result = omega (arith, past, within) in
    c.loop.invariant.moved ∙ ap (λ ps. c.args.to.now.items ++ ps) (ap (λ (n : ℕ). take n from.items) all ∙ take-limit from.items c.args.limit c.min-count.result c.len.result (c.len.ensures ∙ from.ok.0) c.min-count.ensures)

pub returns-clause-left : goal.returns-clause-left
returns-clause-left c =
    let from = c.args.from.now in
    let past = c.loop-test.false in
    let within = c.loop.auto.counter-end in
    let all : c.loop.counter ≡ c.min-count.result = omega (arith, past, within) in
    c.loop.invariant.left ∙ ap (λ (n : ℕ). drop n from.items) all ∙ drop-limit from.items c.args.limit c.min-count.result c.len.result (c.len.ensures ∙ from.ok.0) c.min-count.ensures

pub returns-clause-count : goal.returns-clause-count
returns-clause-count c = let from = c.args.from.now in count-limit from.items c.args.limit c.min-count.result c.len.result (c.len.ensures ∙ from.ok.0) c.min-count.ensures
