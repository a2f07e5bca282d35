use Rattle.std.proofs.Common.{◌≡◌, ◌+◌, ◌*◌, length, sym, ap, ◌∙◌, arith}
use Rattle.std.proofs.lemmas.List.{length-replicate}
use Rattle.std.specs.Prelude.{slice_index}
use Rattle.dest_queue.specs.Queue.{Queue}
use Rattle.locked_queues.specs.Shares.{keeper_of}
use Rattle.locked_queues.proofs.opening.make_lock.Goals as goal

pub next_total-taken-requires-clause-first : goal.next_total-taken-requires-clause-first
next_total-taken-requires-clause-first g c =
    let same : 8 + 3 * c.args.dest + 3 ≡ 8 + 3 * c.args.dest + 2 + 1 = omega arith in
    (c.requires.first.0, c.requires.first.1 ∙ ap keeper_of same)

pub next_total-dropped-requires-clause-first : goal.next_total-dropped-requires-clause-first
next_total-dropped-requires-clause-first g c =
    let same : 8 + 3 * c.args.dest + 2 ≡ 8 + 3 * c.args.dest + 1 + 1 = omega arith in
    (c.next_total-taken.ensures.first.0, c.next_total-taken.ensures.first.1 ∙ ap keeper_of same)

pub next_total-offered-requires-clause-first : goal.next_total-offered-requires-clause-first
next_total-offered-requires-clause-first g c = c.next_total-dropped.ensures.first

pub invariant_of-locked : goal.invariant_of-locked
invariant_of-locked g c =
    let queue = c.in_ok-queue.ensures in
    let offered = c.next_total-offered.ensures.total in
    let dropped = c.next_total-dropped.ensures.total in
    let taken = c.next_total-taken.ensures.total in
    record {
      few = c.requires.dest;
      sized = queue.size ∙ c.requires.size.0;
      readers = ap (λ (q : Queue). length q.next) queue.empty ∙ length-replicate c.args.readers 0 ∙ c.requires.own;
      places = (offered.0, dropped.0, taken.0);
      all_offered = ap (slice_index c.next_total-offered.result.seat.me.0.totals) offered.0 ∙ offered.1 ∙ sym (ap (λ (q : Queue). q.offered) queue.empty);
      all_dropped = ap (slice_index c.next_total-dropped.result.seat.me.0.totals) dropped.0 ∙ dropped.1 ∙ sym (ap (λ (q : Queue). q.dropped) queue.empty);
      all_taken = ap (slice_index c.next_total-taken.result.seat.me.0.totals) taken.0 ∙ taken.1 ∙ sym (ap (λ (q : Queue). q.taken) queue.empty);
    }
