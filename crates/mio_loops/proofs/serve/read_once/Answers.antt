use Rattle.std.proofs.Common.{◌≤◌, ◌<◌, ◌∙◌, inl, inr, [], length, take, refl, sym, ap, arith}
use Rattle.std.proofs.lemmas.Bool.{false≢true}
use Rattle.dest_writer.specs.Calls.{CountedCalls}
use Rattle.dest_writer.specs.Counting.{outcome_of_kind, counts_of, counts_after}
use Rattle.std.specs.declared.io.ErrorKind.{ErrorKind}
use Rattle.mio_loops.specs.Serving.{fits_last}
use Rattle.mio_loops.specs.declared.served.Served.TheVariants.{Ended}
use Rattle.mio_loops.proofs.ReadingLemmas.{went-none}
use Rattle.queue_records.specs.Offers.{IsRefusedBy}
use Rattle.mio_loops.proofs.ServingLemmas.{read-kept, read-none, again-ended, none-waits}
use Rattle.mio_loops.proofs.ReadOnceLemmas.{room-kept, ended-failed, ended-refused, fed-read, fed-reads, fed-fits, fed-not-again, fed-not-failed, after-fits, after-not-again, after-not-ended, after-not-refused, after-kept, after-rose}
use Rattle.mio_loops.proofs.serve.read_once.Goals as goal

-- ---- the stream is at its end

pub returns-in-Ok-eq0-clause-went : goal.returns-in-Ok-eq0-clause-went
returns-in-Ok-eq0-clause-went g c = (
  [],
  [],
  went-none c.args.plan.now c.args.turn.number c.args.reader.now (g.D.Door.record_of c.args.door.now) c.args.room.now.log,
  read-none _ _ _ _ (ap (λ n. take n c.read.new.buf) c.in-Ok-eq0.field-0-test) c.in-Ok-eq0.ensures.bytes.0,
  refl,
)

pub returns-in-Ok-eq0-clause-stays : goal.returns-in-Ok-eq0-clause-stays
returns-in-Ok-eq0-clause-stays g c = λ e. absurd (false≢true e)

pub returns-in-Ok-eq0-clause-ended : goal.returns-in-Ok-eq0-clause-ended
returns-in-Ok-eq0-clause-ended g c =
    let room = c.read.auto.buf ∙ ap length c.as_mut_slice-buffer.ensures.value ∙ c.requires.room in
    let some : 0 < length c.read.new.buf = omega (arith, room) in
    λ _. inl (c.in-Ok-eq0.ensures.bytes.1 c.in-Ok-eq0.field-0-test some)

pub returns-in-Ok-eq0-clause-offered : goal.returns-in-Ok-eq0-clause-offered
returns-in-Ok-eq0-clause-offered g c = λ _. c.requires.nothing_waits

pub returns-in-Ok-eq0-clause-refused : goal.returns-in-Ok-eq0-clause-refused
returns-in-Ok-eq0-clause-refused g c = λ e. absurd (ended-refused e)

pub returns-in-Ok-eq0-clause-calls : goal.returns-in-Ok-eq0-clause-calls
returns-in-Ok-eq0-clause-calls g c = ap (λ (n : CountedCalls). n.calls) c.in-Ok-eq0.ensures.counts

pub returns-in-Ok-eq0-clause-not_again : goal.returns-in-Ok-eq0-clause-not_again
returns-in-Ok-eq0-clause-not_again g c = λ e. absurd (again-ended (sym e))

pub returns-in-Ok-eq0-clause-outcome : goal.returns-in-Ok-eq0-clause-outcome
returns-in-Ok-eq0-clause-outcome g c = ap (λ (n : CountedCalls). fits_last Ended n.last) c.in-Ok-eq0.ensures.counts

pub returns-in-Ok-eq0-clause-not_failed : goal.returns-in-Ok-eq0-clause-not_failed
returns-in-Ok-eq0-clause-not_failed g c = λ _. ap (λ (n : CountedCalls). n.failures) c.in-Ok-eq0.ensures.counts

pub returns-in-Ok-eq0-clause-failed : goal.returns-in-Ok-eq0-clause-failed
returns-in-Ok-eq0-clause-failed g c = λ e. absurd (ended-failed e)

pub returns-in-Ok-eq0-clause-room : goal.returns-in-Ok-eq0-clause-room
returns-in-Ok-eq0-clause-room g c =
    room-kept c.args.room.now.buffer.len c.args.room.now.buffer.items c.read.new.buf c.args.room.now.buffer.ok.0 c.requires.room (c.read.auto.buf ∙ ap length c.as_mut_slice-buffer.ensures.value)

pub returns-in-Ok-eq0-clause-dests : goal.returns-in-Ok-eq0-clause-dests
returns-in-Ok-eq0-clause-dests g c = c.requires.dests

-- ---- a piece was read

pub split_at-requires : goal.split_at-requires
split_at-requires g c = c.in-Ok.ensures.bound.0

pub feed_piece-requires-clause-nothing_waits : goal.feed_piece-requires-clause-nothing_waits
feed_piece-requires-clause-nothing_waits g c = c.requires.nothing_waits

pub feed_piece-requires-clause-open : goal.feed_piece-requires-clause-open
feed_piece-requires-clause-open g c = c.requires.open

pub feed_piece-requires-clause-dests : goal.feed_piece-requires-clause-dests
feed_piece-requires-clause-dests g c = c.requires.dests

pub returns-in-Ok-clause-went : goal.returns-in-Ok-clause-went
returns-in-Ok-clause-went g c =
    let w = c.feed_piece.ensures.went in
    let piece = c.split_at.result.0.now in
    let count = c.split_at.ensures.front_len in
    let bound = c.in-Ok.ensures.bound.0 in
    let room = c.read.auto.buf ∙ ap length c.as_mut_slice-buffer.ensures.value ∙ c.requires.room in
    let short : length piece ≤ 4096 = omega (arith, count, bound, room) in (
      w.0,
      w.1,
      w.2,
      fed-read c.feed_piece.result _ _ piece (take c.in-Ok.count c.read.new.buf) c.args.turn.moment w.0 c.split_at.ensures.front w.3 short c.in-Ok.ensures.bytes.0,
      fed-reads c.feed_piece.result piece c.args.turn.moment w.0 w.3 short,
    )

pub returns-in-Ok-clause-stays : goal.returns-in-Ok-clause-stays
returns-in-Ok-clause-stays g c = c.feed_piece.ensures.stays

pub returns-in-Ok-clause-ended : goal.returns-in-Ok-clause-ended
returns-in-Ok-clause-ended g c = λ e. inr (c.feed_piece.ensures.ended e)

pub returns-in-Ok-clause-offered : goal.returns-in-Ok-clause-offered
returns-in-Ok-clause-offered g c = c.feed_piece.ensures.offered

pub returns-in-Ok-clause-refused : goal.returns-in-Ok-clause-refused
returns-in-Ok-clause-refused g c = c.feed_piece.ensures.refused

pub returns-in-Ok-clause-calls : goal.returns-in-Ok-clause-calls
returns-in-Ok-clause-calls g c = ap (λ (n : CountedCalls). n.calls) c.in-Ok.ensures.counts

pub returns-in-Ok-clause-not_again : goal.returns-in-Ok-clause-not_again
returns-in-Ok-clause-not_again g c =
    let w = c.feed_piece.ensures.went in
    fed-not-again c.feed_piece.result c.split_at.result.0.now c.args.turn.moment w.0 w.3

pub returns-in-Ok-clause-outcome : goal.returns-in-Ok-clause-outcome
returns-in-Ok-clause-outcome g c =
    let w = c.feed_piece.ensures.went in
    fed-fits c.feed_piece.result c.split_at.result.0.now c.args.turn.moment w.0 _ w.3 (ap (λ (n : CountedCalls). n.last) c.in-Ok.ensures.counts)

pub returns-in-Ok-clause-not_failed : goal.returns-in-Ok-clause-not_failed
returns-in-Ok-clause-not_failed g c = λ _. ap (λ (n : CountedCalls). n.failures) c.in-Ok.ensures.counts

pub returns-in-Ok-clause-failed : goal.returns-in-Ok-clause-failed
returns-in-Ok-clause-failed g c =
    let w = c.feed_piece.ensures.went in
    λ e. absurd (fed-not-failed c.feed_piece.result c.split_at.result.0.now c.args.turn.moment w.0 w.3 e)

pub returns-in-Ok-clause-room : goal.returns-in-Ok-clause-room
returns-in-Ok-clause-room g c =
    room-kept c.args.room.now.buffer.len c.args.room.now.buffer.items c.read.new.buf c.args.room.now.buffer.ok.0 c.requires.room (c.read.auto.buf ∙ ap length c.as_mut_slice-buffer.ensures.value)

pub returns-in-Ok-clause-dests : goal.returns-in-Ok-clause-dests
returns-in-Ok-clause-dests g c = c.feed_piece.ensures.dests

pub returns-in-Ok-clause-plan : goal.returns-in-Ok-clause-plan
returns-in-Ok-clause-plan g c = c.feed_piece.ensures.plan

-- ---- the read failed, or would have had to wait

pub returns-in-Err-clause-went : goal.returns-in-Err-clause-went
returns-in-Err-clause-went g c = (
  [],
  [],
  went-none c.args.plan.now c.args.turn.number c.args.reader.now (g.D.Door.record_of c.args.door.now) c.args.room.now.log,
  read-kept _ _ _ c.in-Err.ensures.bytes,
  refl,
)

pub returns-in-Err-clause-stays : goal.returns-in-Err-clause-stays
returns-in-Err-clause-stays g c = λ _. c.requires.open

pub returns-in-Err-clause-ended : goal.returns-in-Err-clause-ended
returns-in-Err-clause-ended g c =
    λ e. absurd (after-not-ended c.served_after.result (outcome_of_kind c.kind.result) c.served_after.ensures e)

pub returns-in-Err-clause-offered : goal.returns-in-Err-clause-offered
returns-in-Err-clause-offered g c = λ _. c.requires.nothing_waits

pub returns-in-Err-clause-refused : goal.returns-in-Err-clause-refused
returns-in-Err-clause-refused g c =
    λ e. absurd (after-not-refused c.served_after.result (outcome_of_kind c.kind.result) c.served_after.ensures e)

pub returns-in-Err-clause-calls : goal.returns-in-Err-clause-calls
returns-in-Err-clause-calls g c = ap (λ (n : CountedCalls). n.calls) c.in-Err.ensures.counts

pub returns-in-Err-clause-not_again : goal.returns-in-Err-clause-not_again
returns-in-Err-clause-not_again g c = after-not-again c.served_after.result (outcome_of_kind c.kind.result) c.served_after.ensures

pub returns-in-Err-clause-outcome : goal.returns-in-Err-clause-outcome
returns-in-Err-clause-outcome g c =
    let counts = c.in-Err.ensures.counts ∙ ap (λ (k : ErrorKind). counts_after (outcome_of_kind k) (counts_of c.args.source.now)) (sym c.kind.ensures) in
    after-fits c.served_after.result (outcome_of_kind c.kind.result) _ c.served_after.ensures (ap (λ (n : CountedCalls). n.last) counts)

pub returns-in-Err-clause-not_failed : goal.returns-in-Err-clause-not_failed
returns-in-Err-clause-not_failed g c =
    let counts = c.in-Err.ensures.counts ∙ ap (λ (k : ErrorKind). counts_after (outcome_of_kind k) (counts_of c.args.source.now)) (sym c.kind.ensures) in
    after-kept c.served_after.result (outcome_of_kind c.kind.result) _ _ c.served_after.ensures (ap (λ (n : CountedCalls). n.failures) counts)

pub returns-in-Err-clause-failed : goal.returns-in-Err-clause-failed
returns-in-Err-clause-failed g c =
    let counts = c.in-Err.ensures.counts ∙ ap (λ (k : ErrorKind). counts_after (outcome_of_kind k) (counts_of c.args.source.now)) (sym c.kind.ensures) in
    after-rose c.served_after.result (outcome_of_kind c.kind.result) _ _ c.served_after.ensures (ap (λ (n : CountedCalls). n.failures) counts)

pub returns-in-Err-clause-room : goal.returns-in-Err-clause-room
returns-in-Err-clause-room g c =
    room-kept c.args.room.now.buffer.len c.args.room.now.buffer.items c.read.new.buf c.args.room.now.buffer.ok.0 c.requires.room (c.read.auto.buf ∙ ap length c.as_mut_slice-buffer.ensures.value)

pub returns-in-Err-clause-dests : goal.returns-in-Err-clause-dests
returns-in-Err-clause-dests g c = c.requires.dests

-- ---- what waits

pub returns-in-Ok-eq0-clause-waits : goal.returns-in-Ok-eq0-clause-waits
returns-in-Ok-eq0-clause-waits g c = none-waits (IsRefusedBy g.D.Door.may_refuse c.args.turn.number) c.args.plan.now.destinations _ c.requires.nothing_waits

pub returns-in-Ok-clause-waits : goal.returns-in-Ok-clause-waits
returns-in-Ok-clause-waits g c = c.feed_piece.ensures.waits

pub returns-in-Err-clause-waits : goal.returns-in-Err-clause-waits
returns-in-Err-clause-waits g c = none-waits (IsRefusedBy g.D.Door.may_refuse c.args.turn.number) c.args.plan.now.destinations _ c.requires.nothing_waits
