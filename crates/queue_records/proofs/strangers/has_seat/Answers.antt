use Rattle.std.proofs.Common.{◌≡◌, ◌∙◌, sym, ap, subst}
use Rattle.std.proofs.lemmas.Option.{slice_get-get_or}
use Rattle.std.specs.Prelude.{Some}
use Rattle.queue_records.proofs.Places.{each_more}
use Rattle.queue_records.proofs.strangers.has_seat.Goals as goal

pub loop-record-preserved : goal.loop-record-preserved
loop-record-preserved g c =
    each_more (λ i (r : g.row.R.Denot). g.R.SeatRecord.seat_of r ≡ c.args.seat → ⊥) c.args.records.now c.loop-record.record-index c.record-item.result c.loop-record-test.true c.loop-record.invariant
    (subst (λ (r : g.row.R.Denot). g.R.SeatRecord.seat_of r ≡ c.args.seat → ⊥) c.record-item.is (λ e. c.if-seat.false (c.seat.ensures ∙ e)))

pub returns-then-seat-clause-all : goal.returns-then-seat-clause-all
returns-then-seat-clause-all g c = λ _. (
  c.loop-record.record-index,
  c.record-item.result,
  slice_get-get_or c.args.records.now c.loop-record.record-index c.record-item.result c.loop-record-test.true ∙ ap Some (sym c.record-item.is),
  sym c.seat.ensures ∙ c.if-seat.true,
)
