use Rattle.std.proofs.Common.{refl, sym, ◌∙◌, ap}
use Rattle.std.specs.Prelude.{slice_index}
use Rattle.atomic_table.specs.Table.{keeps}
use Rattle.locked_queues.specs.Shares.{with_count, with_shares_of, shares_alone}
use Rattle.locked_queues.proofs.SharedSums.{counts, counted_total, counted_share}
use Rattle.locked_queues.proofs.shares.Total.add.Goals as goal

pub store-requires : goal.store-requires
store-requires g c =
    let s = c.args.self.now in
    (s.table ∙ sym c.requires.table, c.requires.place, λ st h n e lt. (with_count s.place c.args.more s.seat.me.0, keeps, tt, counts st.views _ s.place c.args.more _ s.keeps h e, refl))

pub returns-clause-total : goal.returns-clause-total
returns-clause-total g c =
    let s = c.args.self.now in
    ap (λ v. slice_index v.totals s.place) c.hand_over.ensures.from.1
    ∙ (ap (λ v. slice_index v.totals s.place) c.store.ensures.2 ∙ counted_total s.seat.me.0 s.place c.args.more)

pub returns-clause-share : goal.returns-clause-share
returns-clause-share g c = λ i.
    let s = c.args.self.now in
    let to = c.args.shares.now.seat.me.0 in
    ap (λ v. slice_index v.shares i) c.hand_over.ensures.to.1
    ∙ (ap (λ w. slice_index (with_shares_of to (shares_alone w)).shares i) c.store.ensures.2 ∙ counted_share to s.seat.me.0 s.place c.args.more i s.bears)
