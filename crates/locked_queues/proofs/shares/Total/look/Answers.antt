use Rattle.std.proofs.Common.{refl, sym, subst, ◌∙◌}
use Rattle.atomic_table.specs.Table.{keeps}
use Rattle.locked_queues.specs.Shares.{IsShared}
use Rattle.locked_queues.proofs.SharedSums.{set_same, shares_are_total}
use Rattle.locked_queues.proofs.shares.Total.look.Goals as goal

pub load-requires : goal.load-requires
load-requires g c =
    let s = c.args.self.now in
    (s.table ∙ sym c.requires.table, c.requires.place, λ st h n e lt. (s.seat.me.0, keeps, tt, subst IsShared (sym (set_same st.views _ s.seat.me.0 e)) h, (refl, record { views = st.views; shared = h; sum = shares_are_total st.views _ s.place s.seat.me.0 s.keeps h e })))
