use Rattle.std.proofs.Common.{◌≡◌, ◌≤◌, ◌<◌, ◌∙◌, ℕ, length, sym, ap, subst, arith, le_trans, lt_of_lt_of_le}
use Rattle.std.proofs.lemmas.List.{length-replicate}
use Rattle.mio_loops.specs.WriteLoop.{fresh_outgoing}
use Rattle.mio_loops.proofs.WriteLoopLemmas.{one-more_same, count-same}
use Rattle.mio_loops.proofs.write_loop.WriteLoop.new.Goals as goal

pub new-requires : goal.new-requires
new-requires g c = record { limit = c.requires.limit }

pub loop-init : goal.loop-init
loop-init g c =
    record { made = c.in_ok-destinations.ensures.items; room = c.in_ok-destinations.ensures.capacity }

pub push_reserved-requires : goal.push_reserved-requires
push_reserved-requires g c =
    let count : length c.loop.destinations.items ≡ c.loop.counter = ap length c.loop.invariant.made ∙ length-replicate c.loop.counter (fresh_outgoing {W = g.row.W.Denot} c.args.limit) in
    subst (λ (n : ℕ). n < c.loop.destinations.cap) (sym (c.loop.destinations.ok.0 ∙ count)) (lt_of_lt_of_le c.loop-test.true c.loop.invariant.room)

pub loop-smaller : goal.loop-smaller
loop-smaller g c = let more = c.loop-test.true in omega (arith, more)

pub loop-preserved : goal.loop-preserved
loop-preserved g c =
    record {
      made = one-more_same c.loop.destinations.items c.push_reserved.new.self.items c.loop.counter (fresh_outgoing c.args.limit) c.in_ok-new.field-0 c.loop.invariant.made c.in_ok-new.ensures c.push_reserved.ensures.items;
      room = subst (λ (n : ℕ). c.args.dests ≤ n) (sym c.push_reserved.ensures.capacity) c.loop.invariant.room;
    }

pub invariant_of-result : goal.invariant_of-result
invariant_of-result g c =
    let count : length c.loop.destinations.items ≡ c.loop.counter = ap length c.loop.invariant.made ∙ length-replicate c.loop.counter (fresh_outgoing {W = g.row.W.Denot} c.args.limit) in
    let few : length c.loop.destinations.items ≤ c.args.dests = subst (λ (n : ℕ). n ≤ c.args.dests) (sym count) c.loop.auto.counter-end in
    (le_trans few c.requires.dests.1, c.in_ok-logs.ensures.items, le_trans few c.in_ok-logs.ensures.capacity)

pub returns : goal.returns
returns g c =
    count-same c.loop.destinations.items c.loop.counter c.args.dests (fresh_outgoing c.args.limit) c.loop.invariant.made c.loop.auto.counter-end c.loop-test.false
