use Rattle.std.proofs.Common.{◌<◌, ◌≤◌, ◌∙◌, ℕ, length, ap, subst}
use Rattle.mio_loops.proofs.WriteLoopLemmas.{set-count, sound-set, not-past, none-past, ups-detached, detached-there}
use Rattle.mio_loops.proofs.write_loop.WriteLoop.detach.Goals as goal

pub index_mut-requires : goal.index_mut-requires
index_mut-requires g c = subst (λ (n : ℕ). c.args.dest.0 < n) c.len.ensures c.if-dest-len.true

pub invariant_of-self : goal.invariant_of-self
invariant_of-self g c =
    let inside = c.self.inside in
    sound-set inside.destinations.items inside.logs.items c.args.dest.0 inside.logs.cap c.detach.new.self c.self.invariant

pub returns-then-dest-len-clause-detached : goal.returns-then-dest-len-clause-detached
returns-then-dest-len-clause-detached g c =
    λ old found. detached-there c.self.inside.destinations.items c.args.self.now c.args.dest.0 c.index_mut.result.now c.detach.new.self old
    c.self.view_is c.index_mut.ensures.value c.detach.ensures found

pub returns-then-dest-len-clause-no_such_dest : goal.returns-then-dest-len-clause-no_such_dest
returns-then-dest-len-clause-no_such_dest g c =
    let within = subst (λ (n : ℕ). c.args.dest.0 < n) (c.len.ensures ∙ c.self.inside.destinations.ok.0) c.if-dest-len.true in
    λ past. absurd (not-past c.self.inside.destinations.items c.args.self.now c.args.dest.0 c.self.view_is within past)

pub returns-then-dest-len-clause-dests : goal.returns-then-dest-len-clause-dests
returns-then-dest-len-clause-dests g c = set-count c.self.inside.destinations.items c.args.self.now c.args.dest.0 c.detach.new.self c.self.view_is

pub returns-then-dest-len-clause-ups : goal.returns-then-dest-len-clause-ups
returns-then-dest-len-clause-ups g c =
    let within = subst (λ (n : ℕ). c.args.dest.0 < n) (c.len.ensures ∙ c.self.inside.destinations.ok.0) c.if-dest-len.true in
    ups-detached c.self.inside.destinations.items c.args.self.now c.args.dest.0 c.index_mut.result.now c.detach.new.self
    c.self.view_is within c.index_mut.ensures.value c.detach.ensures

pub returns-else-dest-len-clause-detached : goal.returns-else-dest-len-clause-detached
returns-else-dest-len-clause-detached g c =
    let count = c.len.ensures ∙ c.self.inside.destinations.ok.0 ∙ ap length c.self.view_is in
    let past = subst (λ (n : ℕ). n ≤ c.args.dest.0) count c.if-dest-len.false in
    λ old found. absurd (none-past c.args.self.now c.args.dest.0 old past found)

pub returns-else-dest-len-clause-ups : goal.returns-else-dest-len-clause-ups
returns-else-dest-len-clause-ups g c = λ other up. up
