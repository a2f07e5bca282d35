use Rattle.std.proofs.Common.{◌<◌, ◌≤◌, ◌∙◌, inr, ℕ, length, set, refl, ap, subst}
use Rattle.std.proofs.lemmas.Option.{slice_get_read}
use Rattle.mio_loops.proofs.WriteLoopLemmas.{set-count, set-same, sound-set, up-now, up-read, ups-attached}
use Rattle.mio_loops.proofs.write_loop.WriteLoop.attach.Goals as goal

pub index_mut-requires : goal.index_mut-requires
index_mut-requires g c = subst (λ (n : ℕ). c.args.dest.0 < n) c.len.ensures c.if-dest-len.false

-- ---- there is no such destination

pub returns-then-dest-len-clause-ups : goal.returns-then-dest-len-clause-ups
returns-then-dest-len-clause-ups g c = λ other up. inr up

pub returns-then-dest-len-clause-no_such_dest : goal.returns-then-dest-len-clause-no_such_dest
returns-then-dest-len-clause-no_such_dest g c =
    λ _. subst (λ (n : ℕ). n ≤ c.args.dest.0) (c.len.ensures ∙ c.self.inside.destinations.ok.0 ∙ ap length c.self.view_is) c.if-dest-len.true

-- ---- the destination has a connection already

pub invariant_of-self : goal.invariant_of-self
invariant_of-self g c =
    let inside = c.self.inside in
    sound-set inside.destinations.items inside.logs.items c.args.dest.0 inside.logs.cap c.attach.new.self c.self.invariant

pub returns-in-Err-clause-dests : goal.returns-in-Err-clause-dests
returns-in-Err-clause-dests g c = set-count c.self.inside.destinations.items c.args.self.now c.args.dest.0 c.attach.new.self c.self.view_is

pub returns-in-Err-clause-ups : goal.returns-in-Err-clause-ups
returns-in-Err-clause-ups g c =
    let items = c.self.inside.destinations.items in
    let same = set-same items c.args.self.now c.args.dest.0 c.index_mut.result.now c.attach.new.self c.self.view_is c.index_mut.ensures.value c.in-Err.ensures.up.1 in
    λ other up. inr (up-now (set items c.args.dest.0 c.attach.new.self) c.args.self.now other same up)

pub returns-in-Err-clause-already_up : goal.returns-in-Err-clause-already_up
returns-in-Err-clause-already_up g c =
    let items = c.self.inside.destinations.items in
    let within = subst (λ (n : ℕ). c.args.dest.0 < n) (c.len.ensures ∙ c.self.inside.destinations.ok.0) c.if-dest-len.false in
    λ _. up-read items c.args.self.now c.args.dest.0 c.index_mut.result.now c.self.view_is within c.index_mut.ensures.value c.in-Err.ensures.up.2

pub returns-in-Err-clause-unchanged : goal.returns-in-Err-clause-unchanged
returns-in-Err-clause-unchanged g c =
    set-same c.self.inside.destinations.items c.args.self.now c.args.dest.0 c.index_mut.result.now c.attach.new.self c.self.view_is c.index_mut.ensures.value c.in-Err.ensures.up.1

-- ---- the connection is attached

pub invariant_of-self-2 : goal.invariant_of-self-2
invariant_of-self-2 g c =
    let inside = c.self.inside in
    sound-set inside.destinations.items inside.logs.items c.args.dest.0 inside.logs.cap c.attach.new.self c.self.invariant

pub returns-clause-attached : goal.returns-clause-attached
returns-clause-attached g c =
    let a = c.in_default.ensures.attached in
    let items = c.self.inside.destinations.items in
    let within : c.args.dest.0 < length items = subst (λ (n : ℕ). c.args.dest.0 < n) (c.len.ensures ∙ c.self.inside.destinations.ok.0) c.if-dest-len.false in
    let here = slice_get_read items (length items) c.args.dest.0 c.index_mut.result.now refl within c.index_mut.ensures.value in
    (a.0, c.index_mut.result.now, rw (← c.self.view_is) here, c.in_default.ensures.down, a.1, a.2, cc)

pub returns-clause-dests : goal.returns-clause-dests
returns-clause-dests g c = set-count c.self.inside.destinations.items c.args.self.now c.args.dest.0 c.attach.new.self c.self.view_is

pub returns-clause-ups : goal.returns-clause-ups
returns-clause-ups g c =
    let items = c.self.inside.destinations.items in
    let within = subst (λ (n : ℕ). c.args.dest.0 < n) (c.len.ensures ∙ c.self.inside.destinations.ok.0) c.if-dest-len.false in
    λ other up. ups-attached items c.args.self.now c.args.dest.0 other c.attach.new.self c.self.view_is within up
