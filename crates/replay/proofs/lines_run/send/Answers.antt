use Rattle.std.proofs.Common.{◌≡◌, ℕ, subst, arith}
use Rattle.replay.specs.LinesRun.{each_of, sends_of}
use Rattle.replay.specs.RunEvents.{EventsHappen}
use Rattle.replay.proofs.LinesRun.{none-happen, next-happen}
use Rattle.replay.proofs.lines_run.send.Goals as goal

pub loop-init : goal.loop-init
loop-init c = none-happen c.args.world.now

pub loop-preserved : goal.loop-preserved
loop-preserved c =
    next-happen (λ n. sends_of c.args.dests) c.loop.counter c.args.world.now c.loop.world c.send_one.new.world c.loop.invariant c.in_ok-send_one.ensures

pub returns : goal.returns
returns c =
    let over = c.loop-test.false in
    let few = c.loop.auto.counter-end in
    let all : c.loop.counter ≡ c.args.offers = omega (arith, over, few) in
    subst (λ (n : ℕ). EventsHappen c.args.world.now c.loop.world (each_of (λ m. sends_of c.args.dests) n)) all c.loop.invariant
