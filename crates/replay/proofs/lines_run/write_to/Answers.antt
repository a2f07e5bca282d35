use Rattle.std.proofs.Common.{◌≡◌, ℕ, suc, ◌+◌, ◌/◌, ◌∷◌, [], ap, sym, subst, ◌∙◌, refl, arith}
use Rattle.relay_core.specs.World.{Wrote}
use Rattle.replay.specs.LinesRun.{each_of, part_after}
use Rattle.replay.specs.RunEvents.{EventsHappen}
use Rattle.replay.proofs.LinesRun.{none-happen, next-happen}
use Rattle.replay.proofs.lines_run.write_to.Goals as goal

part_after-next : (n : ℕ) → part_after (n + 1) ≡ part_after n / 2
part_after-next n = let next : n + 1 ≡ suc n = omega arith in rw next refl

pub loop-init : goal.loop-init
loop-init c = record { happen = none-happen c.args.world.now; part = refl }

pub loop-preserved : goal.loop-preserved
loop-preserved c =
    let dest = c.args.dest in
    let written = subst (λ (n : ℕ). EventsHappen c.loop.world c.happen.new.world (Wrote dest n ∷ [])) c.loop.invariant.part c.in_ok-happen.ensures in
    record {
      happen = next-happen (λ n. Wrote dest (part_after n) ∷ []) c.loop.counter c.args.world.now c.loop.world c.happen.new.world c.loop.invariant.happen written;
      part = ap (λ (n : ℕ). n / 2) c.loop.invariant.part ∙ sym (part_after-next c.loop.counter);
    }

pub returns : goal.returns
returns c =
    let over = c.loop-test.false in
    let few = c.loop.auto.counter-end in
    let all : c.loop.counter ≡ 15 = omega (arith, over, few) in
    subst (λ (n : ℕ). EventsHappen c.args.world.now c.loop.world (each_of (λ m. Wrote c.args.dest (part_after m) ∷ []) n)) all c.loop.invariant.happen
