use Rattle.std.proofs.Common.{◌≡◌, ◌<◌, ◌≤◌, ◌+◌, ◌∙◌, ℕ, Bool, [], length, refl, sym, ap, subst, arith}
use Rattle.router.specs.Plan.{Plan}
use Rattle.queue_records.specs.Offers.{IsRefusedBy}
use Rattle.mio_loops.specs.LoopSteps.{LoopProgress, NoneHeldBack}
use Rattle.mio_loops.specs.Reading.{entries_by, offers_by}
use Rattle.mio_loops.specs.ReadTurn.{TokenProgress, is_ready, is_due}
use Rattle.mio_loops.proofs.ReadTurnLemmas.{none-so_far, one-more, all-served, report-few}
use Rattle.mio_loops.proofs.read_loop.ReadLoop.turn.Goals as goal

pub loop-token-init : goal.loop-token-init
loop-token-init g c = record {
  so_far = ([], [], [], none-so_far c.args.plan.now g.S.Read.remaining c.args.moment (is_ready c.args.ready.now) c.args.self.now (g.D.Door.record_of c.args.door.now) _ c.new-report.ensures);
  none_forgotten = λ some. absurd (omega (arith, some));
  dests = c.requires.dests;
  plan = refl;
  waits = λ before. before;
}

pub serve_if_due-requires : goal.serve_if_due-requires
serve_if_due-requires g c =
    let held = c.loop-token.invariant in
    let low = c.loop-token-test.true in
    let count = c.tokens-token-end.ensures.count in
    record {
      within = omega (arith, low, count);
      dests = subst (λ (p : Plan). p.destinations ≤ length (g.D.Door.record_of c.loop-token.door).totals) (sym held.plan) held.dests;
    }

pub count-requires : goal.count-requires
count-requires g c =
    let held = c.loop-token.invariant.so_far.3 in
    let few = report-few c.loop-token.invariant.so_far.0 c.loop-token.token c.loop-token.report held.reported held.so_many in
    let below = c.loop-token-test.true in
    let count = c.tokens-token-end.ensures.count in
    let low : c.loop-token.token < 1024 = omega (arith, below, count) in
    let a = few.0 in
    let b = few.1 in
    let d = few.2 in
    let e = few.3 in
    let f = few.4 in
    record {
      served = omega (arith, low, a);
      ended = omega (arith, low, b);
      failed = omega (arith, low, d);
      starved = omega (arith, low, e);
      refused = omega (arith, low, f);
    }

pub loop-token-preserved : goal.loop-token-preserved
loop-token-preserved g c =
    let held = c.loop-token.invariant in
    let before = held.so_far in
    let i = c.loop-token.token in
    let step = c.serve_if_due.ensures in
    let went = step.went in
    let next = c.serve_if_due.new in
    let below = c.loop-token-test.true in
    let count = c.tokens-token-end.ensures.count in
    let low : i < 1024 = omega (arith, below, count) in
    record {
      so_far = (
        _,
        _,
        _,
        one-more c.args.plan.now g.S.Read.remaining c.args.moment (is_ready c.args.ready.now) i before.0 c.serve_if_due.result before.1 before.2 went.0 went.1
            c.args.self.now c.loop-token.self next.self (g.D.Door.record_of c.args.door.now) (g.D.Door.record_of c.loop-token.door) (g.D.Door.record_of next.door) c.loop-token.report c.count.new.self
            before.3
            (subst (λ (p : Plan). LoopProgress p (entries_by (c.loop-token.self.first + i) went.0) (offers_by (c.loop-token.self.first + i) went.1) c.loop-token.self next.self (g.D.Door.record_of c.loop-token.door) (g.D.Door.record_of next.door)) held.plan went.2)
            (subst (λ (p : Plan). TokenProgress g.S.Read.remaining p c.args.moment i c.serve_if_due.result went.0 went.1 c.loop-token.self next.self) held.plan went.3)
            (step.chosen ∙ ap (λ (b : Bool). is_due b c.loop-token.self i) (c.marks_of-marks.ensures i low))
            step.others c.count.ensures,
      );
      none_forgotten = λ some. step.none_forgotten;
      dests = subst (λ (p : Plan). p.destinations ≤ length (g.D.Door.record_of next.door).totals) held.plan step.dests;
      plan = step.plan ∙ held.plan;
      waits = λ before. (subst (λ (p : Plan). NoneHeldBack (IsRefusedBy g.D.Door.may_refuse) p.destinations c.loop-token.self → NoneHeldBack (IsRefusedBy g.D.Door.may_refuse) p.destinations next.self) held.plan step.waits) (held.waits before);
    }

pub returns-clause-turn : goal.returns-clause-turn
returns-clause-turn g c =
    let held = c.loop-token.invariant.so_far in
    let end = c.loop-token-test.false in
    let low = c.loop-token.auto.token-end in
    let all : c.tokens-token-end.result ≡ c.loop-token.token = omega (arith, end, low) in (
      held.0,
      held.1,
      held.2,
      held.3.went,
      all-served c.args.plan.now g.S.Read.remaining c.args.moment (is_ready c.args.ready.now) c.loop-token.token held.0 held.1 held.2 c.args.self.now c.loop-token.self
          (g.D.Door.record_of c.args.door.now) (g.D.Door.record_of c.loop-token.door) c.loop-token.report
          (λ token is. subst (λ (n : ℕ). token < n) all (c.tokens-token-end.ensures.no_more token is)) held.3,
      held.3.reported,
    )

pub returns-clause-none_forgotten : goal.returns-clause-none_forgotten
returns-clause-none_forgotten g c =
    let end = c.loop-token-test.false in
    let count = c.tokens-token-end.ensures.count in
    let some : 0 < c.loop-token.token = omega (arith, end, count) in
    c.loop-token.invariant.none_forgotten some
