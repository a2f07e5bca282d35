use Rattle.std.proofs.Common.{◌≡◌, ◌<◌, ◌≤◌, ◌++◌, ℕ, List, [], length, inl, inr, refl, sym, ap, subst, ◌∙◌, arith, append_assoc}
use Rattle.std.proofs.lemmas.List.{append-nil}
use Rattle.dest_writer.specs.Counting.{counts_of, raised_by, Rose}
use Rattle.router.specs.Plan.{Plan}
use Rattle.reader_core.specs.Configuration.{Dispatch}
use Rattle.mio_loops.specs.Reading.{ReaderProgress}
use Rattle.mio_loops.specs.declared.served.Served.TheVariants.{Again, Refused}
use Rattle.mio_loops.proofs.ReadingLemmas.{went-waiting, went-then}
use Rattle.dest_writer.proofs.DriveLemmas.{raised-rose}
use Rattle.queue_records.specs.Offers.{IsRefusedBy}
use Rattle.mio_loops.proofs.ServingLemmas.{none-waits, waits-among, read-not, read-then, reads-then, raised-within, calls-next, refused-failed, again-failed, again-ended, again-refused, refused-ended, closes-by}
use Rattle.mio_loops.proofs.serve.serve_reads.Goals as goal

pub returns-then-not-make_offers-clause-went : goal.returns-then-not-make_offers-clause-went
returns-then-not-make_offers-clause-went g c =
    let made = c.make_offers.ensures.made in (
      [],
      made.0,
      went-waiting c.args.plan.now c.args.turn.number made.0 _ _ _ _ c.args.room.now.log made.1,
      record {
        calls = omega arith;
        tried = λ other. absurd (other refl);
        again = λ is. absurd (again-refused (sym is));
        outcome = refl;
        ended = λ is. absurd (refused-ended is);
        failed = λ is. absurd (refused-failed is);
        not_failed = λ _. refl;
        bytes = read-not _ Refused;
        reads = refl;
        waited = inl refl;
        offered = λ other. absurd (other refl);
        refused = λ _. c.if-not-make_offers.ensures.refused refl;
      },
    )

pub loop-init : goal.loop-init
loop-init g c =
    let made = c.make_offers.ensures.made in
    let all = c.if-not-make_offers.ensures.all refl in
    record {
      went = (
        [],
        made.0,
        went-waiting c.args.plan.now c.args.turn.number made.0 _ _ _ _ c.args.room.now.log made.1,
        read-not _ Again,
        refl,
        [],
        sym (made.1.waiting ∙ ap (λ (w : List Dispatch). made.0 ++ w) all ∙ append-nil made.0) ∙ sym (append-nil c.args.reader.now.waiting),
      );
      waits = all;
      goes_on = c.make_offers.ensures.closed ∙ c.requires.open;
      dests = (let d = c.make_offers.ensures.dests in let e = c.destinations.ensures in omega (arith, d, e));
      plan = refl;
      room = c.requires.room;
      calls = λ some. absurd (omega (arith, some));
      unread = λ _. refl;
      outcome = λ some. absurd (omega (arith, some));
      failures = refl;
    }

pub returns-in-Some-clause-went : goal.returns-in-Some-clause-went
returns-in-Some-clause-went g c =
    let held = c.loop.invariant in
    let e = c.in-Some.ensures in
    let old = held.went in
    let more = e.went in
    let plan = c.args.plan.now in
    let calls = calls-next c.loop.counter _ _ _ held.calls held.unread e.calls in
    let few = c.loop-test.true in
    let whole = went-then plan c.args.turn.number old.0 more.0 old.1 more.1 _ _ _ _ _ _ _ _ _ old.2
    (subst (λ (p : Plan). ReaderProgress p c.args.turn.number more.0 more.1 c.loop.reader c.read_once.new.reader (g.D.Door.record_of c.loop.door) (g.D.Door.record_of c.read_once.new.door) c.loop.room.log c.read_once.new.room.log) held.plan more.2) in (
      old.0 ++ more.0,
      old.1 ++ more.1,
      whole,
      record {
        calls = raised-within _ _ _ _ (omega (arith, few)) calls;
        tried = λ _. raised-rose _ _ _ (omega arith) calls;
        again = λ is. absurd (e.not_again is);
        outcome = e.outcome;
        ended = λ is. elim (e.ended is) [
          | inl at ↦ inl at
          | inr closed ↦ inr (closes-by c.closed_as_read.ensures plan (old.0 ++ more.0) (old.1 ++ more.1) _ _ whole.reader closed)
        ];
        failed = λ is. subst (λ (f : ℕ). Rose f (counts_of c.read_once.new.source).failures) held.failures (e.failed is);
        not_failed = λ other. e.not_failed other ∙ held.failures;
        bytes = read-then _ _ _ old.0 more.0 _ old.3 more.3;
        reads = reads-then c.args.turn.moment old.0 more.0 old.4 more.4;
        waited = inr (old.5 ++ more.1, ap (λ (m : List Dispatch). m ++ more.1) old.6 ∙ append_assoc c.args.reader.now.waiting old.5 more.1);
        offered = e.offered;
        refused = e.refused;
      },
    )

pub loop-preserved : goal.loop-preserved
loop-preserved g c =
    let held = c.loop.invariant in
    let e = c.in-None.ensures in
    let old = held.went in
    let more = e.went in
    let plan = c.args.plan.now in
    let calls = calls-next c.loop.counter _ _ _ held.calls held.unread e.calls in
    record {
      went = (
        old.0 ++ more.0,
        old.1 ++ more.1,
        went-then plan c.args.turn.number old.0 more.0 old.1 more.1 _ _ _ _ _ _ _ _ _ old.2
            (subst (λ (p : Plan). ReaderProgress p c.args.turn.number more.0 more.1 c.loop.reader c.read_once.new.reader (g.D.Door.record_of c.loop.door) (g.D.Door.record_of c.read_once.new.door) c.loop.room.log c.read_once.new.room.log) held.plan more.2),
        read-then _ _ _ old.0 more.0 _ old.3 more.3,
        reads-then c.args.turn.moment old.0 more.0 old.4 more.4,
        old.5 ++ more.1,
        ap (λ (m : List Dispatch). m ++ more.1) old.6 ∙ append_assoc c.args.reader.now.waiting old.5 more.1,
      );
      waits = e.offered again-refused;
      goes_on = e.stays refl;
      dests = subst (λ (p : Plan). p.destinations ≤ length (g.D.Door.record_of c.read_once.new.door).totals) held.plan e.dests;
      plan = e.plan ∙ held.plan;
      room = e.room;
      calls = λ _. calls;
      unread = λ none. absurd (omega (arith, none));
      outcome = λ _. e.outcome;
      failures = e.not_failed again-failed ∙ held.failures;
    }

pub returns-clause-went : goal.returns-clause-went
returns-clause-went g c =
    let held = c.loop.invariant in
    let old = held.went in
    let end = c.loop-test.false in
    let few = c.loop.auto.counter-end in
    let some : 0 < c.loop.counter = omega (arith, end) in
    let calls = held.calls some in (
      old.0,
      old.1,
      old.2,
      record {
        calls = raised-within c.loop.counter _ _ _ (omega (arith, few)) calls;
        tried = λ _. raised-rose c.loop.counter _ _ some calls;
        again = λ _. subst (λ (n : ℕ). (counts_of c.loop.source).calls ≡ raised_by n (counts_of c.args.source.now).calls) (omega (arith, end, few)) calls;
        outcome = held.outcome some;
        ended = λ is. absurd (again-ended is);
        failed = λ is. absurd (again-failed is);
        not_failed = λ _. held.failures;
        bytes = old.3;
        reads = old.4;
        waited = inr (old.5, old.6);
        offered = λ _. held.waits;
        refused = λ is. absurd (again-refused is);
      },
    )

pub make_offers-requires : goal.make_offers-requires
make_offers-requires g c = record { dests = subst (λ (n : ℕ). n ≤ length (g.D.Door.record_of c.args.door.now).totals) (sym c.destinations.ensures) c.requires.dests }

pub returns-then-not-make_offers-clause-dests : goal.returns-then-not-make_offers-clause-dests
returns-then-not-make_offers-clause-dests g c = subst (λ (n : ℕ). n ≤ length (g.D.Door.record_of c.make_offers.new.door).totals) c.destinations.ensures c.make_offers.ensures.dests

pub read_once-requires-clause-dests : goal.read_once-requires-clause-dests
read_once-requires-clause-dests g c =
    subst (λ (p : Plan). p.destinations ≤ length (g.D.Door.record_of c.loop.door).totals) (sym c.loop.invariant.plan) c.loop.invariant.dests

pub returns-in-Some-clause-dests : goal.returns-in-Some-clause-dests
returns-in-Some-clause-dests g c = subst (λ (p : Plan). p.destinations ≤ length (g.D.Door.record_of c.read_once.new.door).totals) c.loop.invariant.plan c.in-Some.ensures.dests

pub returns-in-Some-clause-plan : goal.returns-in-Some-clause-plan
returns-in-Some-clause-plan g c = c.in-Some.ensures.plan ∙ c.loop.invariant.plan

-- ---- what waits

pub returns-then-not-make_offers-clause-waits : goal.returns-then-not-make_offers-clause-waits
returns-then-not-make_offers-clause-waits g c = waits-among (IsRefusedBy g.D.Door.may_refuse c.args.turn.number) _ c.args.plan.now.destinations _ c.destinations.ensures c.make_offers.ensures.waits

pub returns-in-Some-clause-waits : goal.returns-in-Some-clause-waits
returns-in-Some-clause-waits g c =
    waits-among (IsRefusedBy g.D.Door.may_refuse c.args.turn.number) _ c.args.plan.now.destinations _ (ap (λ (p : Plan). p.destinations) c.loop.invariant.plan) c.in-Some.ensures.waits

pub returns-clause-waits : goal.returns-clause-waits
returns-clause-waits g c = none-waits (IsRefusedBy g.D.Door.may_refuse c.args.turn.number) c.args.plan.now.destinations _ c.loop.invariant.waits
