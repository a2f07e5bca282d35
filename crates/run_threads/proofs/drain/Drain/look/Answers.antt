use Rattle.std.proofs.Common.{ℕ, ◌≡◌, ◌≢◌, ◌+◌, ◌<◌, min, true, false, inl, inr, sym, subst, ◌∙◌, arith}
use Rattle.std.proofs.lemmas.Bool.Decides.{eqb_tells}
use Rattle.run_threads.specs.Drain.{IsLook, IsWaitedFor, IsNotWaitedFor, seen_of}
use Rattle.run_threads.specs.declared.drain.Waits.{Waits}
use Rattle.run_threads.specs.declared.drain.Waits.TheVariants.{Yes}
use Rattle.run_threads.proofs.drain.Drain.look.Goals as goal
use Rattle.run_threads.proofs.drain.Drain.look.Goals.{in-Yes, in-Done, in-Stuck, in-Slow}

pub loop-place-preserved : goal.loop-place-preserved
loop-place-preserved g c =
    let first = c.args.self.now in
    let before = c.loop-place.self in
    let after = c.look_at.new.self in
    let here = c.loop-place.place in
    let look = subst (λ e. IsLook c.args.millis e before.has_files (seen_of before.progress here) (seen_of after.progress here) c.look_at.result) c.loop-place.invariant.end c.look_at.ensures.look in
    let look_files = subst (λ f. IsLook c.args.millis first.end f (seen_of before.progress here) (seen_of after.progress here) c.look_at.result) c.loop-place.invariant.files look in
    let look_here = subst (λ b. IsLook c.args.millis first.end first.has_files b (seen_of after.progress here) c.look_at.result) (c.loop-place.invariant.others here (omega arith)) look_files in
    let earlier : c.loop-place.is_over ≡ false → (place : ℕ) × (place < here + 1) × IsWaitedFor c.args.millis first.end first.has_files (seen_of first.progress place) (seen_of after.progress place) = λ was.
    let found = c.loop-place.invariant.waits was in (
      found.0,
      omega (arith, found.1),
      subst (λ a. IsWaitedFor c.args.millis first.end first.has_files (seen_of first.progress found.0) a) (sym (c.look_at.ensures.others found.0 (λ same. omega (arith, found.1, same)))) found.2,
    ) in
    record {
      end = c.look_at.ensures.end ∙ c.loop-place.invariant.end;
      files = c.look_at.ensures.files ∙ c.loop-place.invariant.files;
      others = λ place behind. c.look_at.ensures.others place (λ same. omega (arith, behind, same)) ∙ c.loop-place.invariant.others place (omega (arith, behind));
      each = λ place passed. elim (eqb_tells place here) [
        | inl same ↦ subst (λ p. (waits : Waits) × IsLook c.args.millis first.end first.has_files (seen_of first.progress p) (seen_of after.progress p) waits) (sym same.1) (c.look_at.result, look_here)
        | inr other ↦ subst (λ a. (waits : Waits) × IsLook c.args.millis first.end first.has_files (seen_of first.progress place) a waits) (sym (c.look_at.ensures.others place other.1)) (c.loop-place.invariant.each place (omega (arith, passed, other.1)))
      ];
      over = λ over place passed.
          let was : c.loop-place.is_over ≡ true = elim c.match-look_at.branch [
            | in-Yes w ↦ grind (arith, w.is_over-is, over)
            | in-Done w ↦ grind (arith, w.is_over-is, over)
            | in-Stuck w ↦ grind (arith, w.is_over-is, over)
            | in-Slow w ↦ grind (arith, w.is_over-is, over)
          ] in
          let not : c.look_at.result ≢ Yes = λ yes. elim c.match-look_at.branch [
            | in-Yes w ↦ grind (arith, w.is_over-is, over)
            | in-Done w ↦ grind (arith, w.in-Done.is, yes)
            | in-Stuck w ↦ grind (arith, w.in-Stuck.is, yes)
            | in-Slow w ↦ grind (arith, w.in-Slow.is, yes)
          ] in
          elim (eqb_tells place here) [
            | inl same ↦ subst (λ p. IsNotWaitedFor c.args.millis first.end first.has_files (seen_of first.progress p) (seen_of after.progress p)) (sym same.1) (c.look_at.result, look_here, not)
            | inr other ↦ subst (λ a. IsNotWaitedFor c.args.millis first.end first.has_files (seen_of first.progress place) a) (sym (c.look_at.ensures.others place other.1)) (c.loop-place.invariant.over was place (omega (arith, passed, other.1)))
          ];
      waits = λ goes_on. elim c.match-look_at.branch [
        | in-Yes w ↦ (here, omega arith, subst (λ (waits : Waits). IsLook c.args.millis first.end first.has_files (seen_of first.progress here) (seen_of after.progress here) waits) w.in-Yes.is look_here)
        | in-Done w ↦ earlier (grind (arith, w.is_over-is, goes_on))
        | in-Stuck w ↦ earlier (grind (arith, w.is_over-is, goes_on))
        | in-Slow w ↦ earlier (grind (arith, w.is_over-is, goes_on))
      ];
    }

pub returns-then-is_over-clause-not_before : goal.returns-then-is_over-clause-not_before
returns-then-is_over-clause-not_before g c = λ over _ place inside.
    let of_dests = subst (λ dests. place < min dests 64) (sym c.dests.ensures.dests) inside in
    let of_end = subst (λ end. place < end) (sym c.min-place-end.ensures) of_dests in
    c.loop-place.invariant.over over place (omega (arith, of_end, c.loop-place-test.false))

pub returns-then-is_over-clause-each : goal.returns-then-is_over-clause-each
returns-then-is_over-clause-each g c = λ place inside.
    let of_dests = subst (λ dests. place < min dests 64) (sym c.dests.ensures.dests) inside in
    let of_end = subst (λ end. place < end) (sym c.min-place-end.ensures) of_dests in
    c.loop-place.invariant.each place (omega (arith, of_end, c.loop-place-test.false))
