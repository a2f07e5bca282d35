-- Writes of one drive, one after another.
use Rattle.std.proofs.Common.{◌≡◌, ◌==◌, ◌||◌, not, if◌then◌else◌, ℕ, ◌+◌, ◌-◌, ◌<◌, ◌≤◌, Bool, true, false, List, ◌++◌, Option, refl, sym, subst, ap, ◌∙◌, arith}
use Rattle.std.proofs.lemmas.Bool.{false≢true, ne_eqb, eqb-false}
use Rattle.std.proofs.lemmas.Grind.{common_steps}
use Rattle.std.specs.Io.KnownBytes.{Appends}
use Rattle.relay_base.proofs.Growth.{Appends-then}
use Rattle.dest_writer.specs.declared.counting.Outcome.{Outcome}
use Rattle.dest_writer.specs.declared.counting.Outcome.TheVariants.{Moved, WouldBlock, Interrupted}
use Rattle.dest_writer.specs.declared.counting.Outcome.TheVariants as outcome
use Rattle.dest_writer.specs.Calls.{CountedCalls, greatest_count}
use Rattle.dest_writer.specs.declared.driven.Driven.TheVariants.{Idle, Again, Failed}
use Rattle.dest_writer.specs.Counting.{is_failure, counts_after, raised_by, Rose}
use Rattle.dest_writer.specs.Drive.{goes_on, driven_by, driven_of, Writes, WritesOnce, HasDriven, Drives}
use Rattle.dest_writer.specs.Writer.{WriterState, left, bytes_written, writer_after_write}
use Rattle.dest_writer.proofs.WriterLemmas.{writes-add_up}

-- a drive does not go on after a failure
pub goes_on-no_failure : (outcome : Outcome) → goes_on outcome ≡ true → is_failure outcome ≡ false
goes_on-no_failure Moved e = refl
goes_on-no_failure Interrupted e = refl
goes_on-no_failure WouldBlock e = refl
goes_on-no_failure outcome.Failed e = absurd (false≢true e)

pub failures-stay : (outcome : Outcome) (old : CountedCalls) → goes_on outcome ≡ true → (counts_after outcome old).failures ≡ old.failures
failures-stay outcome old e = rw (goes_on-no_failure outcome e) refl

-- after a call the count of calls rose
pub raised-rose : (more old new : ℕ) → 0 < more → new ≡ raised_by more old → Rose old new
raised-rose more old new some is = grind (arith, common_steps)

raised-more : (made old now new : ℕ) → now ≡ raised_by made old → new ≡ raised_by 1 now → new ≡ raised_by (made + 1) old
raised-more made old now new before more = grind (arith, common_steps)

left-after : (m : ℕ) (w : WriterState) → m ≤ left w → left (writer_after_write m w) ≡ left w - m
left-after m w within = grind (arith, common_steps)

-- ---- how a drive ends

going-not_failed_when : (none_left : Bool) (last : Outcome) → goes_on last ≡ true → (if none_left then Idle else driven_by last) ≡ Failed → ⊥
going-not_failed_when true last going failed = cc
going-not_failed_when false Moved going failed = cc
going-not_failed_when false Interrupted going failed = cc
going-not_failed_when false WouldBlock going failed = absurd (false≢true going)
going-not_failed_when false outcome.Failed going failed = absurd (false≢true going)

not_again_when : (none_left : Bool) (last : Outcome) → (none_left || not (goes_on last)) ≡ true → (if none_left then Idle else driven_by last) ≡ Again → ⊥
not_again_when true last over again = cc
not_again_when false Moved over again = absurd (false≢true over)
not_again_when false Interrupted over again = absurd (false≢true over)
not_again_when false WouldBlock over again = cc
not_again_when false outcome.Failed over again = cc

failed-is_when : (none_left : Bool) (last : Outcome) → (if none_left then Idle else driven_by last) ≡ Failed → is_failure last ≡ true
failed-is_when true last failed = absurd cc
failed-is_when false Moved failed = absurd cc
failed-is_when false Interrupted failed = absurd cc
failed-is_when false WouldBlock failed = absurd cc
failed-is_when false outcome.Failed failed = refl

not_failed-is : (bytes : ℕ) (last : Outcome) → (goes_on last ≡ false → 0 < bytes) → (driven_of bytes last ≡ Failed → ⊥) → is_failure last ≡ false
not_failed-is bytes Moved left not_failed = refl
not_failed-is bytes Interrupted left not_failed = refl
not_failed-is bytes WouldBlock left not_failed = refl
not_failed-is bytes outcome.Failed left not_failed =
    let some = left refl in
    let is : (bytes == 0) ≡ false = ne_eqb bytes 0 (λ e. omega arith) in
    absurd (not_failed (rw is refl))

failures-rose : (last : Outcome) (old new first : ℕ) → is_failure last ≡ true → old ≡ first → new ≡ (if is_failure last then raised_by 1 old else old) → Rose first new
failures-rose last old new first is same counted =
    raised-rose 1 first new (omega arith) (counted ∙ ap (λ (b : Bool). if b then raised_by 1 old else old) is ∙ ap (raised_by 1) same)

failures-kept : (last : Outcome) (old new first : ℕ) → is_failure last ≡ false → old ≡ first → new ≡ (if is_failure last then raised_by 1 old else old) → new ≡ first
failures-kept last old new first is same counted = counted ∙ ap (λ (b : Bool). if b then raised_by 1 old else old) is ∙ same

not_over-when : (none_left : Bool) (last : Outcome) → (none_left || not (goes_on last)) ≡ false → (none_left ≡ false) × (goes_on last ≡ true)
not_over-when true last over = absurd (false≢true (sym over))
not_over-when false Moved over = (refl, refl)
not_over-when false Interrupted over = (refl, refl)
not_over-when false WouldBlock over = absurd (false≢true (sym over))
not_over-when false outcome.Failed over = absurd (false≢true (sym over))

pub not_over-goes_on : (bytes : ℕ) (last : Outcome) → ((bytes == 0) || not (goes_on last)) ≡ false → goes_on last ≡ true
not_over-goes_on bytes last over = (not_over-when (bytes == 0) last over).1

pub not_over-left : (bytes : ℕ) (last : Outcome) → ((bytes == 0) || not (goes_on last)) ≡ false → 0 < bytes
not_over-left bytes last over = let some = eqb-false bytes 0 (not_over-when (bytes == 0) last over).0 in from bytes some
  where
    from : (bytes : ℕ) → (bytes ≡ 0 → ⊥) → 0 < bytes
    from bytes some = omega arith

-- ---- writes, one after another

writes-then : (m n : ℕ) (w x y : WriterState) (a b c : Option (List ℕ)) → Writes m w x a b → Writes n x y b c → Writes (m + n) w y a c
writes-then m n w x y a b c first second =
    let after = ap (λ (v : WriterState). left v) first.step ∙ left-after m w first.within in
    let within = first.within in
    let more = second.within in
    let both : m + n ≤ left w = omega arith in
    let sum = writes-add_up m n w both in
    record {
      within = both;
      step = second.step ∙ ap (writer_after_write n) first.step ∙ sum.step;
      bytes = subst (Appends a c)
          (ap (λ (v : WriterState). bytes_written m w ++ bytes_written n v) first.step ∙ sum.bytes)
          (Appends-then a b c (bytes_written m w) (bytes_written n x) first.bytes second.bytes);
    }

same-writes : (w : WriterState) (a : Option (List ℕ)) → 0 < left w → Writes 0 w w a a
same-writes w a some =
    record {
      within = omega arith;
      step = grind (arith, common_steps);
      bytes = grind (arith, common_steps);
    }

-- before the first write
pub driven-first : (w : WriterState) (counts : CountedCalls) (a : Option (List ℕ)) → 0 < left w → counts.calls ≤ greatest_count → HasDriven 0 0 w w counts counts a a
driven-first w counts a some fits =
    record {
      writes = same-writes w a some;
      some = λ less. omega arith;
      calls = grind (arith, common_steps);
      counted = omega arith;
      failures = refl;
      last = λ less. absurd (omega arith);
    }

module _ {made count more : ℕ} {w x y : WriterState} {old now new : CountedCalls} {a b c : Option (List ℕ)}
    (so_far : HasDriven made count w x old now a b) (once : WritesOnce more x y now new b c) where
  calls-now : new.calls ≡ raised_by (made + 1) old.calls
  calls-now = raised-more made old.calls now.calls new.calls so_far.calls (ap (λ (counts : CountedCalls). counts.calls) once.counts)

  counted-now : old.calls ≤ new.calls
  counted-now = let before = so_far.counted in let calls = so_far.calls in let is = calls-now in omega arith

  -- after one write more that the drive goes on after
  pub driven-more : goes_on new.last ≡ true → HasDriven (made + 1) (count + more) w y old new a c
  driven-more going =
      record {
        writes = writes-then count more w x y a b c so_far.writes once.writes;
        some = λ some. omega arith;
        calls = calls-now;
        counted = counted-now;
        failures = ap (λ (counts : CountedCalls). counts.failures) once.counts ∙ failures-stay new.last now going ∙ so_far.failures;
        last = λ some. going;
      }

  stopped-left : 0 < left x → goes_on new.last ≡ false → 0 < left y
  stopped-left some stopped =
      let none = once.stopped stopped in
      let after = ap (λ (v : WriterState). left v) once.writes.step ∙ left-after more x once.writes.within in
      omega arith

  -- after the last write
  pub driven-over : made < 16 → 0 < left x → ((left y == 0) || not (goes_on new.last)) ≡ true
      → Drives (driven_of (left y) new.last) (count + more) w y old new a c
  driven-over few some over =
      record {
        writes = writes-then count more w x y a b c so_far.writes once.writes;
        answer = refl;
        counted = counted-now;
        calls = let is = calls-now in omega arith;
        tried = λ some. raised-rose (made + 1) old.calls new.calls (omega arith) calls-now;
        again = λ again. absurd (not_again_when (left y == 0) new.last over again);
        failed = λ failed. failures-rose new.last now.failures new.failures old.failures
            (failed-is_when (left y == 0) new.last failed) so_far.failures (ap (λ (counts : CountedCalls). counts.failures) once.counts);
        not_failed = λ not_failed. failures-kept new.last now.failures new.failures old.failures
            (not_failed-is (left y) new.last (stopped-left some) not_failed) so_far.failures (ap (λ (counts : CountedCalls). counts.failures) once.counts);
      }

-- after as many writes as a drive makes
pub driven-all : (count : ℕ) (w x : WriterState) (old new : CountedCalls) (a b : Option (List ℕ)) → HasDriven 16 count w x old new a b → 0 < left x
    → Drives (driven_of (left x) new.last) count w x old new a b
driven-all count w x old new a b so_far some =
    record {
      writes = so_far.writes;
      answer = refl;
      counted = so_far.counted;
      calls = let is = so_far.calls in omega arith;
      tried = λ any. raised-rose 16 old.calls new.calls (omega arith) so_far.calls;
      again = λ again. so_far.calls;
      failed = λ failed. absurd (going-not_failed_when (left x == 0) new.last (so_far.last (omega arith)) failed);
      not_failed = λ any. so_far.failures;
    }
