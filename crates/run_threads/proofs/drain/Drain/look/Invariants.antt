use Rattle.std.proofs.Common.{◌≡◌, ℕ, ◌<◌, ◌≤◌, true, false}
use Rattle.run_threads.specs.Drain.{IsLook, IsWaitedFor, IsNotWaitedFor, seen_of}
use Rattle.run_threads.specs.declared.drain.Waits.{Waits}
use Rattle.run_threads.proofs.drain.Drain.look.Given as goal

-- the end is as it was, destinations that were not looked at yet too; the others were looked at, and of them it waits for none if
-- it is over, and for one if not
abbrev pub invariant-loop-place : goal.invariant-loop-place
invariant-loop-place g l = record {
  end : l.self.end ≡ l.fn.self.end;
  files : l.self.has_files ≡ l.fn.self.has_files;
  others : (place : ℕ) → l.place ≤ place → seen_of l.self.progress place ≡ seen_of l.fn.self.progress place;
  each : (place : ℕ) → place < l.place → (waits : Waits) × IsLook l.millis l.fn.self.end l.fn.self.has_files (seen_of l.fn.self.progress place) (seen_of l.self.progress place) waits;
  over : l.is_over ≡ true → (place : ℕ) → place < l.place → IsNotWaitedFor l.millis l.fn.self.end l.fn.self.has_files (seen_of l.fn.self.progress place) (seen_of l.self.progress place);
  waits : l.is_over ≡ false → (place : ℕ) × (place < l.place) × IsWaitedFor l.millis l.fn.self.end l.fn.self.has_files (seen_of l.fn.self.progress place) (seen_of l.self.progress place);
}
