use Rattle.std.proofs.Common.{◌≡◌, ◌+◌, ◌-◌, ◌<◌, [], length, string_bytes, IsCharBoundary}
use Rattle.regex.specs.Strings.{matcher_pattern}
use Rattle.patterns.specs.Left.{with_left}
use Rattle.patterns.proofs.replacing.replace_all.Given as goal

abbrev pub invariant-loop-out : goal.invariant-loop-out
invariant-loop-out l = record {
  same : matcher_pattern l.matcher ≡ matcher_pattern l.fn.matcher;
  left : with_left (matcher_pattern l.fn.matcher) l.parts l.text (string_bytes l.out) l.after ≡ with_left (matcher_pattern l.fn.matcher) l.parts l.text [] 0;
  some : 0 < l.after;
  cut : IsCharBoundary l.text (l.after - 1);
}

abbrev pub decreases-loop-out : goal.decreases-loop-out
decreases-loop-out l = length l.text + 2 - l.after
