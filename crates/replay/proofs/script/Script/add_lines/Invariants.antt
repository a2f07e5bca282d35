use Rattle.std.proofs.Common.{◌≡◌, length}
use Rattle.replay.specs.ScriptText.{meanings_of}
use Rattle.replay.proofs.ScriptReading.{IsRead}
use Rattle.replay.proofs.script.Script.add_lines.Given as goal

abbrev pub invariant-loop-line : goal.invariant-loop-line
invariant-loop-line l = (l.number ≡ length l.yielded) × IsRead (meanings_of l.text) (length l.yielded) l.self
