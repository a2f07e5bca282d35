use Rattle.std.proofs.Common.{◌≡◌, length}
use Rattle.conf_text.specs.IniText.{meanings_of}
use Rattle.conf_text.proofs.IniReading.{IsRead}
use Rattle.conf_text.proofs.ini.Ini.read.Given as goal

abbrev pub invariant-loop-line : goal.invariant-loop-line
invariant-loop-line l = (l.number ≡ length l.yielded) × IsRead (meanings_of l.text) (length l.yielded) l.ini
