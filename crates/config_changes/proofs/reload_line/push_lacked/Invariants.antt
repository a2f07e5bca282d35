use Rattle.std.proofs.Common.{◌≡◌, ◌++◌, take}
use Rattle.std.specs.String.{string_bytes}
use Rattle.config_changes.specs.ReloadLine.{listed}
use Rattle.config_changes.proofs.reload_line.push_lacked.Given as goal

-- the first destinations are looked at
abbrev pub invariant-loop-dest : goal.invariant-loop-dest
invariant-loop-dest l = string_bytes l.text ≡ string_bytes l.initial.text ++ listed l.other l.words (take l.dest-index l.dests)
