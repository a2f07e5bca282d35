use Rattle.std.proofs.Common.{◌≡◌, ◌++◌, take}
use Rattle.std.specs.String.{string_bytes}
use Rattle.run_record.specs.ScriptLines.{reader_lines}
use Rattle.run_record.proofs.script_lines.push_readers.Given as goal

abbrev pub invariant-loop-kind : goal.invariant-loop-kind
invariant-loop-kind l = string_bytes l.text ≡ string_bytes l.fn.text ++ reader_lines (take l.kind-index l.kinds)
