use Rattle.std.proofs.Common.{◌≡◌, ◌++◌, take, string_bytes}
use Rattle.patterns.specs.Replacement.{replacement_text}
use Rattle.patterns.specs.Left.{group_text}
use Rattle.patterns.proofs.replacing.append_parts.Given as goal

abbrev pub invariant-loop-part : goal.invariant-loop-part
invariant-loop-part l = string_bytes l.out ≡ string_bytes l.initial.out ++ replacement_text (take l.part-index l.parts) (group_text l.captures)
