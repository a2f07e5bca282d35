use Rattle.std.proofs.Common.{◌≡◌, ◌&&◌, drop}
use Rattle.std.specs.List.{list_all}
use Rattle.line_text.specs.Name.{is_name_byte}
use Rattle.line_text.proofs.name.are_name_bytes.Given as goal

-- what was seen and what is left give what all bytes give
abbrev pub invariant-loop-b : goal.invariant-loop-b
invariant-loop-b l = (l.all && list_all is_name_byte (drop l.b-index l.text)) ≡ list_all is_name_byte l.text
