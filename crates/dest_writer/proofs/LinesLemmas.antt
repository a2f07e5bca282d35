-- The lines of datapoints, one after another.
use Rattle.std.proofs.Common.{◌≡◌, ◌<◌, List, [], ◌∷◌, ◌++◌, length, arith}
use Rattle.std.proofs.lemmas.Grind.{common_steps}
use Rattle.std.proofs.lemmas.List.{append-nil}
use Rattle.std.proofs.lemmas.List.Concat.{flat_map-append}
use Rattle.line_text.specs.Datapoint.{Datapoint}
use Rattle.line_text.specs.Print.{printed_line, printed_lines}

pub printed_lines-append : (a b : List Datapoint) → printed_lines (a ++ b) ≡ printed_lines a ++ printed_lines b
printed_lines-append a b = flat_map-append printed_line a b

pub printed_lines-one : (p : Datapoint) → printed_lines (p ∷ []) ≡ printed_line p
printed_lines-one p = append-nil (printed_line p)

-- a printed line has its newline at least
pub printed_line-some : (p : Datapoint) → 0 < length (printed_line p)
printed_line-some p = grind (arith, common_steps)
