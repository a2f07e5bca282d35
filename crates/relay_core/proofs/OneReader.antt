-- One line reader and one destination, computed from the definitions.
use Rattle.std.proofs.Common.{◌≡◌, List, [], ◌∷◌, ◌++◌, refl, replicate, false}
use Rattle.std.specs.Prelude.{codes}
use Rattle.std.specs.Str.{is_utf8, chars}
use Rattle.std.specs.Char.{encode_utf8}
use Rattle.std.specs.Fmt.{digits}
use Rattle.line_text.specs.Print.{printed_lines}
use Rattle.relay_core.specs.World.{RunEvent, Piece, End, Offer, Take, Up, Wrote, is_allowed}
use Rattle.relay_core.specs.Run.{Run, dest_in, end_of}
use Rattle.relay_core.specs.FirstPath.{line_reading, all_to_one, first_path, all_waiting, accepted_in}

-- a line has the moment of the piece that held its end, and each point is taken and written after its offer
abbrev in_two_pieces : Run
in_two_pieces =
    first_path 1 1 1
    (Up 0 ∷ Piece 0 (codes "a.b 1 -") 1700000000 ∷ Piece 0 (codes "1\n") 1700000005 ∷ Offer 0 ∷ Take 0 ∷ Wrote 0 17 ∷ [])

pub moment_of_last_byte : (dest_in line_reading in_two_pieces 0).connections ≡ codes "a.b 1 1700000005\n" ∷ []
unfolding is_utf8 chars encode_utf8 digits
moment_of_last_byte = refl

-- white space, signs and places after the point
abbrev spaced : Run
spaced = first_path 1 1 1 (Up 0 ∷ Piece 0 (codes "  a.b\t+042.000   1700000000.9\r\n") 0 ∷ Offer 0 ∷ Take 0 ∷ Wrote 0 18 ∷ [])

pub printed_anew : (dest_in line_reading spaced 0).connections ≡ codes "a.b 42 1700000000\n" ∷ []
unfolding is_utf8 chars encode_utf8 digits
printed_anew = refl

-- what has no newline is not a line, not even at the end of the connection
abbrev unended : Run
unended = first_path 1 1 1 (Piece 0 (codes "a 1 2") 0 ∷ End 0 ∷ Piece 0 (codes "b 3 4\n") 0 ∷ [])

pub rest_is_no_line : printed_lines (all_waiting unended 0) ≡ codes "b 3 4\n"
unfolding is_utf8 chars encode_utf8 digits
rest_is_no_line = refl

-- behind a line of 16,385 bytes the connection is closed, and the next one is read
abbrev too_long : List RunEvent
too_long = Piece 0 (codes "a 1 2\n" ++ replicate 16385 120) 0 ∷ Offer 0 ∷ []

pub no_more_is_read : is_allowed line_reading (all_to_one 9 9) (end_of line_reading (first_path 1 9 9 too_long)) (Piece 0 (codes "a 1 2\n") 0) ≡ false
unfolding is_utf8 chars encode_utf8 digits
no_more_is_read = refl

pub next_is_read : printed_lines (accepted_in (first_path 1 9 9 (too_long ++ End 0 ∷ Piece 0 (codes "a 1 2\n") 0 ∷ [])) 0) ≡ codes "a 1 2\na 1 2\n"
unfolding is_utf8 chars encode_utf8 digits
next_is_read = refl
