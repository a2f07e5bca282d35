-- What is left for a destination between two runs.
use Rattle.std.specs.Prelude.{ℕ, List, [], ◌++◌, Option, None, Some}
use Rattle.handover.specs.Rest.{RestLeft, left_text}

-- the lines that its connections lack, from the very byte on
abbrev pub text_left : Option RestLeft → List ℕ
text_left None = []
text_left (Some rest) = left_text rest

-- those of a rest and of the one behind it
abbrev pub text_of_both : (rest later : Option RestLeft) → List ℕ
text_of_both rest later = text_left rest ++ text_left later
