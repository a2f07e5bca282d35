-- Laws of a text that is sent by one connection after another.
use Rattle.std.specs.Prelude.{◌≡◌, ℕ, List, [], ◌∷◌, ◌++◌, drop, flat_map}
use Rattle.std.specs.Io.{StartsWith}
use Rattle.backlog.specs.Lines.{whole_lines, left_by}
use Rattle.backlog.specs.Place.{place_after}

-- what is left of a text after connections that took these bytes
abbrev pub left_after : List (List ℕ) → List ℕ → List ℕ
left_after [] text = text
left_after (taken ∷ others) text = left_after others (left_by taken text)

-- each connection took a first part of what was left
abbrev pub TookWhatWasLeft : List (List ℕ) → List ℕ → Type 0
TookWhatWasLeft [] text = Unit {0}
TookWhatWasLeft (taken ∷ others) text =
    StartsWith text taken × TookWhatWasLeft others (left_by taken text)

-- the lines that the connections took to their ends, and then what is left, are the text
abbrev pub NothingIsLostLaw : Type 0
NothingIsLostLaw =
    (connections : List (List ℕ)) (text : List ℕ) → TookWhatWasLeft connections text
    → flat_map whole_lines connections ++ left_after connections text ≡ text

-- and these are whole lines, so that what is left begins at the beginning of a line
abbrev pub BeginsALineLaw : Type 0
BeginsALineLaw =
    (connections : List (List ℕ))
    → whole_lines (flat_map whole_lines connections) ≡ flat_map whole_lines connections

-- what is left is the text from the place on where the cursor stands once the connections are over
abbrev pub LeftFromPlaceLaw : Type 0
LeftFromPlaceLaw =
    (connections : List (List ℕ)) (text : List ℕ)
    → left_after connections text ≡ drop (place_after connections []).start text
