-- Reading a configuration file: its sections, or its first fault with the line.
use Rattle.std.specs.Prelude.{ℕ, ◌+◌, ◌-◌, ◌==◌, List, [], ◌∷◌, ◌++◌, map, length, Option, Some, None, Result, Ok, Err, if◌then◌else◌, slice_get}
use Rattle.std.specs.List.{slice_split}
use Rattle.relay_base.specs.Ascii.{newline}
use Rattle.conf_text.specs.declared.ini.IniFault.{IniFault}
use Rattle.conf_text.specs.declared.ini.IniFault.TheVariants.{NoSection, DuplicateSection, DuplicateKey, BadLine}
use Rattle.conf_text.specs.Sections.{Pair, SectionText, has_key, has_section}
use Rattle.conf_text.specs.Lines.{Meaning, Skipped, Header, Setting, meaning_of}

-- what the lines of a text say
abbrev pub meanings_of : List ℕ → List Meaning
meanings_of text = map meaning_of (slice_split (λ b. b == newline) text)

-- the pairs of a section: those up to the next section
abbrev pub own_pairs : List Meaning → List Pair
own_pairs [] = []
own_pairs (Skipped ∷ lines) = own_pairs lines
own_pairs (Header None ∷ lines) = own_pairs lines
own_pairs (Header (Some name) ∷ lines) = []
own_pairs (Setting None ∷ lines) = own_pairs lines
own_pairs (Setting (Some pair) ∷ lines) = pair ∷ own_pairs lines

-- the sections of a text: each header begins one
abbrev pub sections_of : List Meaning → List SectionText
sections_of [] = []
sections_of (Skipped ∷ lines) = sections_of lines
sections_of (Header None ∷ lines) = sections_of lines
sections_of (Header (Some name) ∷ lines) =
    record { name = name; pairs = own_pairs lines } ∷ sections_of lines
sections_of (Setting pair ∷ lines) = sections_of lines

-- what is wrong with a setting in a section, if there is one before it
abbrev pub setting_fault : Option SectionText → ℕ → Option Pair → Option IniFault
setting_fault None number pair = Some (NoSection number)
setting_fault (Some section) number None = Some (BadLine number)
setting_fault (Some section) number (Some pair) =
    if has_key pair.key section.pairs then Some (DuplicateKey number) else None

-- what is wrong with the line with this number, if the lines before it make these sections
abbrev pub line_fault : List SectionText → ℕ → Meaning → Option IniFault
line_fault before number Skipped = None
line_fault before number (Header None) = Some (BadLine number)
line_fault before number (Header (Some name)) =
    if has_section name before then Some (DuplicateSection number) else None
line_fault before number (Setting pair) =
    setting_fault (slice_get before (length before - 1)) number pair

-- the first value that is there
abbrev pub or_else : {A : Type 0} → Option A → Option A → Option A
or_else None o = o
or_else (Some x) o = Some x

-- the first fault among lines that follow those before
abbrev pub first_fault : List Meaning → List Meaning → Option IniFault
first_fault before [] = None
first_fault before (line ∷ lines) = or_else
    (line_fault (sections_of before) (length before + 1) line)
    (first_fault (before ++ line ∷ []) lines)

-- the sections, unless there is a fault
abbrev pub sections_unless : Option IniFault → List SectionText → Result (List SectionText) IniFault
sections_unless None sections = Ok sections
sections_unless (Some fault) sections = Err fault

-- what a configuration file says
unfoldable pub ini_of : List ℕ → Result (List SectionText) IniFault
ini_of text = sections_unless (first_fault [] (meanings_of text)) (sections_of (meanings_of text))
