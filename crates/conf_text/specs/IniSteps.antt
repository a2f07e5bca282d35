-- One line more: what it does to the sections that the lines before it make.
use Rattle.std.specs.Prelude.{ℕ, List, [], ◌∷◌, ◌++◌, Some, None, Result}
use Rattle.conf_text.specs.Sections.{Pair, SectionText}
use Rattle.conf_text.specs.Lines.{Meaning, Skipped, Header, Setting}
use Rattle.conf_text.specs.declared.ini.IniFault.{IniFault}
use Rattle.conf_text.specs.IniText.{line_fault, sections_unless}

-- the sections with a pair at the end of the last
abbrev pub with_pair : List SectionText → Pair → List SectionText
with_pair [] pair = []
with_pair (section ∷ []) pair = record section { pairs = section.pairs ++ pair ∷ [] } ∷ []
with_pair (section ∷ next ∷ sections) pair = section ∷ with_pair (next ∷ sections) pair

-- the sections after a line without a fault
abbrev pub after_line : List SectionText → Meaning → List SectionText
after_line before Skipped = before
after_line before (Header None) = before
after_line before (Header (Some name)) = before ++ record { name = name; pairs = [] } ∷ []
after_line before (Setting None) = before
after_line before (Setting (Some pair)) = with_pair before pair

-- the sections after a line, or what is wrong with it
abbrev pub line_gives : List SectionText → ℕ → Meaning → Result (List SectionText) IniFault
line_gives before number line =
    sections_unless (line_fault before number line) (after_line before line)
