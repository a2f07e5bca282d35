-- A line as the code holds it.
use Rattle.std.specs.Prelude.{option_map, option_copied}
use Rattle.conf_text.specs.declared.line.Line.{Line}
use Rattle.conf_text.specs.declared.line.Line.TheVariants as line
use Rattle.conf_text.specs.declared.line.KeyValueText.{KeyValueText}
use Rattle.conf_text.specs.Sections.{Pair}
use Rattle.conf_text.specs.Lines.{Meaning, Skipped, Header, Setting}

-- a pair apart from where it is in the text
abbrev pub pair_view : KeyValueText → Pair
pair_view p = record { key = p.key.now; value = p.value.now }

-- what a line says, apart from where it is in the text
abbrev pub meaning_view : Line → Meaning
meaning_view line.Skipped = Skipped
meaning_view (line.Header name) = Header (option_copied name)
meaning_view (line.Setting pair) = Setting (option_map pair_view pair)
