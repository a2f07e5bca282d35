-- What a line of a rewrite file says.
use Rattle.std.specs.Prelude.{ℕ, ◌+◌, ◌-◌, Bool, ◌&&◌, ◌==◌, List, length, map, take, drop, Option, Some, None, option_map, if◌then◌else◌, slice_index, slice_range, position, codes}
use Rattle.std.specs.Char.{to_ascii_lowercase}
use Rattle.std.specs.Str.{bytes_eq}
use Rattle.rewrite_rules.specs.declared.line.Section.{Section}
use Rattle.rewrite_rules.specs.declared.line.Section.TheVariants.{Pre, Post}
use Rattle.relay_base.specs.Ascii.{number_sign, equals_sign, left_bracket, right_bracket}
use Rattle.relay_base.specs.White.{strip}

-- a rule as it is in its line
pub record RuleText : Type 0 where
  pub pattern : List ℕ
  pub replacement : List ℕ

-- a header may name another section than `pre` and `post`, and a rule may have no `=`
pub data Meaning : Type 0 where
  Skipped : Meaning
  Header : Option Section → Meaning
  Rule : Option RuleText → Meaning

-- the same text, in any ASCII case
abbrev pub is_word : List ℕ → List ℕ → Bool
is_word word name = bytes_eq (map to_ascii_lowercase name) (map to_ascii_lowercase word)

-- `pre` or `post`, in any ASCII case
abbrev pub section_named : List ℕ → Option Section
section_named name =
    if is_word (codes "pre") name then Some Pre
    else (if is_word (codes "post") name then Some Post else None)

-- a line is cut at its first `=`, and both sides are stripped
abbrev pub rule_text : List ℕ → Option RuleText
rule_text line = option_map
    (λ i. record { pattern = strip (take i line); replacement = strip (drop (i + 1) line) })
    (position (λ b. b == equals_sign) line)

-- begins with `[` and ends with `]`
abbrev pub is_header : List ℕ → Bool
is_header line =
    slice_index line 0 == left_bracket && slice_index line (length line - 1) == right_bracket

-- a stripped line: empty, or one that begins with `#`, or a header, or any other
abbrev pub meaning_of_stripped : List ℕ → Meaning
meaning_of_stripped line =
    if length line == 0 then Skipped
    else (if slice_index line 0 == number_sign then Skipped
    else (if is_header line then Header (section_named (slice_range line 1 (length line - 1)))
    else Rule (rule_text line)))

-- what a line says
unfoldable pub meaning_of : List ℕ → Meaning
meaning_of line = meaning_of_stripped (strip line)
