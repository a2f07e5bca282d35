-- What `regex` gives for a text is what the text's own pattern gives.
use Rattle.std.proofs.Common.{◌≡◌, ℕ, ◌+◌, ◌*◌, ◌<◌, ◌≤◌, ◌==◌, true, List, [], ◌∷◌, ◌++◌, map, length, get_or, Option, None, Some, IsSomeAnd, is_some, nat_le, option_and_then, if◌then◌else◌, slice_range, refl, sym, ap, ap₂, ◌∙◌}
use Rattle.std.proofs.lemmas.Bool.{le-leb}
use Rattle.std.specs.Str.{chars}
use Rattle.regex.specs.Patterns.{Re, Match, SameCaptures, Reads, find_str, find_all_str}
use Rattle.regex.specs.Replace.{bytes_of, group_bytes, replaced_by}
use Rattle.regex.specs.Strings.{regex_pattern, regex_names}
use Rattle.regex.specs.Writes.{both}
use Rattle.regex.specs.declared.string.regex.Regex.{Regex}
use Rattle.regex.proofs.ForCallers.{spans, find_all_alike, is_match_alike}
use Rattle.regex_syntax.specs.Brackets.{Nested}
use Rattle.regex_syntax.specs.Grammar.{Names, group_count, read}
use Rattle.patterns.specs.declared.case.Case.{Case}
use Rattle.patterns.specs.declared.part.Part.{Part}
use Rattle.patterns.specs.Case.{config_of}
use Rattle.regex.specs.Sources.{IsRefusal}
use Rattle.regex.specs.Failures.{IsRightKind, HasSpanIn}
use Rattle.regex.specs.declared.error.Error.{Error}
use Rattle.regex.specs.declared.error.Error.TheVariants.{Syntax, CompiledTooBig, Internal, OutOfMemory}
use Rattle.patterns.specs.Pattern.{Pattern, PatternText, pattern_in, match_by, matches_by, is_found, matches_of, fault_of, IsPatternFault}
use Rattle.patterns.specs.Compiled.{IsReadOf}
use Rattle.patterns.specs.Replacement.{replacement_text, replaced_text}

-- ---- what is seen of a match decides what is written in its place

abbrev Seen : Type 0
Seen = ℕ × ℕ × (ℕ → Option ℕ)

seen_group : List ℕ → Seen → ℕ → List ℕ
seen_group text s n = bytes_of text (if n == 0 then Some (s.0, s.1) else both (s.2 (2 * n)) (s.2 (2 * n + 1)))

module _ (write : Seen → List ℕ) (text : List ℕ) where
  abbrev written_seen : ℕ → List Match → List ℕ
  written_seen at ms = replaced_by (λ m. write (spans m)) text at ms

  written_same : (at : ℕ) (xs ys : List Match) → map spans xs ≡ map spans ys → written_seen at xs ≡ written_seen at ys
  unfolding replaced_by
  written_same at [] [] e = refl
  written_same at [] (y ∷ ys) e = absurd cc
  written_same at (x ∷ xs) [] e = absurd cc
  written_same at (x ∷ xs) (y ∷ ys) e =
      let head : spans x ≡ spans y = cc in
      let tail : map spans xs ≡ map spans ys = cc in
      ap₂ (λ (s : Seen) rest. (slice_range text at s.0 ++ write s) ++ rest) head
      (written_same x.trace.end xs ys tail ∙ ap (λ (s : Seen). written_seen s.1 ys) head)

-- two patterns that match alike replace alike
replaced_text-alike : {a b : Re} → SameCaptures a b → (text : List ℕ) → ((k : ℕ) → get_or text k 0 < 256) → (write : (ℕ → List ℕ) → List ℕ) →
    replaced_by (λ m. write (group_bytes text m)) text 0 (find_all_str a text) ≡ replaced_by (λ m. write (group_bytes text m)) text 0 (find_all_str b text)
unfolding seen_group
replaced_text-alike same text bytes write =
    written_same (λ s. write (seen_group text s)) text 0 _ _ (find_all_alike same text bytes true)

-- ---- what `regex` read is the pattern of the text

-- the text's pattern matches as this one does, and has the same number of groups
pub record IsPatternOf (case : Case) (text : List ℕ) (re : Re) (groups : ℕ) : Type 0 where
  pub pattern : Pattern
  pub is_read : pattern_in case text ≡ Some pattern
  pub same : SameCaptures re pattern.re
  pub count : groups ≡ pattern.groups

abbrev pattern_of_found : Case → Option (Nested Re × Names) → Option Pattern
pattern_of_found case found = option_and_then
    (λ found. if nat_le found.0.depth (config_of case).nest_limit then Some (record { re = found.0.value; groups = length found.1 }) else None)
    found

record IsFoundPattern (case : Case) (found : Option (Nested Re × Names)) (re : Re) (groups : ℕ) : Type 0 where
  pub pattern : Pattern
  pub is_read : pattern_of_found case found ≡ Some pattern
  pub same : SameCaptures re pattern.re
  pub count : groups ≡ pattern.groups

found_pattern : (case : Case) (found : Option (Nested Re × Names)) (re : Re) (names : Names) →
    IsSomeAnd found (λ (found, others). (found.depth ≤ (config_of case).nest_limit) × SameCaptures re found.value × (names ≡ others) × (group_count re ≤ length names)) →
    IsFoundPattern case found re (length names)
found_pattern case None re names h = absurd h
found_pattern case (Some (nested, others)) re names h = record {
  pattern = record { re = nested.value; groups = length others };
  is_read = rw (le-leb _ _ h.0) refl;
  same = h.1;
  count = ap length h.2;
}

pub pattern_of_regex : (case : Case) (text : List ℕ) (regex : Regex) → IsReadOf case text regex → IsPatternOf case text (regex_pattern regex) (length (regex_names regex))
unfolding Reads pattern_in
pattern_of_regex case text regex h =
    let found = found_pattern case (read (config_of case) (chars text)) (regex_pattern regex) (regex_names regex) (rw (h.source, h.config) at h.read) in
    record { pattern = found.pattern; is_read = found.is_read; same = found.same; count = found.count }

-- ---- what is found, and what is written

module _ (case : Case) (pattern : List ℕ) (re : Re) (groups : ℕ) (is : IsPatternOf case pattern re groups)
    (text : List ℕ) (bytes : (k : ℕ) → get_or text k 0 < 256) where
  abbrev own : PatternText
  own = record { text = pattern; case = case }

  pub is_found-by : is_some (find_str re text 0) ≡ is_found own text
  unfolding is_found
  is_found-by =
      is_match_alike is.same text bytes true 0 ∙ ap (λ (o : Option Pattern). is_some (match_by o text)) (sym is.is_read)

  pub replaced_text-is : (parts : List Part) →
      replaced_by (λ m. replacement_text parts (group_bytes text m)) text 0 (find_all_str re text) ≡ replaced_text own parts text
  unfolding matches_of
  replaced_text-is parts =
      replaced_text-alike is.same text bytes (replacement_text parts)
      ∙ ap (λ (o : Option Pattern). replaced_by (λ m. replacement_text parts (group_bytes text m)) text 0 (matches_by o text)) (sym is.is_read)

-- ---- what is refused

pub IsPatternFault-of : (case : Case) (text : List ℕ) (error : Error) →
    IsRefusal (config_of case) text error → IsRightKind (config_of case) text error → HasSpanIn text error → IsPatternFault case text (fault_of error)
IsPatternFault-of case text (Syntax error) refused kind span = (Syntax error, λ is. absurd cc, refused, kind, span)
IsPatternFault-of case text CompiledTooBig refused kind span = (CompiledTooBig, λ is. absurd cc, refused, kind, span)
IsPatternFault-of case text Internal refused kind span = (Internal, λ is. absurd cc, refused, kind, span)
IsPatternFault-of case text OutOfMemory refused kind span = tt
