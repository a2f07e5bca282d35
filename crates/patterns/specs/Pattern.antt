-- What the text of a pattern means, and where it matches, as `regex` defines it.
use Rattle.std.specs.Prelude.{◌≢◌, ℕ, Bool, List, [], length, Option, Some, None, is_some, option_and_then, nat_le, if◌then◌else◌}
use Rattle.std.specs.Str.{chars}
use Rattle.regex.specs.Patterns.{Re, Match, find_str, find_all_str}
use Rattle.regex.specs.Sources.{IsRefusal}
use Rattle.regex.specs.Failures.{IsRightKind, HasSpanIn}
use Rattle.regex.specs.declared.error.Error.{Error}
use Rattle.regex.specs.declared.error.Error.TheVariants.{Syntax, CompiledTooBig, Internal, OutOfMemory}
use Rattle.regex_syntax.specs.Grammar.{read}
use Rattle.patterns.specs.declared.case.Case.{Case}
use Rattle.patterns.specs.declared.fault.PatternFault.{PatternFault}
use Rattle.patterns.specs.declared.fault.PatternFault.TheVariants.{Refused, NoMemory}
use Rattle.patterns.specs.Case.{config_of}

-- what it matches, and how many groups it has, with group 0, the match
pub record Pattern : Type 0 where
  pub re : Re
  pub groups : ℕ

-- the pattern that the grammar of `regex` reads in a text, within its limit on nesting
unfoldable pub pattern_in : Case → List ℕ → Option Pattern
pattern_in case text = option_and_then
    (λ found.
    if nat_le found.0.depth (config_of case).nest_limit
    then Some (record { re = found.0.value; groups = length found.1 })
    else None)
    (read (config_of case) (chars text))

-- whether a text is a pattern
abbrev pub is_pattern : Case → List ℕ → Bool
is_pattern case text = is_some (pattern_in case text)

-- a text as a pattern
pub record PatternText : Type 0 where
  pub text : List ℕ
  pub case : Case

-- the leftmost match of a pattern
abbrev pub match_by : Option Pattern → List ℕ → Option Match
match_by None text = None
match_by (Some pattern) text = find_str pattern.re text 0

-- the matches of a pattern, from the left
abbrev pub matches_by : Option Pattern → List ℕ → List Match
matches_by None text = []
matches_by (Some pattern) text = find_all_str pattern.re text

-- whether a pattern is found anywhere in a text
unfoldable pub is_found : PatternText → List ℕ → Bool
is_found pattern text = is_some (match_by (pattern_in pattern.case pattern.text) text)

-- the matches of a pattern in a text, from the left
unfoldable pub matches_of : PatternText → List ℕ → List Match
matches_of pattern text = matches_by (pattern_in pattern.case pattern.text) text

-- `regex` may refuse the text for a reason other than memory: it is not a pattern, or one that is too big
abbrev pub IsRefused : Case → List ℕ → Type 0
IsRefused case text =
    (error : Error) × (error ≢ OutOfMemory)
    × IsRefusal (config_of case) text error × IsRightKind (config_of case) text error
    × HasSpanIn text error

-- the fault for a refusal of `regex`
abbrev pub fault_of : Error → PatternFault
fault_of (Syntax error) = Refused
fault_of CompiledTooBig = Refused
fault_of Internal = Refused
fault_of OutOfMemory = NoMemory

-- why a text did not become a pattern: it is refused, unless memory ran out
abbrev pub IsPatternFault : Case → List ℕ → PatternFault → Type 0
IsPatternFault case text Refused = IsRefused case text
IsPatternFault case text NoMemory = Unit {0}
