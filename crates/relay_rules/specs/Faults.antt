-- What is wrong with a file of rules. `refused` says in which sections `regex` refused a valid pattern.
use Rattle.std.specs.Prelude.{◌≡◌, ℕ, Bool, not, ◌&&◌, ◌||◌, List, [], ◌∷◌, ◌++◌, length, Option, Some, None, is_some, slice_get, if◌then◌else◌}
use Rattle.std.specs.Option.{option_or}
use Rattle.conf_text.specs.Sections.{SectionText}
use Rattle.conf_text.specs.TruthWord.{truth_of}
use Rattle.conf_text.specs.Destination.{destinations_of}
use Rattle.relay_rules.specs.declared.fault.RuleFault.{RuleFault}
use Rattle.relay_rules.specs.declared.fault.RuleFault.TheVariants.{NoDestinations, PatternAndDefault, SecondDefault, NoDefault, BadPattern, BadTruth, BadDestination}
use Rattle.patterns.specs.declared.case.Case.TheVariants.{Ignored}
use Rattle.patterns.specs.Pattern.{is_pattern, IsRefused}
use Rattle.relay_rules.specs.Sections.{destinations_text, pattern_text, default_text, continue_text, is_on, has_default}

-- `destinations` must be there, and be destinations
abbrev pub destinations_fault : ℕ → Option (List ℕ) → Option RuleFault
destinations_fault number None = Some (NoDestinations number)
destinations_fault number (Some text) =
    if is_some (destinations_of text) then None else Some (BadDestination number)

-- a truth word
abbrev pub truth_fault : ℕ → List ℕ → Option RuleFault
truth_fault number text = if is_some (truth_of text) then None else Some (BadTruth number)

-- `continue` may be missing
abbrev pub continue_fault : ℕ → Option (List ℕ) → Option RuleFault
continue_fault number None = None
continue_fault number (Some text) = truth_fault number text

-- a rule: its pattern must be one, and be accepted, and then `continue` must be a truth word
abbrev pub rule_fault : Bool → ℕ → List ℕ → Option (List ℕ) → Option RuleFault
rule_fault refused number pattern goes_on =
    option_or
    (if refused || not (is_pattern Ignored pattern) then Some (BadPattern number) else None)
    (continue_fault number goes_on)

-- a section without a pattern: `default` must be a truth word, and may say yes only once
abbrev pub default_fault : Bool → ℕ → List ℕ → Option RuleFault
default_fault had_default number text =
    option_or (truth_fault number text)
    (if had_default && is_on (Some text) then Some (SecondDefault number) else None)

-- only one of `pattern` and `default` may be there
abbrev pub use_fault : Bool → Bool → ℕ
    → Option (List ℕ) → Option (List ℕ) → Option (List ℕ) → Option RuleFault
use_fault refused had_default number (Some pattern) (Some default) goes_on =
    Some (PatternAndDefault number)
use_fault refused had_default number (Some pattern) None goes_on =
    rule_fault refused number pattern goes_on
use_fault refused had_default number None (Some default) goes_on =
    default_fault had_default number default
use_fault refused had_default number None None goes_on = None

-- what is wrong with the section with this number; `had_default` says whether the default rule is before it
abbrev pub section_fault : Bool → Bool → ℕ → SectionText → Option RuleFault
section_fault refused had_default number section =
    option_or (destinations_fault number (destinations_text section))
    (use_fault refused had_default number
    (pattern_text section) (default_text section) (continue_text section))

-- the first fault of a file in which the sections before some others have none
unfoldable pub file_fault : (ℕ → Bool) → List SectionText → List SectionText → Option RuleFault
file_fault refused before [] = if has_default before then None else Some (NoDefault (length before))
file_fault refused before (section ∷ sections) =
    option_or (section_fault (refused (length before)) (has_default before) (length before) section)
    (file_fault refused (before ++ section ∷ []) sections)

-- ---- refusals of `regex`

-- the section has a pattern that `regex` refuses, for a reason other than memory
pub record RefusesPattern (section : SectionText) : Type 0 where
  pub pattern : List ℕ
  pub is_there : pattern_text section ≡ Some pattern
  pub refused : IsRefused Ignored pattern

-- the same for the section with this number
pub record RefusesPatternAt (sections : List SectionText) (number : ℕ) : Type 0 where
  pub section : SectionText
  pub is_there : slice_get sections number ≡ Some section
  pub refuses : RefusesPattern section
