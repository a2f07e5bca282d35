-- How the fields of a compiled pattern relate.
use Rattle.std.specs.Prelude.{◌≡◌, ℕ, List}
use Rattle.regex.specs.Strings.{regex_source, regex_config, regex_pattern, matcher_pattern, IsReadFromSource}
use Rattle.regex.specs.declared.string.regex.Regex.{Regex}
use Rattle.regex.specs.declared.string.matcher.Matcher.{Matcher}
use Rattle.patterns.specs.declared.case.Case.{Case}
use Rattle.patterns.specs.Case.{config_of}

-- the regex is read from this text
pub record IsReadOf (case : Case) (text : List ℕ) (regex : Regex) : Type 0 where
  pub source : regex_source regex ≡ text
  pub config : regex_config regex ≡ config_of case
  pub read : IsReadFromSource regex

-- the regex is read from its text, and the matcher searches for it
pub record IsCompiled (case : Case) (regex : Regex) (matcher : Matcher) : Type 0 where
  pub config : regex_config regex ≡ config_of case
  pub read : IsReadFromSource regex
  pub searches : matcher_pattern matcher ≡ regex_pattern regex
