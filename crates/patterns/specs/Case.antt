-- The options of `regex` under which a pattern is read.
use Rattle.std.specs.Prelude.{Bool, true, false}
use Rattle.regex.specs.Patterns.{Config, default_config}
use Rattle.patterns.specs.declared.case.Case.{Case}
use Rattle.patterns.specs.declared.case.Case.TheVariants.{Observed, Ignored}

abbrev pub is_ignored : Case → Bool
is_ignored Observed = false
is_ignored Ignored = true

-- the options that `regex` has unless they are set, except its flag `i`: that is on if case is ignored
abbrev pub config_of : Case → Config
config_of case = record default_config {
  flags = record default_config.flags { case_insensitive = is_ignored case };
}
