-- Which fault `check` and `route` end with, and what they wrote before.
use Rattle.std.specs.Prelude.{◌≡◌, ℕ, false, List, Option, Ok, ◌⊎◌}
use Rattle.std.specs.Io.KnownBytes.{Keeps}
use Rattle.line_text.specs.Name.{is_name}
use Rattle.relay_files.specs.declared.source.Sources.{Sources}
use Rattle.relay_files.specs.declared.fault.RelayFault.{RelayFault}
use Rattle.relay_files.specs.declared.fault.RelayFault.TheVariants.{BadName}
use Rattle.relay_files.specs.Files.{Files}
use Rattle.relay_files.specs.Output.{OutputFails}
use Rattle.relay_files.specs.Configuration.{Configuration, configuration_of}
use Rattle.relay_files.specs.Faults.{EndsAt}
use Rattle.relay_commands.specs.Route.{check_answer, route_answer}

-- `check` ends at its files, with nothing written, or its output failed
abbrev pub FailsCheck : {S : Type 0} → Sources S → Sources S → Option (List ℕ) → Option (List ℕ)
    → RelayFault → Files → Type 0
FailsCheck old new before after fault files =
    (EndsAt old new files fault × Keeps before after)
    ⊎ OutputFails before after (check_answer files) fault

-- a text that is not a name, if the files are a configuration
pub record IsBadName (files : Files) (name : List ℕ) (fault : RelayFault) : Type 0 where
  pub configuration : Configuration
  pub is_read : configuration_of files ≡ Ok configuration
  pub is_none : is_name name ≡ false
  pub is_bad_name : fault ≡ BadName

-- `route` ends at its files, or at its name
abbrev pub EndsAtName : {S : Type 0} → Sources S → Sources S → List ℕ → RelayFault → Files → Type 0
EndsAtName old new name fault files = EndsAt old new files fault ⊎ IsBadName files name fault

-- with nothing written, or its output failed
abbrev pub FailsRoute : {S : Type 0} → Sources S → Sources S → Option (List ℕ) → Option (List ℕ)
    → List ℕ → RelayFault → Files → Type 0
FailsRoute old new before after name fault files =
    (EndsAtName old new name fault files × Keeps before after)
    ⊎ OutputFails before after (route_answer files name) fault
