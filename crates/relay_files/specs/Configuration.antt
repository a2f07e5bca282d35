-- What the files of a configuration say: the settings and the plan, with the files; or the first fault.
use Rattle.std.specs.Prelude.{◌≡◌, ℕ, Bool, List, [], Option, Some, None, Result, Ok, Err, if◌then◌else◌, false}
use Rattle.std.specs.Str.{is_utf8}
use Rattle.conf_text.specs.Sections.{SectionText}
use Rattle.conf_text.specs.IniText.{ini_of}
use Rattle.conf_text.specs.Destination.{Destination}
use Rattle.conf_text.specs.SettingsTable.{SettingValues, settings_of}
use Rattle.relay_rules.specs.Rules.{RuleList}
use Rattle.relay_rules.specs.Reading.{relay_rules}
use Rattle.relay_rules.specs.Answers.{none_refused}
use Rattle.rewrite_rules.specs.Rule.{RewriteRule}
use Rattle.rewrite_rules.specs.File.{rewrite_rules_of}
use Rattle.router.specs.Plan.{Plan, ByRing, plan_of}
use Rattle.relay_files.specs.declared.role.Role.{Role}
use Rattle.relay_files.specs.declared.role.Role.TheVariants.{Config, Rules, Rewrite}
use Rattle.relay_files.specs.declared.source.Sources.{Sources}
use Rattle.relay_files.specs.Files.{File, Unreadable, Bytes, Files, GivenReadAs}
use Rattle.relay_files.specs.declared.fault.RelayFault.{RelayFault}
use Rattle.relay_files.specs.declared.fault.RelayFault.TheVariants.{CannotRead, NotText}
use Rattle.relay_files.specs.Fault.{line_fault, setting_fault, rule_fault, rewrite_fault, plan_fault}

infixl 10 ◌>>=◌
abbrev pub ◌>>=◌ : {A B : Type 0} → Result A RelayFault → (A → Result B RelayFault)
    → Result B RelayFault
(Ok x) >>= f = f x
(Err fault) >>= f = Err fault

-- a reading whose fault is named as the program names it
abbrev pub with_fault : {A E : Type 0} → (E → RelayFault) → Result A E → Result A RelayFault
with_fault name (Ok x) = Ok x
with_fault name (Err fault) = Err (name fault)

-- the text of a file
abbrev pub text_in : Role → File → Result (List ℕ) RelayFault
text_in role Unreadable = Err (CannotRead role)
text_in role (Bytes bytes) = if is_utf8 bytes then Ok bytes else Err (NotText role)

-- the sections of a file
abbrev pub ini_in : Role → File → Result (List SectionText) RelayFault
ini_in role file = text_in role file >>= λ text. with_fault (line_fault role) (ini_of text)

-- the settings of the configuration file
abbrev pub settings_in : File → Result SettingValues RelayFault
settings_in file = ini_in Config file >>= λ ini. with_fault setting_fault (settings_of ini)

-- the relay rules of a file; `regex` may refuse patterns of these sections for their size
abbrev pub rules_in : (ℕ → Bool) → List Destination → File → Result RuleList RelayFault
rules_in refused dests file =
    ini_in Rules file >>= λ ini. with_fault rule_fault (relay_rules refused dests ini)

-- the same if there may be no file of them
abbrev pub rules_given : (ℕ → Bool) → List Destination → Option File
    → Result (Option RuleList) RelayFault
rules_given refused dests None = Ok None
rules_given refused dests (Some file) = rules_in refused dests file >>= λ list. Ok (Some list)

-- the rewrite rules of a file
abbrev pub rewrite_in : File → Result (List RewriteRule) RelayFault
rewrite_in file = text_in Rewrite file >>= λ text. with_fault rewrite_fault (rewrite_rules_of text)

-- the same if there may be no file of them: then there are none
abbrev pub rewrite_given : Option File → Result (List RewriteRule) RelayFault
rewrite_given None = Ok []
rewrite_given (Some file) = rewrite_in file

-- the plan of what was read
abbrev pub plan_in : SettingValues → List RewriteRule → Option RuleList → Result Plan RelayFault
plan_in settings rewrite rules = with_fault plan_fault (plan_of settings rewrite rules)

pub record Configuration : Type 0 where
  pub settings : SettingValues
  pub plan : Plan
  pub files : Files

-- what the files say: the order of the checks is that of the lines
unfoldable pub configuration_of : Files → Result Configuration RelayFault
configuration_of files = do
  settings ← settings_in files.config
  rules ← rules_given none_refused settings.routing.destinations files.rules
  rewrite ← rewrite_given files.rewrite
  plan ← plan_in settings rewrite rules
  Ok (record { settings = settings; plan = plan; files = files })

-- a statement holds for a configuration file that says these settings, and what was read from the other sources
abbrev pub OtherFilesReadAs : {S : Type 0} → (S → Option (List ℕ)) → Sources S → SettingValues
    → (Files → Type 0) → Type 0
OtherFilesReadAs known sources settings P =
    (config : File) → settings_in config ≡ Ok settings
    → GivenReadAs known sources.rules
    (λ rules. GivenReadAs known sources.rewrite
    (λ rewrite. P (record { config = config; rules = rules; rewrite = rewrite })))

-- a file with these bytes, if there is one
abbrev pub file_of : {A : Type 0} → (A → List ℕ) → Option A → Option File
file_of bytes_of None = None
file_of bytes_of (Some x) = Some (Bytes (bytes_of x))

-- the files with these bytes
abbrev pub files_of : {A : Type 0} → (A → List ℕ) → A → Option A → Option A → Files
files_of bytes_of config rules rewrite =
    record {
      config = Bytes (bytes_of config);
      rules = file_of bytes_of rules;
      rewrite = file_of bytes_of rewrite;
    }

-- the plan of settings and of files of rules
unfoldable pub plan_from : SettingValues → Option File → Option File → Result Plan RelayFault
plan_from settings rules_file rewrite_file = do
  rules ← rules_given none_refused settings.routing.destinations rules_file
  rewrite ← rewrite_given rewrite_file
  plan_in settings rewrite rules

-- these settings have a plan with these files of rules
abbrev pub HavePlan : SettingValues → Option File → Option File → Type 0
HavePlan settings rules_file rewrite_file =
    (plan : Plan) × (plan_from settings rules_file rewrite_file ≡ Ok plan)

-- a plan that sends nothing anywhere
abbrev pub no_plan : Plan
no_plan = record { rewrite = []; routing = ByRing (record { entries = []; servers = [] }) 0 false; destinations = 0 }

abbrev pub plan_or_none : Result Plan RelayFault → Plan
plan_or_none (Ok plan) = plan
plan_or_none (Err fault) = no_plan

-- the plan made from settings and files of rules that have one
abbrev pub plan_made : SettingValues → Option File → Option File → Plan
plan_made settings rules rewrite = plan_or_none (plan_from settings rules rewrite)
