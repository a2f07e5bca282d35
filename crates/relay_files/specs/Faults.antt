-- Which fault of its files a command ends with, and which files it opened before.
use Rattle.std.specs.Prelude.{◌≡◌, ℕ, List, Option, Some, Result, Ok, Err, ◌⊎◌}
use Rattle.relay_base.specs.Memory.{Fails as FailsOrMemory}
use Rattle.conf_text.specs.Destination.{Destination}
use Rattle.conf_text.specs.SettingsTable.{SettingValues}
use Rattle.relay_rules.specs.Rules.{RuleList}
use Rattle.relay_rules.specs.Answers.{none_refused, only}
use Rattle.relay_rules.specs.Faults.{RefusesPatternAt}
use Rattle.relay_rules.specs.declared.fault.RuleFault.TheVariants as rule
use Rattle.conf_text.specs.Sections.{SectionText}
use Rattle.rewrite_rules.specs.Rule.{RewriteRule}
use Rattle.rewrite_rules.specs.File.{meanings_of}
use Rattle.rewrite_rules.specs.Faults.{RefusesPatternAt as RefusesRuleAt}
use Rattle.rewrite_rules.specs.declared.fault.RewriteReadFault.TheVariants.{BadPattern}
use Rattle.relay_files.specs.declared.role.Role.TheVariants.{Rules as TheRulesFile, Rewrite as TheRewriteFile}
use Rattle.relay_files.specs.declared.source.Sources.{Sources}
use Rattle.relay_files.specs.declared.fault.RelayFault.{RelayFault}
use Rattle.relay_files.specs.declared.fault.RelayFault.TheVariants.{Rule, Rewrite, NoMemory}
use Rattle.relay_files.specs.Files.{File, Files}
use Rattle.relay_files.specs.Configuration.{Configuration, configuration_of, text_in, ini_in, settings_in, rules_in, rules_given, rewrite_in, rewrite_given, plan_in}

-- the fault is that of a reading, unless memory ran out
abbrev pub Fails : {A : Type 0} → Result A RelayFault → RelayFault → Type 0
Fails read fault = FailsOrMemory NoMemory read fault

-- a section of the rules file, before which none has a fault, has a pattern that `regex` refuses
pub record RefusesRule (dests : List Destination) (file : File) (fault : RelayFault) : Type 0 where
  pub sections : List SectionText
  pub section : ℕ
  pub is_ini : ini_in TheRulesFile file ≡ Ok sections
  pub refuses : RefusesPatternAt sections section
  pub is_first : rules_in (only section) dests file ≡ Err fault
  pub names_section : fault ≡ Rule (rule.BadPattern section)

-- the same for relay rules
abbrev pub FailsRules : List Destination → File → RelayFault → Type 0
FailsRules dests file fault =
    Fails (rules_in none_refused dests file) fault ⊎ RefusesRule dests file fault

-- a line of the rewrite file, before which none has a fault, is a rule whose pattern `regex` refuses
pub record RefusesPattern (file : File) (fault : RelayFault) : Type 0 where
  pub text : List ℕ
  pub line : ℕ
  pub is_text : text_in TheRewriteFile file ≡ Ok text
  pub refuses : RefusesRuleAt (meanings_of text) line
  pub names_line : fault ≡ Rewrite (BadPattern line)

-- the same for rewrite rules
abbrev pub FailsRewrite : File → RelayFault → Type 0
FailsRewrite file fault = Fails (rewrite_in file) fault ⊎ RefusesPattern file fault

-- the same if there may be no file
abbrev pub FailsRulesGiven : List Destination → Option File → RelayFault → Type 0
FailsRulesGiven dests given fault =
    (file : File) × (given ≡ Some file) × FailsRules dests file fault

abbrev pub FailsRewriteGiven : Option File → RelayFault → Type 0
FailsRewriteGiven given fault = (file : File) × (given ≡ Some file) × FailsRewrite file fault

-- why no plan was made again of settings and files that have one: memory ran out, or `regex` refused a pattern
abbrev pub IsRemakingFault : RelayFault → Type 0
IsRemakingFault fault =
    (fault ≡ NoMemory) ⊎ ((section : ℕ) × (fault ≡ Rule (rule.BadPattern section)))
    ⊎ ((line : ℕ) × (fault ≡ Rewrite (BadPattern line)))

-- The fault is the first that the files have, unless memory ran out; and no file after the one at fault was
-- opened: its source is unchanged.
pub data EndsAt {S : Type 0} (old new : Sources S) (files : Files)
    (fault : RelayFault) : Type 0 where
  AtConfig : Fails (settings_in files.config) fault
      → new.rules ≡ old.rules → new.rewrite ≡ old.rewrite → EndsAt old new files fault
  AtRules : (settings : SettingValues) → settings_in files.config ≡ Ok settings
      → FailsRulesGiven settings.routing.destinations files.rules fault
      → new.rewrite ≡ old.rewrite → EndsAt old new files fault
  AtRewrite : (settings : SettingValues) (rules : Option RuleList)
      → settings_in files.config ≡ Ok settings
      → rules_given none_refused settings.routing.destinations files.rules ≡ Ok rules
      → FailsRewriteGiven files.rewrite fault → EndsAt old new files fault
  AtAnswer : (configuration : Configuration) → configuration_of files ≡ Ok configuration
      → fault ≡ NoMemory → EndsAt old new files fault
  AtPlan : (settings : SettingValues) (rules : Option RuleList) (rewrite : List RewriteRule)
      → settings_in files.config ≡ Ok settings
      → rules_given none_refused settings.routing.destinations files.rules ≡ Ok rules
      → rewrite_given files.rewrite ≡ Ok rewrite
      → Fails (plan_in settings rewrite rules) fault → EndsAt old new files fault
