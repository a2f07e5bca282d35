-- Which faults the files of a configuration have.
use Rattle.std.proofs.Common.{◌≡◌, ℕ, Bool, List, Option, Result, Ok, Err, inl, inr, refl, ap, ◌∙◌}
use Rattle.conf_text.specs.Sections.{SectionText}
use Rattle.conf_text.specs.Destination.{Destination}
use Rattle.conf_text.specs.SettingsTable.{SettingValues}
use Rattle.relay_rules.specs.declared.fault.RuleFault.{RuleFault}
use Rattle.relay_rules.specs.declared.fault.RuleFault.TheVariants as rule
use Rattle.relay_rules.specs.Answers.{none_refused, only, FailsReading}
use Rattle.relay_rules.specs.Rules.{RuleList}
use Rattle.relay_rules.specs.Faults.{RefusesPatternAt}
use Rattle.relay_rules.specs.Reading.{relay_rules}
use Rattle.rewrite_rules.specs.declared.fault.RewriteReadFault.{RewriteReadFault}
use Rattle.rewrite_rules.specs.declared.fault.RewriteReadFault.TheVariants as rewrite
use Rattle.rewrite_rules.specs.Rule.{RewriteRule}
use Rattle.rewrite_rules.specs.File.{meanings_of, rewrite_rules_of}
use Rattle.rewrite_rules.specs.Faults.{IsFileFault}
use Rattle.router.specs.declared.fault.PlanFault.{PlanFault}
use Rattle.router.specs.declared.fault.PlanFault.TheVariants as plan
use Rattle.router.specs.Plan.{plan_of}
use Rattle.relay_base.specs.Memory.{Fails as FailsOrMemory}
use Rattle.relay_files.specs.declared.role.Role.TheVariants.{Rules, Rewrite}
use Rattle.relay_files.specs.declared.fault.RelayFault.{RelayFault}
use Rattle.relay_files.specs.Fault.{rule_fault, rewrite_fault, plan_fault}
use Rattle.relay_files.specs.Files.{File}
use Rattle.relay_files.specs.Configuration.{◌>>=◌, with_fault, text_in, ini_in, rules_in, rules_given, rewrite_in, rewrite_given, plan_in, plan_from, HavePlan}
use Rattle.relay_files.specs.Faults.{Fails, FailsRules, FailsRewrite, FailsRulesGiven, FailsRewriteGiven, IsRemakingFault}

-- ---- the rules file

module _ (dests : List Destination) (file : File) where
  pub rules_ini : (fault : RelayFault) → Fails (ini_in Rules file) fault → FailsRules dests file fault
  rules_ini fault (inl memory) = inl (inl memory)
  rules_ini fault (inr read) =
      inl (inr (ap (λ (r : Result (List SectionText) RelayFault). r >>= λ ini. with_fault rule_fault (relay_rules none_refused dests ini)) read))

  rules_err : (ini : List SectionText) (refused : ℕ → Bool) (fault : RuleFault) → ini_in Rules file ≡ Ok ini → relay_rules refused dests ini ≡ Err fault
      → rules_in refused dests file ≡ Err (rule_fault fault)
  rules_err ini refused fault is read =
      ap (λ (r : Result (List SectionText) RelayFault). r >>= λ i. with_fault rule_fault (relay_rules refused dests i)) is
      ∙ ap (λ (r : Result RuleList RuleFault). with_fault rule_fault r) read

  pub rules_read : (ini : List SectionText) (fault : RuleFault) → ini_in Rules file ≡ Ok ini → FailsReading (RefusesPatternAt ini) fault (λ refused. relay_rules refused dests ini)
      → FailsRules dests file (rule_fault fault)
  rules_read ini (rule.NoDestinations section) is fails = inl (inr (rules_err ini none_refused _ is fails))
  rules_read ini (rule.PatternAndDefault section) is fails = inl (inr (rules_err ini none_refused _ is fails))
  rules_read ini (rule.SecondDefault section) is fails = inl (inr (rules_err ini none_refused _ is fails))
  rules_read ini (rule.NoDefault section) is fails = inl (inr (rules_err ini none_refused _ is fails))
  rules_read ini (rule.BadPattern section) is fails =
      inr (record { sections = ini; section = section; is_ini = is; refuses = fails.1; is_first = rules_err ini (only section) _ is fails.0; names_section = refl })
  rules_read ini (rule.BadTruth section) is fails = inl (inr (rules_err ini none_refused _ is fails))
  rules_read ini (rule.BadDestination section) is fails = inl (inr (rules_err ini none_refused _ is fails))
  rules_read ini rule.NoMemory is fails = inl (inl refl)

-- ---- the rewrite file

module _ (file : File) (text : List ℕ) (is_text : text_in Rewrite file ≡ Ok text) where
  rewrite_err : (fault : RewriteReadFault) → rewrite_rules_of text ≡ Err fault → rewrite_in file ≡ Err (rewrite_fault fault)
  rewrite_err fault read =
      ap (λ (r : Result (List ℕ) RelayFault). r >>= λ t. with_fault rewrite_fault (rewrite_rules_of t)) is_text
      ∙ ap (λ (r : Result (List RewriteRule) RewriteReadFault). with_fault rewrite_fault r) read

  pub rewrite_read : (fault : RewriteReadFault) → IsFileFault (meanings_of text) fault → FailsRewrite file (rewrite_fault fault)
  unfolding rewrite_rules_of
  rewrite_read (rewrite.NoSection line) fails = inl (inr (rewrite_err (rewrite.NoSection line) fails))
  rewrite_read (rewrite.NoEquals line) fails = inl (inr (rewrite_err (rewrite.NoEquals line) fails))
  rewrite_read (rewrite.BadPattern line) fails =
      inr (record { text = text; line = line; is_text = is_text; refuses = fails; names_line = refl })
  rewrite_read (rewrite.BadReplacement line) fails = inl (inr (rewrite_err (rewrite.BadReplacement line) fails))
  rewrite_read rewrite.NoMemory fails = inl (inl refl)

-- ---- the plan

pub plan_fails : (settings : SettingValues) (rules : Option RuleList) (rewrite : List RewriteRule) (fault : PlanFault)
    → FailsOrMemory plan.NoMemory (plan_of settings rewrite rules) fault → Fails (plan_in settings rewrite rules) (plan_fault fault)
plan_fails settings rules rewrite fault (inl memory) = inl (ap plan_fault memory)
plan_fails settings rules rewrite fault (inr made) = inr (ap (with_fault plan_fault) made)

-- ---- a plan that was made before

module _ (settings : SettingValues) (rules_file rewrite_file : Option File) (has : HavePlan settings rules_file rewrite_file) where
  pub rules_remade : (fault : RelayFault) → FailsRulesGiven settings.routing.destinations rules_file fault → IsRemakingFault fault
  unfolding plan_from
  rules_remade fault (file, given, inl (inl memory)) = inl memory
  rules_remade fault (file, given, inl (inr read)) =
      let fails : plan_from settings rules_file rewrite_file ≡ Err fault = rw (given, read) refl in
      absurd cc
  rules_remade fault (file, given, inr refuses) = inr (inl (refuses.section, refuses.names_section))

  module _ (rules : Option RuleList) (have : rules_given none_refused settings.routing.destinations rules_file ≡ Ok rules) where
    pub rewrite_remade : (fault : RelayFault) → FailsRewriteGiven rewrite_file fault → IsRemakingFault fault
    unfolding plan_from
    rewrite_remade fault (file, given, inl (inl memory)) = inl memory
    rewrite_remade fault (file, given, inl (inr read)) =
        let fails : plan_from settings rules_file rewrite_file ≡ Err fault = rw (have, given, read) refl in
        absurd cc
    rewrite_remade fault (file, given, inr refuses) = inr (inr (refuses.line, refuses.names_line))

    pub plan_remade : (rewrite : List RewriteRule) → rewrite_given rewrite_file ≡ Ok rewrite → (fault : PlanFault)
        → FailsOrMemory plan.NoMemory (plan_of settings rewrite rules) fault → IsRemakingFault (plan_fault fault)
    unfolding plan_from
    plan_remade rewrite read fault (inl memory) = inl (ap plan_fault memory)
    plan_remade rewrite read fault (inr made) =
        let fails : plan_from settings rules_file rewrite_file ≡ Err (plan_fault fault) = rw (have, read, made) refl in
        absurd cc
