-- What is read of the files of a configuration, one after another.
use Rattle.std.proofs.Common.{◌≡◌, ℕ, List, Option, Some, None, Result, Ok, Err, inl, inr, ◌⊎◌, refl, ap, sym, subst, ◌∙◌}
use Rattle.std.specs.Prelude.{⊤}
use Rattle.conf_text.specs.Destination.{Destination}
use Rattle.conf_text.specs.SettingsTable.{SettingValues}
use Rattle.relay_rules.specs.Answers.{none_refused}
use Rattle.relay_rules.specs.Rules.{RuleList}
use Rattle.rewrite_rules.specs.Rule.{RewriteRule}
use Rattle.router.specs.Plan.{Plan, plan_of}
use Rattle.relay_files.specs.declared.role.Role.TheVariants.{Config, Rules, Rewrite}
use Rattle.relay_files.specs.declared.fault.RelayFault.{RelayFault}
use Rattle.relay_files.specs.declared.fault.RelayFault.TheVariants.{NoMemory, CannotRead}
use Rattle.relay_files.specs.declared.source.Sources.{Sources}
use Rattle.relay_files.specs.Files.{File, Unreadable, Bytes, Files, IsReadOf, IsReadOfGiven, ReadAs, GivenReadAs, AllReadAs}
use Rattle.relay_files.specs.Configuration.{Configuration, OtherFilesReadAs, configuration_of, settings_in, rules_given, rewrite_given, plan_from}
use Rattle.relay_files.specs.Faults.{Fails, FailsRules, FailsRewrite, FailsRulesGiven, FailsRewriteGiven, EndsAt, AtConfig, AtRules, AtRewrite, AtAnswer, AtPlan}

-- ---- a file that could not be read

pub config_unread : (known : Option (List ℕ)) (fault : RelayFault) → (fault ≡ NoMemory) ⊎ (fault ≡ CannotRead Config)
    → ReadAs known (λ file. Fails (settings_in file) fault)
config_unread known fault (inl memory) = (Unreadable, tt, inl memory)
config_unread known fault (inr device) = (Unreadable, tt, inr (ap (λ (f : RelayFault). let r : Result SettingValues RelayFault = Err f in r) (sym device)))

rules_unread : (dests : List Destination) (fault : RelayFault) → (fault ≡ NoMemory) ⊎ (fault ≡ CannotRead Rules) → FailsRules dests Unreadable fault
rules_unread dests fault (inl memory) = inl (inl memory)
rules_unread dests fault (inr device) = inl (inr (ap (λ (f : RelayFault). let r : Result RuleList RelayFault = Err f in r) (sym device)))

rewrite_unread : (fault : RelayFault) → (fault ≡ NoMemory) ⊎ (fault ≡ CannotRead Rewrite) → FailsRewrite Unreadable fault
rewrite_unread fault (inl memory) = inl (inl memory)
rewrite_unread fault (inr device) = inl (inr (ap (λ (f : RelayFault). let r : Result (List RewriteRule) RelayFault = Err f in r) (sym device)))

-- ---- all files

-- what the source of the configuration file became does not matter
same_end : {S : Type 0} (old read new : Sources S) (files : Files) (fault : RelayFault) → read.rules ≡ old.rules → read.rewrite ≡ old.rewrite
    → EndsAt read new files fault → EndsAt old new files fault
same_end old read new files fault rules rewrite (AtConfig fails a b) = AtConfig fails (a ∙ rules) (b ∙ rewrite)
same_end old read new files fault rules rewrite (AtRules settings is fails b) = AtRules settings is fails (b ∙ rewrite)
same_end old read new files fault rules rewrite (AtRewrite settings list is given fails) = AtRewrite settings list is given fails
same_end old read new files fault rules rewrite (AtAnswer configuration is memory) = AtAnswer configuration is memory
same_end old read new files fault rules rewrite (AtPlan settings list rewriting is given rewritten fails) = AtPlan settings list rewriting is given rewritten fails

configuration_is : (files : Files) (settings : SettingValues) (rules : Option RuleList) (rewrite : List RewriteRule) (plan : Plan)
    → settings_in files.config ≡ Ok settings → rules_given none_refused settings.routing.destinations files.rules ≡ Ok rules → rewrite_given files.rewrite ≡ Ok rewrite
    → plan_of settings rewrite rules ≡ Ok plan → configuration_of files ≡ Ok (record { settings = settings; plan = plan; files = files })
unfolding configuration_of
configuration_is files settings rules rewrite plan a b c d = rw (a, b, c, d) refl

-- with equal files it says the same
said : (settings : SettingValues) (plan : Plan) (files other : Files) → files.config ≡ other.config → files.rules ≡ other.rules → files.rewrite ≡ other.rewrite
    → let one : Result Configuration RelayFault = Ok (record { settings = settings; plan = plan; files = files }) in
    let two : Result Configuration RelayFault = Ok (record { settings = settings; plan = plan; files = other }) in one ≡ two
said settings plan files other a b c = rw (a, b, c) refl

-- the plan made from settings and files of rules
pub plan_is : (settings : SettingValues) (rules_file rewrite_file : Option File) (rules : Option RuleList) (rewrite : List RewriteRule) (plan : Plan)
    → rules_given none_refused settings.routing.destinations rules_file ≡ Ok rules → rewrite_given rewrite_file ≡ Ok rewrite
    → plan_of settings rewrite rules ≡ Ok plan → plan_from settings rules_file rewrite_file ≡ Ok plan
unfolding plan_from
plan_is settings rules_file rewrite_file rules rewrite plan b c d = rw (b, c, d) refl

-- ---- a file that is given

IsSomething : {A : Type 0} → Option A → Type 0
IsSomething None = ⊥
IsSomething (Some x) = ⊤

none_is_some : {A : Type 0} (x : A) → None ≡ Some x → ⊥
unfolding IsSomething
none_is_some x is = subst IsSomething (sym is) tt

module _ {S : Type 0} (known : S → Option (List ℕ)) where
  pub is_read_given : (given : Option S) (source : S) (file : File) → given ≡ Some source → IsReadOf (known source) file → IsReadOfGiven known given (Some file)
  is_read_given (Some other) source file is read =
      let same : other ≡ source = cc in
      subst (λ (s : S). IsReadOf (known s) file) (sym same) read
  is_read_given None source file is read = absurd (none_is_some source is)

  -- a file that nobody opened counts as one that could not be read
  pub unopened : (given : Option S) → GivenReadAs known given (λ file. ⊤)
  unopened None = (None, tt, tt)
  unopened (Some source) = (Some Unreadable, tt, tt)

  -- a fault of the configuration file, after which no other file was opened
  pub config_at_fault : (old new : Sources S) (fault : RelayFault) → ReadAs (known old.config) (λ file. Fails (settings_in file) fault)
      → new.rules ≡ old.rules → new.rewrite ≡ old.rewrite → AllReadAs known old (λ files. EndsAt old new files fault)
  config_at_fault old new fault config rules rewrite =
      let a = unopened old.rules in
      let b = unopened old.rewrite in (
        record { config = config.0; rules = a.0; rewrite = b.0 },
        record { config = config.1; rules = a.1; rewrite = b.1 },
        AtConfig config.2 rules rewrite,
      )

  -- what holds for what was read from each of the other sources holds for what was read from all of them
  others_read : (sources : Sources S) (settings : SettingValues) (Q R : Option File → Type 0) (P : Files → Type 0)
      → GivenReadAs known sources.rules Q → GivenReadAs known sources.rewrite R
      → ((config : File) (rules rewrite : Option File) → settings_in config ≡ Ok settings → Q rules → R rewrite → P (record { config = config; rules = rules; rewrite = rewrite }))
      → OtherFilesReadAs known sources settings P
  others_read sources settings Q R P rules rewrite holds config is =
      (rules.0, rules.1, (rewrite.0, rewrite.1, holds config rules.0 rewrite.0 is rules.2 rewrite.2))

  pub others_end : (old new : Sources S) (settings : SettingValues) (fault : RelayFault) (Q R : Option File → Type 0)
      → GivenReadAs known old.rules Q → GivenReadAs known old.rewrite R
      → ((config : File) (rules rewrite : Option File) → settings_in config ≡ Ok settings → Q rules → R rewrite
      → EndsAt old new (record { config = config; rules = rules; rewrite = rewrite }) fault)
      → OtherFilesReadAs known old settings (λ files. EndsAt old new files fault)
  others_end old new settings fault Q R rules rewrite ends = others_read old settings Q R (λ files. EndsAt old new files fault) rules rewrite ends

  pub others_say : (sources : Sources S) (settings : SettingValues) (rules : Option RuleList) (rewrite : List RewriteRule) (plan : Plan) (rules_read rewrite_read : Option File)
      → GivenReadAs known sources.rules (λ file. (rules_given none_refused settings.routing.destinations file ≡ Ok rules) × (file ≡ rules_read))
      → GivenReadAs known sources.rewrite (λ file. (rewrite_given file ≡ Ok rewrite) × (file ≡ rewrite_read)) → plan_of settings rewrite rules ≡ Ok plan
      → OtherFilesReadAs known sources settings (λ files. configuration_of files
      ≡ Ok (record { settings = settings; plan = plan; files = record { config = files.config; rules = rules_read; rewrite = rewrite_read } }))
  others_say sources settings rules rewrite plan rules_read rewrite_read a b made =
      others_read sources settings _ _
      (λ files. configuration_of files ≡ Ok (record { settings = settings; plan = plan; files = record { config = files.config; rules = rules_read; rewrite = rewrite_read } })) a b
      (λ config_file rules_file rewrite_file config given rewritten.
      configuration_is (record { config = config_file; rules = rules_file; rewrite = rewrite_file }) settings rules rewrite plan config given.0 rewritten.0 made
      ∙ said settings plan (record { config = config_file; rules = rules_file; rewrite = rewrite_file }) (record { config = config_file; rules = rules_read; rewrite = rewrite_read })
      refl given.1 rewritten.1)

  -- the same for the configuration file and the others
  pub all_say : (sources : Sources S) (settings : SettingValues) (plan : Plan) (bytes : List ℕ) (rules_read rewrite_read : Option File)
      → ReadAs (known sources.config) (λ file. (settings_in file ≡ Ok settings) × (file ≡ Bytes bytes))
      → OtherFilesReadAs known sources settings (λ files. configuration_of files
      ≡ Ok (record { settings = settings; plan = plan; files = record { config = files.config; rules = rules_read; rewrite = rewrite_read } }))
      → AllReadAs known sources (λ files. configuration_of files
      ≡ Ok (record { settings = settings; plan = plan; files = record { config = Bytes bytes; rules = rules_read; rewrite = rewrite_read } }))
  all_say sources settings plan bytes rules_read rewrite_read config others =
      let rest = others config.0 config.2.0 in (
        record { config = config.0; rules = rest.0; rewrite = rest.2.0 },
        record { config = config.1; rules = rest.1; rewrite = rest.2.1 },
        rest.2.2 ∙ said settings plan (record { config = config.0; rules = rules_read; rewrite = rewrite_read })
            (record { config = Bytes bytes; rules = rules_read; rewrite = rewrite_read }) config.2.1 refl refl,
      )

  pub all_end : (config read : S) (rules rewrite : Option S) (new : Sources S) (settings : SettingValues) (bytes : List ℕ) (fault : RelayFault)
      → ReadAs (known config) (λ file. (settings_in file ≡ Ok settings) × (file ≡ Bytes bytes))
      → OtherFilesReadAs known (record { config = read; rules = rules; rewrite = rewrite }) settings
      (λ files. EndsAt (record { config = read; rules = rules; rewrite = rewrite }) new files fault)
      → AllReadAs known (record { config = config; rules = rules; rewrite = rewrite })
      (λ files. EndsAt (record { config = config; rules = rules; rewrite = rewrite }) new files fault)
  all_end config read rules rewrite new settings bytes fault first others =
      let rest = others first.0 first.2.0 in (
        record { config = first.0; rules = rest.0; rewrite = rest.2.0 },
        record { config = first.1; rules = rest.1; rewrite = rest.2.1 },
        same_end _ _ new _ fault refl refl rest.2.2,
      )

  module _ (given : Option S) (source : S) (is : given ≡ Some source) where
    pub rules_cannot_read : (dests : List Destination) (fault : RelayFault) → (fault ≡ NoMemory) ⊎ (fault ≡ CannotRead Rules)
        → GivenReadAs known given (λ file. FailsRulesGiven dests file fault)
    rules_cannot_read dests fault fails = (Some Unreadable, is_read_given given source Unreadable is tt, (Unreadable, refl, rules_unread dests fault fails))

    pub rules_at_fault : (dests : List Destination) (fault : RelayFault) (file : File) → IsReadOf (known source) file → FailsRules dests file fault
        → GivenReadAs known given (λ file. FailsRulesGiven dests file fault)
    rules_at_fault dests fault file read fails = (Some file, is_read_given given source file is read, (file, refl, fails))

    pub rewrite_cannot_read : (fault : RelayFault) → (fault ≡ NoMemory) ⊎ (fault ≡ CannotRead Rewrite) → GivenReadAs known given (λ file. FailsRewriteGiven file fault)
    rewrite_cannot_read fault fails = (Some Unreadable, is_read_given given source Unreadable is tt, (Unreadable, refl, rewrite_unread fault fails))

    pub rewrite_at_fault : (fault : RelayFault) (file : File) → IsReadOf (known source) file → FailsRewrite file fault → GivenReadAs known given (λ file. FailsRewriteGiven file fault)
    rewrite_at_fault fault file read fails = (Some file, is_read_given given source file is read, (file, refl, fails))
