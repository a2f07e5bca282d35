-- Relay rules.
use Rattle.std.specs.Prelude.{ℕ, Bool, ◌&&◌, List}
use Rattle.std.specs.List.{list_all}
use Rattle.relay_base.specs.DestIds.{are_below}
use Rattle.relay_base.specs.declared.dest_id.DestId.{DestId}
use Rattle.patterns.specs.declared.case.Case.TheVariants.{Ignored}
use Rattle.patterns.specs.Pattern.{PatternText}

-- where names go if a pattern is found in them, and whether the rules after it are tried too
pub record RelayRule : Type 0 where
  pub pattern : List ℕ
  pub destinations : List DestId
  pub continues : Bool

-- its pattern, without regard to case
abbrev pub pattern_of : RelayRule → PatternText
pattern_of rule = record { text = rule.pattern; case = Ignored }

-- the rules, in the order of the file, and where names go that no rule stops
pub record RuleList : Type 0 where
  pub rules : List RelayRule
  pub default : List DestId

-- the rules and the default rule name indices below this number of destinations
abbrev pub names_below : ℕ → RuleList → Bool
names_below count list =
    list_all (λ rule. are_below count rule.destinations) list.rules && are_below count list.default
