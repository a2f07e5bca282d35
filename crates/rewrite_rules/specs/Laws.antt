-- A law above the definitions.
use Rattle.std.specs.Prelude.{◌≡◌, ℕ, List, [], ◌∷◌, ◌++◌, map, length, slice_range}
use Rattle.regex.specs.Patterns.{Match}
use Rattle.regex.specs.Replace.{group_bytes}
use Rattle.regex.specs.Search.{gaps}
use Rattle.patterns.specs.Pattern.{matches_of}
use Rattle.patterns.specs.Replacement.{replacement_text}
use Rattle.rewrite_rules.specs.Rule.{RewriteRule, pattern_of, text_after}

-- the first text, the first of the others, the second text, the second of the others, and so on
abbrev pub weave : List (List ℕ) → List (List ℕ) → List ℕ
weave [] others = []
weave (text ∷ texts) [] = text ++ weave texts []
weave (text ∷ texts) (other ∷ others) = (text ++ other) ++ weave texts others

-- the pieces of a text before, between and after these matches
abbrev pub pieces_between : List Match → List ℕ → List (List ℕ)
pieces_between matches text = map (λ p. slice_range text p.0 p.1) (gaps (length text) 0 matches)

-- what these matches matched; group 0 is the match
abbrev pub matched_texts : List Match → List ℕ → List (List ℕ)
matched_texts matches text = map (λ m. group_bytes text m 0) matches

-- what a rule writes in the places of these matches
abbrev pub texts_by : RewriteRule → List Match → List ℕ → List (List ℕ)
texts_by rule matches text =
    map (λ m. replacement_text rule.replacement (group_bytes text m)) matches

-- a text is its pieces with what matched, and after the rule the same pieces with what is written
pub record KeepsBetween (rule : RewriteRule) (text : List ℕ) (matches : List Match) : Type 0 where
  pub before : text ≡ weave (pieces_between matches text) (matched_texts matches text)
  pub after :
      text_after rule text ≡ weave (pieces_between matches text) (texts_by rule matches text)

-- a rule keeps the text between its matches
abbrev pub RewritingKeepsBetween : Type 0
RewritingKeepsBetween =
    (rule : RewriteRule) (text : List ℕ)
    → KeepsBetween rule text (matches_of (pattern_of rule) text)
