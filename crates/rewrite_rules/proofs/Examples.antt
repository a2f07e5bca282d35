-- The examples of docs/REWRITING.md, computed from the definitions.
use Rattle.std.proofs.Common.{◌≡◌, ℕ, [], ◌∷◌, None, Some, Ok, Err, codes, refl}
use Rattle.std.specs.Str.{chars}
use Rattle.regex.specs.Patterns.{find_str, slot_of}
use Rattle.regex.specs.Replace.{replaced_by}
use Rattle.regex.proofs.OnLiterals.{regex_on_literals}
use Rattle.regex_hir.specs.Find.{first_from, matches_from}
use Rattle.regex_hir.specs.Looks.{holds, holds_between}
use Rattle.regex_hir.specs.Re.{attempt, rounds}
use Rattle.regex_hir.specs.Text.{is_boundary, has_bytes_at, byte_before}
use Rattle.rewrite_rules.specs.declared.fault.RewriteReadFault.TheVariants.{NoSection, NoEquals, BadPattern, BadReplacement}
use Rattle.rewrite_rules.specs.declared.line.Section.TheVariants.{Post}
use Rattle.patterns.specs.declared.part.Part.TheVariants.{Character, Group}
use Rattle.patterns.specs.Pattern.{pattern_in, matches_of}
use Rattle.rewrite_rules.specs.File.{rewrite_rules_of}
use Rattle.rewrite_rules.specs.Line.{Header, Rule, meaning_of}
use Rattle.rewrite_rules.specs.Replacement.{replacement_of}
use Rattle.rewrite_rules.specs.Rule.{RewriteRule, text_after, text_after_all}

-- ---- lines

header_in_any_case : meaning_of (codes " [pOsT]\t") ≡ Header (Some Post)
unfolding meaning_of
header_in_any_case = refl

strange_header : meaning_of (codes "[ pre ]") ≡ Header None
unfolding meaning_of
strange_header = refl

rule_line : meaning_of (codes " a = b=c ") ≡ Rule (Some (record { pattern = codes "a"; replacement = codes "b=c" }))
unfolding meaning_of
rule_line = refl

open_header : meaning_of (codes "[pre") ≡ Rule None
unfolding meaning_of
open_header = refl

-- ---- replacements

dollar : replacement_of 2 (codes "$1\\1") ≡ Some (Character 36 ∷ Character 49 ∷ Group 1 ∷ [])
unfolding replacement_of chars
dollar = refl

backslash : replacement_of 1 (codes "\\\\y") ≡ Some (Character 92 ∷ Character 121 ∷ [])
unfolding replacement_of chars
backslash = refl

lacking_group : replacement_of 2 (codes "\\2") ≡ None
unfolding replacement_of chars
lacking_group = refl

two_digits : replacement_of 11 (codes "\\10") ≡ None
unfolding replacement_of chars
two_digits = refl

space : replacement_of 1 (codes "b c") ≡ None
unfolding replacement_of chars
space = refl

-- ---- files

no_equals : rewrite_rules_of (codes "[pre]\na") ≡ Err (NoEquals 2)
unfolding rewrite_rules_of meaning_of
no_equals = refl

no_section : rewrite_rules_of (codes "[mid]") ≡ Err (NoSection 1)
unfolding rewrite_rules_of meaning_of
no_section = refl

bad_pattern : rewrite_rules_of (codes "[pre]\n( = x") ≡ Err (BadPattern 2)
unfolding rewrite_rules_of meaning_of pattern_in replacement_of chars regex_on_literals
bad_pattern = refl

bad_replacement : rewrite_rules_of (codes "[pre]\n(a) = \\2") ≡ Err (BadReplacement 2)
unfolding rewrite_rules_of meaning_of pattern_in replacement_of chars regex_on_literals
bad_replacement = refl

letter : ℕ → ℕ → RewriteRule
letter from to = record { pattern = from ∷ []; replacement = Character to ∷ [] }

pre_before_post : rewrite_rules_of (codes "[post]\nb = c\n[pre]\na = b") ≡ Ok (letter 97 98 ∷ letter 98 99 ∷ [])
unfolding rewrite_rules_of meaning_of pattern_in replacement_of chars regex_on_literals letter
pre_before_post = refl

-- ---- names

-- what computes a search
unfoldable searches : Unit {0}
unfolding pattern_in matches_of regex_on_literals find_str first_from matches_from attempt rounds replaced_by slot_of is_boundary has_bytes_at byte_before holds holds_between
searches = tt

every_match : text_after (record { pattern = codes "a"; replacement = Character 98 ∷ Character 98 ∷ [] }) (codes "aXa") ≡ codes "bbXbb"
unfolding searches
every_match = refl

first_group : text_after (record { pattern = codes "(a)"; replacement = Character 36 ∷ Character 49 ∷ Group 1 ∷ [] }) (codes "a") ≡ codes "$1a"
unfolding searches
first_group = refl

idle_group : text_after (record { pattern = codes "(a)|(b)"; replacement = Character 60 ∷ Group 1 ∷ Group 2 ∷ Character 62 ∷ [] }) (codes "ab") ≡ codes "<a><b>"
unfolding searches
idle_group = refl

empty_pattern : text_after (record { pattern = []; replacement = Character 45 ∷ [] }) (codes "ab") ≡ codes "-a-b-"
unfolding searches
empty_pattern = refl

empty_beside_another : text_after (record { pattern = codes "b*"; replacement = Character 45 ∷ [] }) (codes "abc") ≡ codes "-a-c-"
unfolding searches
empty_beside_another = refl

in_turn : text_after_all (letter 97 98 ∷ letter 98 99 ∷ []) (codes "a") ≡ codes "c"
unfolding searches letter
in_turn = refl

mended : text_after_all (record { pattern = codes "^x$"; replacement = [] } ∷ record { pattern = codes "^$"; replacement = Character 121 ∷ [] } ∷ []) (codes "x") ≡ codes "y"
unfolding searches
mended = refl
