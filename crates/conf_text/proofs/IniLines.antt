-- What a line does to the sections before it.
use Rattle.std.proofs.Common.{◌≡◌, ℕ, zero, suc, ◌==◌, ◌+◌, ◌-◌, Bool, true, false, List, [], ◌∷◌, ◌++◌, map, set, length, get_or, Some, Ok, Err, refl, ap, ◌∙◌, subst, arith}
use Rattle.std.specs.List.{slice_get}
use Rattle.std.proofs.lemmas.Bool.Decides.{nat_tests}
use Rattle.std.proofs.lemmas.Option.{slice_get_read}
use Rattle.conf_text.specs.declared.ini.IniFault.TheVariants.{DuplicateSection}
use Rattle.conf_text.specs.Sections.{Pair, SectionText, has_key, has_section}
use Rattle.conf_text.specs.Lines.{Header, Setting}
use Rattle.conf_text.specs.IniSteps.{with_pair, line_gives}

pub header_again : (before : List SectionText) (number : ℕ) (name : List ℕ) → has_section name before ≡ true → line_gives before number (Header (Some name)) ≡ Err (DuplicateSection number)
header_again before number name h = rw h refl

pub new_header : (before : List SectionText) (number : ℕ) (name : List ℕ) → has_section name before ≡ false → line_gives before number (Header (Some name)) ≡ Ok (before ++ record { name = name; pairs = [] } ∷ [])
new_header before number name h = rw h refl

-- a section with one pair more
abbrev pub grown : SectionText → Pair → SectionText
grown s pair = record s { pairs = s.pairs ++ pair ∷ [] }

set_last : (sections : List SectionText) (n : ℕ) (s : SectionText) (pair : Pair) → n + 1 ≡ length sections → s ≡ get_or sections n s → set sections n (grown s pair) ≡ with_pair sections pair
set_last [] n s pair e at = absurd (omega arith)
set_last (t ∷ []) zero s pair e at = ap (λ (u : SectionText). grown u pair ∷ []) at
set_last (t ∷ []) (suc n) s pair e at = absurd (omega arith)
set_last (t ∷ u ∷ sections) zero s pair e at = absurd (omega arith)
set_last (t ∷ u ∷ sections) (suc n) s pair e at = ap (λ (us : List SectionText). t ∷ us) (set_last (u ∷ sections) n s pair (omega arith) at)

last_is : (sections : List SectionText) (n : ℕ) (s : SectionText) → n + 1 ≡ length sections → s ≡ get_or sections n s → slice_get sections (length sections - 1) ≡ Some s
last_is sections n s e at =
    let here : n ≡ length sections - 1 = omega arith in
    subst (λ k. slice_get sections k ≡ Some s) here (slice_get_read sections (length sections) n s refl (omega arith) at)

pub new_key : (sections : List SectionText) (number n : ℕ) (s : SectionText) (pair : Pair) → n + 1 ≡ length sections → s ≡ get_or sections n s → has_key pair.key s.pairs ≡ false
    → line_gives sections number (Setting (Some pair)) ≡ Ok (set sections n (grown s pair))
new_key sections number n s pair e at h = rw (last_is sections n s e at, h, set_last sections n s pair e at) refl

pub names_stay : (sections : List SectionText) (n : ℕ) (s t : SectionText) → s ≡ get_or sections n s → t.name ≡ s.name → map (λ u. u.name) (set sections n t) ≡ map (λ u. u.name) sections
names_stay [] n s t at same = refl
names_stay (u ∷ sections) zero s t at same = ap (λ (n : List ℕ). n ∷ map (λ v. v.name) sections) (same ∙ ap (λ (v : SectionText). v.name) at)
names_stay (u ∷ sections) (suc n) s t at same = ap (λ (ns : List (List ℕ)). u.name ∷ ns) (names_stay sections n s t at same)

-- the place before the last, in a list that is not empty
pub place_of_last : (len count n : ℕ) (empty : Bool) → empty ≡ (len == 0) → empty ≡ false → count ≡ len → len ≡ n → count - 1 + 1 ≡ n
place_of_last len count n empty e filled c l = grind (arith, nat_tests)
