-- The sections of a text without a fault have distinct names and keys.
use Rattle.std.proofs.Common.{◌≡◌, ℕ, zero, suc, ◌+◌, ◌-◌, ◌||◌, Bool, true, false, cond, List, [], ◌∷◌, ◌++◌, map, length, Option, Some, None, Ok, refl, sym, ap, ◌∙◌, subst, append_assoc, arith}
use Rattle.std.proofs.lemmas.Cmp.{nat_list_eq_equiv}
use Rattle.std.specs.List.{AllByRecursion, IsDistinct, list_any, slice_get}
use Rattle.std.specs.Str.{bytes_eq}
use Rattle.std.proofs.lemmas.List.{append-nil, map_push}
use Rattle.std.proofs.lemmas.Map.Keys.{IsDistinct-push}
use Rattle.conf_text.specs.declared.ini.IniFault.{IniFault}
use Rattle.conf_text.specs.declared.ini.IniFault.TheVariants.{DuplicateSection, DuplicateKey}
use Rattle.conf_text.specs.Sections.{Pair, SectionText, has_key, has_section}
use Rattle.conf_text.specs.Lines.{Meaning, Skipped, Header, Setting}
use Rattle.conf_text.specs.IniText.{sections_of, setting_fault, line_fault, first_fault, or_else, sections_unless, meanings_of, ini_of}
use Rattle.conf_text.specs.IniSteps.{with_pair, after_line}
use Rattle.conf_text.specs.Laws.{HasDistinctNames}
use Rattle.conf_text.proofs.IniReading.{sections_push}

abbrev name : SectionText → List ℕ
name s = s.name

abbrev key : Pair → List ℕ
key p = p.key

abbrev HasDistinctKeys : SectionText → Type 0
HasDistinctKeys s = IsDistinct bytes_eq (map key s.pairs)

any-map : {A : Type 0} (f : A → List ℕ) (q : List ℕ) (xs : List A) → list_any (bytes_eq q) (map f xs) ≡ list_any (λ x. bytes_eq q (f x)) xs
any-map f q [] = refl
any-map f q (x ∷ xs) = ap (λ (b : Bool). bytes_eq q (f x) || b) (any-map f q xs)

distinct-push : {A : Type 0} (f : A → List ℕ) (xs : List A) (x : A) → IsDistinct bytes_eq (map f xs) → list_any (λ y. bytes_eq (f x) (f y)) xs ≡ false → IsDistinct bytes_eq (map f (xs ++ x ∷ []))
distinct-push f xs x d e = subst (IsDistinct bytes_eq) (sym (map_push f xs x)) (IsDistinct-push nat_list_eq_equiv (map f xs) (f x) d (any-map f (f x) xs ∙ e))

all-push : (sections : List SectionText) (s : SectionText) → AllByRecursion HasDistinctKeys sections → HasDistinctKeys s → AllByRecursion HasDistinctKeys (sections ++ s ∷ [])
all-push [] s all h = (h, tt)
all-push (t ∷ sections) s all h = (all.0, all-push sections s all.1 h)

not_reported : (b : Bool) (f : IniFault) → cond b (Some f) None ≡ None → b ≡ false
not_reported true f e = absurd cc
not_reported false f e = refl

names-with_pair : (sections : List SectionText) (pair : Pair) → map name (with_pair sections pair) ≡ map name sections
names-with_pair [] pair = refl
names-with_pair (s ∷ []) pair = refl
names-with_pair (s ∷ t ∷ sections) pair = ap (λ (ns : List (List ℕ)). s.name ∷ ns) (names-with_pair (t ∷ sections) pair)

keys-with_pair : (sections : List SectionText) (n number : ℕ) (pair : Pair) → n + 1 ≡ length sections → setting_fault (slice_get sections n) number (Some pair) ≡ None → AllByRecursion HasDistinctKeys sections → AllByRecursion HasDistinctKeys (with_pair sections pair)
keys-with_pair [] n number pair e clean all = tt
keys-with_pair (s ∷ []) zero number pair e clean all = (distinct-push key s.pairs pair all.0 (not_reported (has_key pair.key s.pairs) (DuplicateKey number) clean), tt)
keys-with_pair (s ∷ []) (suc n) number pair e clean all = absurd (omega arith)
keys-with_pair (s ∷ t ∷ sections) zero number pair e clean all = absurd (omega arith)
keys-with_pair (s ∷ t ∷ sections) (suc n) number pair e clean all = (all.0, keys-with_pair (t ∷ sections) n number pair (omega arith) clean all.1)

keys-more : (sections : List SectionText) (number : ℕ) (pair : Pair) → setting_fault (slice_get sections (length sections - 1)) number (Some pair) ≡ None → AllByRecursion HasDistinctKeys sections → AllByRecursion HasDistinctKeys (with_pair sections pair)
keys-more [] number pair clean all = tt
keys-more (s ∷ sections) number pair clean all = keys-with_pair (s ∷ sections) (length (s ∷ sections) - 1) number pair (omega arith) clean all

step : (before : List SectionText) (number : ℕ) (line : Meaning) → line_fault before number line ≡ None → HasDistinctNames before → HasDistinctNames (after_line before line)
unfolding IsDistinct
step before number Skipped clean d = d
step before number (Header None) clean d = d
step before number (Header (Some n)) clean d =
    let s : SectionText = record { name = n; pairs = [] } in
    record { names = distinct-push name before s d.names (not_reported (has_section n before) (DuplicateSection number) clean); keys = all-push before s d.keys tt }
step before number (Setting None) clean d = d
step before number (Setting (Some pair)) clean d =
    record { names = subst (IsDistinct bytes_eq) (sym (names-with_pair before pair)) d.names; keys = keys-more before number pair clean d.keys }

both_none : (a b : Option IniFault) → or_else a b ≡ None → (a ≡ None) × (b ≡ None)
both_none None b e = (refl, e)
both_none (Some f) b e = absurd cc

through : (before rest : List Meaning) → first_fault before rest ≡ None → HasDistinctNames (sections_of before) → HasDistinctNames (sections_of (before ++ rest))
through before [] clean d = subst (λ (ls : List Meaning). HasDistinctNames (sections_of ls)) (sym (append-nil before)) d
through before (line ∷ rest) clean d =
    let parts = both_none (line_fault (sections_of before) (length before + 1) line) (first_fault (before ++ line ∷ []) rest) clean in
    let here = subst HasDistinctNames (sym (sections_push before line)) (step (sections_of before) (length before + 1) line parts.0 d) in
    subst (λ (ls : List Meaning). HasDistinctNames (sections_of ls)) (append_assoc before (line ∷ []) rest) (through (before ++ line ∷ []) rest parts.1 here)

accepted : (o : Option IniFault) (s t : List SectionText) → sections_unless o s ≡ Ok t → (o ≡ None) × (s ≡ t)
accepted None s t e = (refl, cc)
accepted (Some f) s t e = absurd cc

pub names_are_distinct : (text : List ℕ) (sections : List SectionText) → ini_of text ≡ Ok sections → HasDistinctNames sections
unfolding ini_of IsDistinct
names_are_distinct text sections e =
    let lines = meanings_of text in
    let a = accepted (first_fault [] lines) (sections_of lines) sections e in
    subst HasDistinctNames a.1 (through [] lines a.0 (record { names = tt; keys = tt }))
