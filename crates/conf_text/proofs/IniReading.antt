-- Reading the lines of a configuration file one after the other.
use Rattle.std.proofs.Common.{◌≡◌, ℕ, ◌+◌, ◌≤◌, List, [], ◌∷◌, ◌++◌, take, drop, length, Option, Some, None, Ok, Err, refl, sym, ap, ◌∙◌, arith, inl, inr}
use Rattle.std.proofs.lemmas.List.{append-nil, take_all, drop_all, length-take-le}
use Rattle.conf_text.specs.declared.ini.IniFault.{IniFault}
use Rattle.conf_text.specs.declared.ini.IniFault.TheVariants.{NoMemory}
use Rattle.conf_text.specs.Sections.{Pair, SectionText}
use Rattle.conf_text.specs.Lines.{Meaning, Skipped, Header, Setting}
use Rattle.conf_text.specs.IniText.{own_pairs, sections_of, line_fault, first_fault, or_else, sections_unless}
use Rattle.conf_text.specs.IniSteps.{with_pair, after_line, line_gives}
use Rattle.relay_base.specs.Memory.{Fails}
use Rattle.relay_base.proofs.Turns.{IsTurn, lines_up_to, lines_from}

-- ---- the sections of one line more

pairs_skip : (lines : List Meaning) (line : Meaning) → own_pairs (line ∷ []) ≡ [] → own_pairs (lines ++ line ∷ []) ≡ own_pairs lines
pairs_skip [] line e = e
pairs_skip (Skipped ∷ lines) line e = pairs_skip lines line e
pairs_skip (Header None ∷ lines) line e = pairs_skip lines line e
pairs_skip (Header (Some name) ∷ lines) line e = refl
pairs_skip (Setting None ∷ lines) line e = pairs_skip lines line e
pairs_skip (Setting (Some pair) ∷ lines) line e = ap (λ (ps : List Pair). pair ∷ ps) (pairs_skip lines line e)

sections_skip : (lines : List Meaning) (line : Meaning) → own_pairs (line ∷ []) ≡ [] → sections_of (lines ++ line ∷ []) ≡ sections_of lines ++ sections_of (line ∷ [])
sections_skip [] line e = refl
sections_skip (Skipped ∷ lines) line e = sections_skip lines line e
sections_skip (Header None ∷ lines) line e = sections_skip lines line e
sections_skip (Header (Some name) ∷ lines) line e = λ i. record { name = name; pairs = pairs_skip lines line e i } ∷ sections_skip lines line e i
sections_skip (Setting pair ∷ lines) line e = sections_skip lines line e

-- the pairs of the section before, if no section follows
pairs_more : (lines : List Meaning) (pair : Pair) → sections_of lines ≡ [] → own_pairs (lines ++ Setting (Some pair) ∷ []) ≡ own_pairs lines ++ pair ∷ []
pairs_more [] pair e = refl
pairs_more (Skipped ∷ lines) pair e = pairs_more lines pair e
pairs_more (Header None ∷ lines) pair e = pairs_more lines pair e
pairs_more (Header (Some name) ∷ lines) pair e = absurd cc
pairs_more (Setting None ∷ lines) pair e = pairs_more lines pair e
pairs_more (Setting (Some p) ∷ lines) pair e = ap (λ (ps : List Pair). p ∷ ps) (pairs_more lines pair e)

-- if a section follows, they stay
pairs_stay : (lines : List Meaning) (pair : Pair) (s : SectionText) (ss : List SectionText) → sections_of lines ≡ s ∷ ss → own_pairs (lines ++ Setting (Some pair) ∷ []) ≡ own_pairs lines
pairs_stay [] pair s ss e = absurd cc
pairs_stay (Skipped ∷ lines) pair s ss e = pairs_stay lines pair s ss e
pairs_stay (Header None ∷ lines) pair s ss e = pairs_stay lines pair s ss e
pairs_stay (Header (Some name) ∷ lines) pair s ss e = refl
pairs_stay (Setting None ∷ lines) pair s ss e = pairs_stay lines pair s ss e
pairs_stay (Setting (Some p) ∷ lines) pair s ss e = ap (λ (ps : List Pair). p ∷ ps) (pairs_stay lines pair s ss e)

sections_more : (lines : List Meaning) (pair : Pair) → sections_of (lines ++ Setting (Some pair) ∷ []) ≡ with_pair (sections_of lines) pair
sections_more [] pair = refl
sections_more (Skipped ∷ lines) pair = sections_more lines pair
sections_more (Header None ∷ lines) pair = sections_more lines pair
sections_more (Header (Some name) ∷ lines) pair =
    let first : List Pair → SectionText = λ ps. record { name = name; pairs = ps } in
    let P : List SectionText → Type 0 = λ rest. sections_of lines ≡ rest → first (own_pairs (lines ++ Setting (Some pair) ∷ [])) ∷ with_pair rest pair ≡ with_pair (first (own_pairs lines) ∷ rest) pair in
    let last : P [] = λ e. ap (λ (ps : List Pair). first ps ∷ []) (pairs_more lines pair e) in
    let inner : (s : SectionText) (ss : List SectionText) → P (s ∷ ss) = λ s ss e. ap (λ (ps : List Pair). first ps ∷ with_pair (s ∷ ss) pair) (pairs_stay lines pair s ss e) in
    ap (λ (rest : List SectionText). first (own_pairs (lines ++ Setting (Some pair) ∷ [])) ∷ rest) (sections_more lines pair)
    ∙ (elim (sections_of lines) as P [ [] ↦ last | s ∷ ss ↦ inner s ss ]) refl
sections_more (Setting p ∷ lines) pair = sections_more lines pair

pub sections_push : (lines : List Meaning) (line : Meaning) → sections_of (lines ++ line ∷ []) ≡ after_line (sections_of lines) line
sections_push lines Skipped = sections_skip lines Skipped refl ∙ append-nil (sections_of lines)
sections_push lines (Header None) = sections_skip lines (Header None) refl ∙ append-nil (sections_of lines)
sections_push lines (Header (Some name)) = sections_skip lines (Header (Some name)) refl
sections_push lines (Setting None) = sections_skip lines (Setting None) refl ∙ append-nil (sections_of lines)
sections_push lines (Setting (Some pair)) = sections_more lines pair

-- ---- one turn

-- the sections so far, and the result for them and the rest
pub record IsRead (lines : List Meaning) (n : ℕ) (sections : List SectionText) : Type 0 where
  pub sections_are : sections ≡ sections_of (take n lines)
  pub same_fault : first_fault (take n lines) (drop n lines) ≡ first_fault [] lines

pub none_read : (lines : List Meaning) → IsRead lines 0 []
none_read lines = record { sections_are = refl; same_fault = refl }

fault_of_ok : (o : Option IniFault) (after : List SectionText) (new : List SectionText) → sections_unless o after ≡ Ok new → (o ≡ None) × (after ≡ new)
fault_of_ok None after new e = (refl, cc)
fault_of_ok (Some f) after new e = absurd cc

fault_of_err : (o : Option IniFault) (after : List SectionText) (f : IniFault) → sections_unless o after ≡ Err f → o ≡ Some f
fault_of_err None after f e = absurd cc
fault_of_err (Some g) after f e = cc

faults_from : (lines : List Meaning) (n : ℕ) (line : Meaning) → IsTurn lines n line → first_fault (take n lines) (drop n lines) ≡ or_else (line_fault (sections_of (take n lines)) (n + 1) line) (first_fault (take n lines ++ line ∷ []) (drop (n + 1) lines))
faults_from lines n line turn =
    ap (first_fault (take n lines)) (lines_from lines n line turn)
    ∙ ap (λ (k : ℕ). or_else (line_fault (sections_of (take n lines)) (k + 1) line) (first_fault (take n lines ++ line ∷ []) (drop (n + 1) lines))) (length-take-le n lines (omega (arith, turn.within)))

pub one_more : (lines : List Meaning) (n : ℕ) (line : Meaning) (old new : List SectionText) → IsTurn lines n line → IsRead lines n old → line_gives old (n + 1) line ≡ Ok new → IsRead lines (n + 1) new
one_more lines n line old new turn read e =
    let here : line_gives (sections_of (take n lines)) (n + 1) line ≡ Ok new = ap (λ (s : List SectionText). line_gives s (n + 1) line) (sym read.sections_are) ∙ e in
    let fine = fault_of_ok (line_fault (sections_of (take n lines)) (n + 1) line) (after_line (sections_of (take n lines)) line) new here in
    let t = lines_up_to lines n line turn in
    record {
      sections_are = sym fine.1 ∙ sym (sections_push (take n lines) line) ∙ ap sections_of (sym t);
      same_fault = ap (λ (ls : List Meaning). first_fault ls (drop (n + 1) lines)) t
          ∙ ap (λ (o : Option IniFault). or_else o (first_fault (take n lines ++ line ∷ []) (drop (n + 1) lines))) (sym fine.0)
          ∙ sym (faults_from lines n line turn) ∙ read.same_fault;
    }

first_at : (lines : List Meaning) (n : ℕ) (line : Meaning) (old : List SectionText) (f : IniFault) → IsTurn lines n line → IsRead lines n old → line_gives old (n + 1) line ≡ Err f → first_fault [] lines ≡ Some f
first_at lines n line old f turn read e =
    let here : line_gives (sections_of (take n lines)) (n + 1) line ≡ Err f = ap (λ (s : List SectionText). line_gives s (n + 1) line) (sym read.sections_are) ∙ e in
    let reported = fault_of_err (line_fault (sections_of (take n lines)) (n + 1) line) (after_line (sections_of (take n lines)) line) f here in
    sym read.same_fault ∙ faults_from lines n line turn ∙ ap (λ (o : Option IniFault). or_else o (first_fault (take n lines ++ line ∷ []) (drop (n + 1) lines))) reported

reported_at : (lines : List Meaning) (n : ℕ) (line : Meaning) (old : List SectionText) (f : IniFault) → IsTurn lines n line → IsRead lines n old → line_gives old (n + 1) line ≡ Err f → sections_unless (first_fault [] lines) (sections_of lines) ≡ Err f
reported_at lines n line old f turn read e = ap (λ (o : Option IniFault). sections_unless o (sections_of lines)) (first_at lines n line old f turn read e)

pub fails : (e : IniFault) (lines : List Meaning) (n : ℕ) (line : Meaning) (old : List SectionText) → IsTurn lines n line → IsRead lines n old → Fails NoMemory (line_gives old (n + 1) line) e
    → Fails NoMemory (sections_unless (first_fault [] lines) (sections_of lines)) e
fails e lines n line old turn read (inl memory) = inl memory
fails e lines n line old turn read (inr fault) = inr (reported_at lines n line old e turn read fault)

pub all_read : (lines : List Meaning) (n : ℕ) (sections : List SectionText) → length lines ≤ n → IsRead lines n sections → sections_unless (first_fault [] lines) (sections_of lines) ≡ Ok sections
all_read lines n sections le read =
    let whole = take_all n lines le in
    let clean : first_fault [] lines ≡ None = sym read.same_fault ∙ ap (first_fault (take n lines)) (drop_all n lines le) in
    ap (λ (o : Option IniFault). sections_unless o (sections_of lines)) clean ∙ ap (λ (ss : List SectionText). Ok ss) (sym (read.sections_are ∙ ap sections_of whole))
