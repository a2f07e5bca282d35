-- Reading the lines of a rewrite file one after the other.
use Rattle.std.proofs.Common.{◌≡◌, ℕ, ◌+◌, ◌≤◌, List, [], ◌∷◌, ◌++◌, take, drop, length, Option, Some, None, Ok, Err, refl, sym, ap, ap₂, ◌∙◌, subst, arith, append_assoc, append-nil}
use Rattle.std.proofs.lemmas.List.{take_all, length-take-le}
use Rattle.std.proofs.lemmas.List.Concat.{flat_map-append}
use Rattle.std.proofs.lemmas.List.Elements.{filter_map-append}
use Rattle.std.specs.List.{cons_option}
use Rattle.std.specs.Option.{option_or}
use Rattle.relay_base.proofs.Turns.{IsTurn, lines_up_to, lines_around}
use Rattle.rewrite_rules.specs.declared.fault.RewriteReadFault.{RewriteReadFault}
use Rattle.rewrite_rules.specs.declared.fault.RewriteReadFault.TheVariants.{NoSection, NoEquals, BadPattern, BadReplacement, NoMemory}
use Rattle.rewrite_rules.specs.declared.line.Section.{Section}
use Rattle.rewrite_rules.specs.declared.line.Section.TheVariants.{Pre, Post}
use Rattle.rewrite_rules.specs.Faults.{IsLineFault, IsFileFault, RefusesPattern, RefusesPatternAt}
use Rattle.rewrite_rules.specs.File.{section_begun, last_section, NumberedLine, line_after, lines_after, numbered_lines, fault_at, fault_of, faults, rules_at, rules_in, rules_of, rules_unless, reading_of}
use Rattle.rewrite_rules.specs.Line.{Meaning}
use Rattle.rewrite_rules.specs.Rule.{RewriteRule}

-- ---- lines after others

lines_after-append : (before xs ys : List Meaning) → lines_after before (xs ++ ys) ≡ lines_after before xs ++ lines_after (before ++ xs) ys
lines_after-append before [] ys = ap (λ (b : List Meaning). lines_after b ys) (sym (append-nil before))
lines_after-append before (x ∷ xs) ys =
    ap (λ (es : List NumberedLine). line_after before x ∷ es) (lines_after-append (before ++ x ∷ []) xs ys
    ∙ ap (λ (b : List Meaning). lines_after (before ++ x ∷ []) xs ++ lines_after b ys) (append_assoc before (x ∷ []) xs))

-- the lines of a file, cut at one of them
numbered_lines-cut : (before : List Meaning) (line : Meaning) (after : List Meaning) →
    numbered_lines (before ++ line ∷ after) ≡ numbered_lines before ++ line_after before line ∷ lines_after (before ++ line ∷ []) after
numbered_lines-cut before line after = lines_after-append [] before (line ∷ after)

option_or-None : {A : Type 0} (o : Option A) → o ≡ option_or o None
option_or-None None = refl
option_or-None (Some x) = refl

option_or-assoc : {A : Type 0} (o p q : Option A) → option_or (option_or o p) q ≡ option_or o (option_or p q)
option_or-assoc None p q = refl
option_or-assoc (Some x) p q = refl

last_section-push : (lines : List Meaning) (line : Meaning) → last_section (lines ++ line ∷ []) ≡ option_or (section_begun line) (last_section lines)
last_section-push [] line = option_or-None (section_begun line)
last_section-push (l ∷ lines) line =
    ap (λ (o : Option Section). option_or o (section_begun l)) (last_section-push lines line)
    ∙ option_or-assoc (section_begun line) (last_section lines) (section_begun l)

-- ---- one turn

-- the section and the rules so far, with no fault before
pub record IsReadUpTo (lines : List Meaning) (n : ℕ) (section : Option Section) (pre post : List RewriteRule) : Type 0 where
  pub section_is : section ≡ last_section (take n lines)
  pub pre_are : pre ≡ rules_in Pre (numbered_lines (take n lines))
  pub post_are : post ≡ rules_in Post (numbered_lines (take n lines))
  pub no_fault : faults (numbered_lines (take n lines)) ≡ []

pub none_read : (lines : List Meaning) → IsReadUpTo lines 0 None [] []
none_read lines = record { section_is = refl; pre_are = refl; post_are = refl; no_fault = refl }

module _ (lines : List Meaning) (n : ℕ) (line : Meaning) (turn : IsTurn lines n line) where
  taken : take (n + 1) lines ≡ take n lines ++ line ∷ []
  taken = lines_up_to lines n line turn

  whole : lines ≡ take n lines ++ line ∷ drop (n + 1) lines
  whole = lines_around lines n line turn

  count : length (take n lines) ≡ n
  count = length-take-le n lines (omega (arith, turn.within))

  module _ (section : Option Section) (pre post : List RewriteRule) (read : IsReadUpTo lines n section pre post) where
    -- the line in its place
    here : NumberedLine
    here = record { number = n + 1; section = section; meaning = line }

    line_is : line_after (take n lines) line ≡ here
    unfolding here
    line_is = ap₂ (λ (k : ℕ) (s : Option Section). record { number = k; section = s; meaning = line }) (ap (λ k. k + 1) count) (sym read.section_is)

    more : numbered_lines (take (n + 1) lines) ≡ numbered_lines (take n lines) ++ here ∷ []
    more = ap numbered_lines taken ∙ numbered_lines-cut (take n lines) line [] ∙ ap (λ (e : NumberedLine). numbered_lines (take n lines) ++ e ∷ []) line_is

    rules_more : (wanted : Section) (rules new : List RewriteRule) → rules ≡ rules_in wanted (numbered_lines (take n lines)) → new ≡ rules ++ rules_at wanted section line →
        new ≡ rules_in wanted (numbered_lines (take (n + 1) lines))
    unfolding here
    rules_more wanted rules new are is =
        is ∙ ap₂ (λ (xs ys : List RewriteRule). xs ++ ys) are (sym (append-nil (rules_at wanted section line)))
        ∙ sym (ap (rules_in wanted) more ∙ flat_map-append _ (numbered_lines (take n lines)) (here ∷ []))

    faults_more : fault_at (n + 1) section line ≡ None → faults (numbered_lines (take (n + 1) lines)) ≡ []
    unfolding here
    faults_more fine =
        ap faults more ∙ filter_map-append fault_of (numbered_lines (take n lines)) (here ∷ []) ∙ ap (λ (fs : List RewriteReadFault). fs ++ faults (here ∷ [])) read.no_fault
        ∙ ap (λ (o : Option RewriteReadFault). cons_option o []) fine

    pub one_more : (new : Option Section) (new_pre new_post : List RewriteRule) → fault_at (n + 1) section line ≡ None →
        new ≡ option_or (section_begun line) section → new_pre ≡ pre ++ rules_at Pre section line → new_post ≡ post ++ rules_at Post section line →
        IsReadUpTo lines (n + 1) new new_pre new_post
    one_more new new_pre new_post fine section_is pre_are post_are = record {
      section_is = section_is ∙ ap (option_or (section_begun line)) read.section_is ∙ sym (ap last_section taken ∙ last_section-push (take n lines) line);
      pre_are = rules_more Pre pre new_pre read.pre_are pre_are;
      post_are = rules_more Post post new_post read.post_are post_are;
      no_fault = faults_more fine;
    }

    reported : (fault : RewriteReadFault) → fault_at (n + 1) section line ≡ Some fault → reading_of lines ≡ Err fault
    unfolding here
    reported fault e =
        let after = lines_after (take n lines ++ line ∷ []) (drop (n + 1) lines) in
        let first : faults (numbered_lines lines) ≡ fault ∷ faults after =
        ap (λ (ls : List Meaning). faults (numbered_lines ls)) whole ∙ ap faults (numbered_lines-cut (take n lines) line (drop (n + 1) lines))
        ∙ filter_map-append fault_of (numbered_lines (take n lines)) (line_after (take n lines) line ∷ after)
        ∙ ap₂ (λ (fs : List RewriteReadFault) (e : NumberedLine). fs ++ faults (e ∷ after)) read.no_fault line_is
        ∙ ap (λ (o : Option RewriteReadFault). cons_option o (faults after)) e in
        ap (λ (fs : List RewriteReadFault). rules_unless fs (rules_of (numbered_lines lines))) first

    refused_at : (number : ℕ) → number ≡ n + 1 → RefusesPattern section line → RefusesPatternAt lines number
    refused_at number is refuses = record {
      before = take n lines;
      line = line;
      after = drop (n + 1) lines;
      lines_are = whole;
      number_is = is ∙ ap (λ k. k + 1) (sym count);
      no_fault = read.no_fault;
      refuses = subst (λ (s : Option Section). RefusesPattern s line) read.section_is refuses;
    }

    pub fails : (fault : RewriteReadFault) → IsLineFault (n + 1) section line fault → IsFileFault lines fault
    fails (NoSection k) h = reported (NoSection k) h
    fails (NoEquals k) h = reported (NoEquals k) h
    fails (BadPattern k) h = refused_at k h.0 h.1
    fails (BadReplacement k) h = reported (BadReplacement k) h
    fails NoMemory h = tt

pub all_read : (lines : List Meaning) (n : ℕ) (section : Option Section) (pre post : List RewriteRule) → length lines ≤ n → IsReadUpTo lines n section pre post →
    reading_of lines ≡ Ok (pre ++ post)
all_read lines n section pre post le read =
    let all = take_all n lines le in
    let clean : faults (numbered_lines lines) ≡ [] = ap (λ (ls : List Meaning). faults (numbered_lines ls)) (sym all) ∙ read.no_fault in
    let pre_are : pre ≡ rules_in Pre (numbered_lines lines) = read.pre_are ∙ ap (λ (ls : List Meaning). rules_in Pre (numbered_lines ls)) all in
    let post_are : post ≡ rules_in Post (numbered_lines lines) = read.post_are ∙ ap (λ (ls : List Meaning). rules_in Post (numbered_lines ls)) all in
    ap (λ (fs : List RewriteReadFault). rules_unless fs (rules_of (numbered_lines lines))) clean
    ∙ ap₂ (λ (xs ys : List RewriteRule). Ok (xs ++ ys)) (sym pre_are) (sym post_are)
