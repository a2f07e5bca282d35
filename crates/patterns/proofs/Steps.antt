-- From match to match.
use Rattle.std.proofs.Common.{◌≡◌, ℕ, zero, suc, ◌+◌, ◌-◌, ◌<◌, ◌≤◌, true, false, List, [], ◌++◌, drop, Option, None, Some, is_some, slice_range, refl, sym, ap, ap₂, ◌∙◌, subst, arith, append_assoc, ne_eqb, ◌==◌}
use Rattle.std.proofs.lemmas.Bool.{cond-false}
use Rattle.std.proofs.lemmas.Option.{none-some, same_Some}
use mathlib.Core.Path.{fun_ext}
use Rattle.regex.specs.Patterns.{Re, Match, find_str, find_all_str}
use Rattle.regex.specs.Replace.{bytes_of, group_bytes, replaced_by}
use Rattle.regex.specs.Search.{next_match, matches_after}
use Rattle.regex.specs.Writes.{group_of}
use Rattle.regex.specs.Patterns.{span}
use Rattle.regex.specs.Strings.{IsCapturesOf}
use Rattle.regex.specs.declared.string.captures.Captures.{Captures}
use Rattle.regex.proofs.CapturesLemmas.{group_span-zero}
use Rattle.regex.proofs.SearchLemmas.{leftmost_within, next_same, next_later, next_within, matches_after_none, matches_after_some, matches_after_text}
use Rattle.patterns.specs.declared.part.Part.{Part}
use Rattle.patterns.specs.Replacement.{replacement_text}
use Rattle.patterns.specs.Left.{group_text, start_of, end_of, with_left}

-- ---- the captures of a match

module _ (text : List ℕ) (m : Match) (captures : Captures) (is : IsCapturesOf text m captures) where
  pub start_of-captures : start_of captures ≡ m.start
  start_of-captures = ap (λ (s : ℕ × ℕ). s.0) is.1.whole_is

  pub end_of-captures : end_of captures ≡ m.trace.end
  end_of-captures = ap (λ (s : ℕ × ℕ). s.1) is.1.whole_is

  group_text-is : (n : ℕ) → group_text captures n ≡ group_bytes text m n
  group_text-is zero = ap₂ bytes_of is.0 (group_span-zero _ _ _ _ ∙ ap Some is.1.whole_is)
  group_text-is (suc n) =
      ap₂ bytes_of is.0 (is.2 (suc n) (omega arith))
      ∙ ap (bytes_of text) (sym (cond-false (suc n == 0) (Some (span m)) (group_of m (suc n)) (ne_eqb (suc n) 0 (λ z. omega arith))))

  pub replacement_text-captures : (parts : List Part) → replacement_text parts (group_text captures) ≡ replacement_text parts (group_bytes text m)
  replacement_text-captures parts = ap (replacement_text parts) (fun_ext group_text-is)

-- ---- the next match

none_from : (o : Option Match) → is_some o ≡ false → o ≡ None
none_from None h = refl
none_from (Some m) h = absurd cc

pub starts_behind : (re : Re) (text : List ℕ) (m : Match) (from : ℕ) → find_str re text from ≡ Some m → from ≤ m.start
starts_behind re text m from is = (leftmost_within re text true from m is).0

module _ (re : Re) (text : List ℕ) (after : ℕ) where
  pub none_next : find_str re text (after - 1) ≡ None → next_match true re text after ≡ None
  none_next none = next_same re text true after (λ m is. absurd (none-some m (sym none ∙ is))) ∙ none

  pub some_next : (m : Match) → find_str re text (after - 1) ≡ Some m → after ≤ m.trace.end → next_match true re text after ≡ Some m
  some_next m is le =
      next_same re text true after (λ other also. subst (λ (x : Match). after ≤ x.trace.end) (same_Some _ _ (sym is ∙ also)) le) ∙ is

  pub later_next : (m : Match) (o : Option Match) → find_str re text (after - 1) ≡ Some m → m.trace.end < after → find_str re text after ≡ o →
      next_match true re text after ≡ o
  later_next m o is lt later = next_later re text true after m is lt ∙ later

  -- the same, for a match whose captures were taken
  module _ (last end : ℕ) (m : Match) (captures : Captures) (is : find_str re text last ≡ Some m) (of : IsCapturesOf text m captures)
      (last_is : last ≡ after - 1) (end_is : end ≡ end_of captures + 1) where
    pub some_next-captures : after < end → next_match true re text after ≡ Some m
    some_next-captures lt =
        some_next m (ap (find_str re text) (sym last_is) ∙ is) (omega (arith, end_of-captures text m captures of, end_is, lt))

    -- from the next place on the same pattern is searched for
    pub later_next-captures : (o : Option Match) (same : Re) → end ≤ after → same ≡ re → find_str same text after ≡ o → next_match true re text after ≡ o
    later_next-captures o same le same_is later =
        later_next m o (ap (find_str re text) (sym last_is) ∙ is) (omega (arith, end_of-captures text m captures of, end_is, le))
        (ap (λ (r : Re). find_str r text after) (sym same_is) ∙ later)

    pub next_found : (same : Re) (next : Captures) (later : (m : Match) × (find_str same text after ≡ Some m) × IsCapturesOf text m next) → end ≤ after → same ≡ re →
        next_match true re text after ≡ Some later.0
    next_found same next later le same_is = later_next-captures (Some later.0) same le same_is later.1

  pub ends_behind : (m : Match) → next_match true re text after ≡ Some m → after ≤ m.trace.end
  ends_behind m is = (next_within re text true after m is).0

  -- what is written up to the end of the next match, with what is left then, is what was written with what was left
  pub with_left-next : (parts : List Part) (m : Match) (captures : Captures) (out new : List ℕ) (last next : ℕ) →
      next_match true re text after ≡ Some m → IsCapturesOf text m captures → last ≡ after - 1 → next ≡ end_of captures + 1 →
      new ≡ out ++ (slice_range text last (start_of captures) ++ replacement_text parts (group_text captures)) →
      with_left re parts text new next ≡ with_left re parts text out after
  unfolding with_left replaced_by
  with_left-next parts m captures out new last next is of last_is next_is new_is =
      let write : Match → List ℕ = λ x. replacement_text parts (group_bytes text x) in
      let start = start_of-captures text m captures of in
      let w = replacement_text-captures text m captures of parts in
      let next_at : next ≡ m.trace.end + 1 = next_is ∙ ap (λ (n : ℕ). n + 1) (end_of-captures text m captures of) in
      let at : next - 1 ≡ m.trace.end = omega (arith, next_at) in
      let rest = replaced_by write text m.trace.end (matches_after true re text (m.trace.end + 1)) in
      (λ i. new_is i ++ replaced_by write text (at i) (matches_after true re text (next_at i)))
      ∙ (λ i. (out ++ (slice_range text (last_is i) (start i) ++ w i)) ++ rest)
      ∙ append_assoc out (slice_range text (after - 1) m.start ++ write m) rest
      ∙ ap (λ (ms : List Match). out ++ replaced_by write text (after - 1) ms) (sym (matches_after_some re text true after m is))

  none_left : next_match true re text after ≡ None → matches_after true re text after ≡ []
  none_left = matches_after_none re text true after

  -- if there is no next match, the rest of the text is left
  pub with_left-none : (parts : List Part) (out : List ℕ) → is_some (next_match true re text after) ≡ false →
      with_left re parts text out after ≡ out ++ drop (after - 1) text
  unfolding with_left replaced_by
  with_left-none parts out none =
      ap (λ (ms : List Match). out ++ replaced_by (λ x. replacement_text parts (group_bytes text x)) text (after - 1) ms) (none_left (none_from _ none))

-- ---- from the start

pub next_match-first : (re : Re) (text : List ℕ) → next_match true re text 0 ≡ find_str re text 0
unfolding next_match
next_match-first re text = refl

pub with_left-first : (re : Re) (text : List ℕ) (parts : List Part) →
    with_left re parts text [] 0 ≡ replaced_by (λ m. replacement_text parts (group_bytes text m)) text 0 (find_all_str re text)
unfolding with_left
with_left-first re text parts =
    ap (λ (ms : List Match). replaced_by (λ m. replacement_text parts (group_bytes text m)) text 0 ms) (matches_after_text re text)

pub replaced_by-none : (re : Re) (text : List ℕ) (parts : List Part) → is_some (next_match true re text 0) ≡ false →
    text ≡ replaced_by (λ m. replacement_text parts (group_bytes text m)) text 0 (find_all_str re text)
unfolding replaced_by
replaced_by-none re text parts none =
    ap (λ (ms : List Match). replaced_by (λ m. replacement_text parts (group_bytes text m)) text 0 ms)
    (sym (none_left re text 0 (none_from _ none)) ∙ matches_after_text re text)
