-- A rule keeps the text between its matches.
use Rattle.std.proofs.Common.{◌≡◌, ℕ, zero, suc, ◌+◌, ◌-◌, ◌≤◌, true, List, [], ◌∷◌, ◌++◌, map, drop, length, Option, None, Some, slice_range, refl, sym, ap, ◌∙◌, subst, arith, inl, inr, append_assoc}
use Rattle.std.proofs.lemmas.Bool.{cases_lt}
use Rattle.std.proofs.lemmas.List.{drop_all}
use Rattle.std.proofs.lemmas.List.Folds.{drop_split}
use Rattle.std.proofs.lemmas.Option.{none-some, same_Some}
use Rattle.regex.specs.Patterns.{Re, Match, find_str, find_all_str}
use Rattle.regex.specs.Replace.{group_bytes, replaced_by}
use Rattle.regex.specs.Search.{next_match, matches_after, gaps}
use Rattle.regex.proofs.SearchLemmas.{leftmost_within, next_within, matches_after_none, matches_after_some, matches_after_text}
use Rattle.patterns.specs.Pattern.{Pattern, pattern_in, matches_by, matches_of}
use Rattle.patterns.specs.Replacement.{replacement_text}
use Rattle.patterns.proofs.Steps.{none_next, some_next, later_next}
use Rattle.rewrite_rules.specs.Rule.{pattern_of}
use Rattle.rewrite_rules.specs.Laws.{weave, RewritingKeepsBetween}

-- ---- matches in order

-- from a place on, each match begins where the one before ended or later, and all end in the text
AreInOrder : List ℕ → ℕ → List Match → Type 0
AreInOrder text at [] = at ≤ length text
AreInOrder text at (m ∷ ms) = (at ≤ m.start) × (m.start ≤ m.trace.end) × AreInOrder text m.trace.end ms

module _ (re : Re) (text : List ℕ) where
  -- the next match begins where the last ended or later
  starts_by : (after : ℕ) (m : Match) (o : Option Match) → find_str re text (after - 1) ≡ o → next_match true re text after ≡ Some m →
      (after - 1 ≤ m.start) × (m.start ≤ m.trace.end)
  starts_by after m None first next = absurd (none-some m (sym (none_next re text after first) ∙ next))
  starts_by after m (Some x) first next = elim (cases_lt x.trace.end after) [
    | inl lt ↦
        let within = leftmost_within re text true after m (sym (later_next re text after x _ first lt refl) ∙ next) in
        (omega (arith, within.0), within.1)
    | inr ge ↦
        let same = same_Some _ _ (sym (some_next re text after x first ge) ∙ next) in
        let within = leftmost_within re text true (after - 1) m (first ∙ ap (λ (y : Match). Some y) same) in
        (within.0, within.1)
  ]

  ordered_by : (after : ℕ) (o : Option Match) → after ≤ length text + 1 → next_match true re text after ≡ o →
      ((m : Match) → o ≡ Some m → AreInOrder text m.trace.end (matches_after true re text (m.trace.end + 1))) →
      AreInOrder text (after - 1) (matches_after true re text after)
  unfolding AreInOrder
  ordered_by after None le next later = subst (AreInOrder text (after - 1)) (sym (matches_after_none re text true after next)) (omega arith)
  ordered_by after (Some m) le next later =
      let starts = starts_by after m _ refl next in
      subst (AreInOrder text (after - 1)) (sym (matches_after_some re text true after m next)) (starts.0, starts.1, later m refl)

  in_order : (n after : ℕ) → after ≤ length text + 1 → length text + 1 ≤ after + n → AreInOrder text (after - 1) (matches_after true re text after)
  in_order zero after le room = ordered_by after _ le refl
      (λ m next. let within = next_within re text true after m next in absurd (omega (arith, within.0, within.1)))
  in_order (suc n) after le room = ordered_by after _ le refl
      (λ m next. let within = next_within re text true after m next in
      let back : m.trace.end + 1 - 1 ≡ m.trace.end = omega arith in
      subst (λ k. AreInOrder text k (matches_after true re text (m.trace.end + 1))) back (in_order n (m.trace.end + 1) (omega (arith, within.1)) (omega (arith, within.0, room))))

  all_in_order : AreInOrder text 0 (find_all_str re text)
  all_in_order = subst (AreInOrder text 0) (matches_after_text re text) (in_order (length text + 1) 0 (omega arith) (omega arith))

-- ---- what is written

module _ (text : List ℕ) where
  last_piece : (at : ℕ) → at ≤ length text → drop at text ≡ slice_range text at (length text) ++ []
  last_piece at le = drop_split text at (length text) le ∙ ap (λ (rest : List ℕ). slice_range text at (length text) ++ rest) (drop_all (length text) text (omega arith))

  replaced_by-weave : (write : Match → List ℕ) (at : ℕ) (ms : List Match) → AreInOrder text at ms →
      replaced_by write text at ms ≡ weave (map (λ p. slice_range text p.0 p.1) (gaps (length text) at ms)) (map write ms)
  unfolding AreInOrder replaced_by
  replaced_by-weave write at [] order = last_piece at order
  replaced_by-weave write at (m ∷ ms) order =
      ap (λ (rest : List ℕ). (slice_range text at m.start ++ write m) ++ rest) (replaced_by-weave write m.trace.end ms order.2)

  -- with what matched in the place of each match, it is the text
  replaced_by-same : (at : ℕ) (ms : List Match) → AreInOrder text at ms → replaced_by (λ m. group_bytes text m 0) text at ms ≡ drop at text
  unfolding AreInOrder replaced_by
  replaced_by-same at [] order = refl
  replaced_by-same at (m ∷ ms) order =
      ap (λ (rest : List ℕ). (slice_range text at m.start ++ slice_range text m.start m.trace.end) ++ rest) (replaced_by-same m.trace.end ms order.2)
      ∙ append_assoc (slice_range text at m.start) (slice_range text m.start m.trace.end) (drop m.trace.end text)
      ∙ ap (λ (rest : List ℕ). slice_range text at m.start ++ rest) (sym (drop_split text m.start m.trace.end order.1))
      ∙ sym (drop_split text at m.start order.0)

by_pattern : (pattern : Option Pattern) (text : List ℕ) → AreInOrder text 0 (matches_by pattern text)
unfolding AreInOrder
by_pattern None text = omega arith
by_pattern (Some pattern) text = all_in_order pattern.re text

pub keeps_between : RewritingKeepsBetween
unfolding matches_of
keeps_between rule text =
    let order = by_pattern (pattern_in (pattern_of rule).case rule.pattern) text in
    record {
      before = sym (replaced_by-same text 0 _ order) ∙ replaced_by-weave text (λ m. group_bytes text m 0) 0 _ order;
      after = replaced_by-weave text (λ m. replacement_text rule.replacement (group_bytes text m)) 0 _ order;
    }
