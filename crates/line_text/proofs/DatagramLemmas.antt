-- The lines of a datagram: the first one, and those behind it.
use Rattle.std.proofs.Common.{◌≡◌, ℕ, ◌+◌, ◌<◌, ◌≤◌, inl, inr, Bool, true, false, not, cond, List, [], ◌∷◌, ◌++◌, length, map, take, drop, Some, None, ltb, refl, ap, ◌∙◌, arith}
use Rattle.std.specs.List.{position_or_len, position, slice_split, onto_first}
use Rattle.std.proofs.lemmas.Bool.{cases_Bool, ltb-true, ltb-false}
use Rattle.std.proofs.lemmas.Option.{cond_some}
use Rattle.std.proofs.lemmas.List.Splits.{slice_split_first, slice_split-cons_no, slice_split-cons_yes, length-slice_split}
use Rattle.std.proofs.lemmas.List.{map-append}
use Rattle.line_text.specs.Line.{points}
use Rattle.line_text.specs.Datagram.{is_line_break, line_at, lines, accepted_points}
use Rattle.line_text.proofs.CutLemmas.{none_reported}
use Rattle.line_text.proofs.LineLemmas.{points-append}

-- a text with no line break is one part
one_part : (text : List ℕ) → length text ≤ position_or_len is_line_break text → slice_split is_line_break text ≡ text ∷ []
one_part [] none = refl
one_part (b ∷ text) none =
    elim (cases_Bool (is_line_break b)) [
      | inl ends ↦ absurd (too_far (ap (λ (t : Bool). cond (not t) (1 + position_or_len is_line_break text) 0) ends))
      | inr goes ↦
          slice_split-cons_no is_line_break b text goes
          ∙ ap (onto_first b) (one_part text (later (ap (λ (t : Bool). cond (not t) (1 + position_or_len is_line_break text) 0) goes)))
    ]
  where
    too_far : position_or_len is_line_break (b ∷ text) ≡ 0 → ⊥
    too_far is = omega arith

    later : position_or_len is_line_break (b ∷ text) ≡ 1 + position_or_len is_line_break text → length text ≤ position_or_len is_line_break text
    later is = omega arith

pub lines-last : (text : List ℕ) (moment : ℕ) → position is_line_break text ≡ None → lines text moment ≡ line_at moment text ∷ []
lines-last text moment reported =
    let past = ltb-false _ _ (none_reported (ltb (position_or_len is_line_break text) (length text)) (position_or_len is_line_break text) reported) in
    ap (λ (parts : List (List ℕ)). map (line_at moment) parts) (one_part text past)

pub lines-first : (text : List ℕ) (moment n : ℕ) → position is_line_break text ≡ Some n
    → lines text moment ≡ line_at moment (take n text) ∷ lines (drop (n + 1) text) moment
lines-first text moment n reported =
    let found = cond_some (ltb (position_or_len is_line_break text) (length text)) (position_or_len is_line_break text) n reported in
    ap (λ (parts : List (List ℕ)). map (line_at moment) parts) (slice_split_first is_line_break text 0 (ltb-true _ _ found.0))
    ∙ ap (λ (k : ℕ). line_at moment (take k text) ∷ lines (drop (k + 1) text) moment) found.1

-- ---- two datagrams with a line break between them

front_of : (x : ℕ) (b : Bool) (parts others : List (List ℕ)) → 0 < length parts
    → cond b ([] ∷ (parts ++ others)) (onto_first x (parts ++ others)) ≡ cond b ([] ∷ parts) (onto_first x parts) ++ others
front_of x true parts others some = refl
front_of x false [] others some = absurd (omega arith)
front_of x false (part ∷ parts) others some = refl

split-join : (before after : List ℕ) (b : ℕ) → is_line_break b ≡ true
    → slice_split is_line_break (before ++ b ∷ after) ≡ slice_split is_line_break before ++ slice_split is_line_break after
split-join [] after b ends = slice_split-cons_yes is_line_break b after ends
split-join (x ∷ before) after b ends =
    ap (λ (parts : List (List ℕ)). cond (is_line_break x) ([] ∷ parts) (onto_first x parts)) (split-join before after b ends)
    ∙ front_of x (is_line_break x) (slice_split is_line_break before) (slice_split is_line_break after)
    (omega (arith, length-slice_split is_line_break before))

pub accepted_points-join : (before after : List ℕ) (b moment : ℕ) → is_line_break b ≡ true
    → accepted_points (before ++ b ∷ after) moment ≡ accepted_points before moment ++ accepted_points after moment
accepted_points-join before after b moment ends =
    ap (λ (parts : List (List ℕ)). points (map (line_at moment) parts)) (split-join before after b ends)
    ∙ ap points (map-append (line_at moment) (slice_split is_line_break before) (slice_split is_line_break after))
    ∙ points-append (lines before moment) (lines after moment)
