-- Lists of lines: those that are short, their datapoints and how many are bad.
use Rattle.std.proofs.Common.{◌≡◌, ℕ, suc, ◌+◌, ◌^◌, ◌-◌, ◌<◌, ◌≤◌, min, inl, inr, Bool, true, false, ◌&&◌, cond, List, [], ◌∷◌, ◌++◌, length, take, take_while, refl, ap, sym, ◌∙◌, arith, is_err, append_assoc}
use Rattle.std.specs.List.{prefix_len, list_all}
use Rattle.std.proofs.lemmas.Bool.{and_parts, cases_Bool, le-leb, lt-leb}
use Rattle.std.proofs.lemmas.List.Sums.{sum_by-append}
use mir.Val.{bool_byte}
use Rattle.std.proofs.lemmas.List.Elements.{filter_map-append}
use Rattle.line_text.specs.Datapoint.{Datapoint}
use Rattle.line_text.specs.Line.{Line, points, point_or_none, bad_count, count_of, reading}
use Rattle.line_text.specs.Connection.{Texts, longest_line, is_short, fits}
use Rattle.line_text.specs.Reader.{with_line, short_lines, is_open_cut}

-- ---- the front that passes

pub take_while-passes : {X : Type 0} (p : X → Bool) (x : X) (xs : List X) → p x ≡ true → take_while p (x ∷ xs) ≡ x ∷ take_while p xs
take_while-passes p x xs passes =
    let next : 1 + prefix_len p xs ≡ suc (prefix_len p xs) = omega arith in
    ap (λ (t : Bool). take (cond t (1 + prefix_len p xs) 0) (x ∷ xs)) passes ∙ ap (λ (n : ℕ). take n (x ∷ xs)) next

pub take_while-fails : {X : Type 0} (p : X → Bool) (x : X) (xs : List X) → p x ≡ false → take_while p (x ∷ xs) ≡ []
take_while-fails p x xs fails = ap (λ (t : Bool). take (cond t (1 + prefix_len p xs) 0) (x ∷ xs)) fails

pub take_while-append : {X : Type 0} (p : X → Bool) (xs ys : List X) → list_all p xs ≡ true → take_while p (xs ++ ys) ≡ xs ++ take_while p ys
take_while-append p [] ys all = refl
take_while-append p (x ∷ xs) ys all =
    let parts = and_parts (p x) (list_all p xs) all in
    take_while-passes p x (xs ++ ys) parts.0 ∙ ap (λ rest. x ∷ rest) (take_while-append p xs ys parts.1)

pub take_while-all : {X : Type 0} (p : X → Bool) (xs : List X) → list_all p xs ≡ true → take_while p xs ≡ xs
take_while-all p [] all = refl
take_while-all p (x ∷ xs) all =
    let parts = and_parts (p x) (list_all p xs) all in
    take_while-passes p x xs parts.0 ∙ ap (λ rest. x ∷ rest) (take_while-all p xs parts.1)

-- after one that does not pass, nothing changes the front that does
pub take_while-not_all : {X : Type 0} (p : X → Bool) (xs ys : List X) → list_all p xs ≡ false → take_while p (xs ++ ys) ≡ take_while p xs
take_while-not_all p [] ys some = cc
take_while-not_all p (x ∷ xs) ys some =
    elim (cases_Bool (p x)) [
      | inl passes ↦
          let later = sym (ap (λ (t : Bool). t && list_all p xs) passes) ∙ some in
          take_while-passes p x (xs ++ ys) passes ∙ ap (λ rest. x ∷ rest) (take_while-not_all p xs ys later) ∙ sym (take_while-passes p x xs passes)
      | inr fails ↦ take_while-fails p x (xs ++ ys) fails ∙ sym (take_while-fails p x xs fails)
    ]

-- ---- what lines give

pub points-append : (a b : List Line) → points (a ++ b) ≡ points a ++ points b
points-append a b = filter_map-append (λ line. point_or_none (reading line)) a b

pub bad_count-append : (a b : List Line) → bad_count (a ++ b) ≡ bad_count a + bad_count b
bad_count-append a b = sum_by-append (λ line. cond (is_err (reading line)) 1 0) a b

-- a count and what is added to it
pub count_of-add : (m n : ℕ) → min (count_of m + count_of n) (2 ^ 64 - 1) ≡ count_of (m + n)
count_of-add m n = omega arith

-- ---- a line before a cut

pub short_lines-short : (line : Line) (k : Texts) → length line.text ≤ longest_line → short_lines (with_line line k) ≡ line ∷ short_lines k
short_lines-short line k short = take_while-passes is_short line k.ended (le-leb _ _ short)

pub short_lines-long : (line : Line) (k : Texts) → longest_line < length line.text → short_lines (with_line line k) ≡ []
short_lines-long line k long = take_while-fails is_short line k.ended (lt-leb _ _ long)

pub is_open_cut-short : (line : Line) (k : Texts) → length line.text ≤ longest_line → is_open_cut (with_line line k) ≡ is_open_cut k
is_open_cut-short line k short = ap (λ (t : Bool). (t && list_all is_short k.ended) && fits k.unended) (le-leb _ _ short)

-- a short line and what is read after it
pub points-line : (line : Line) (others : List Line) (out : List Datapoint) → (out ++ points (line ∷ [])) ++ points others ≡ out ++ points (line ∷ others)
points-line line others out = append_assoc out (points (line ∷ [])) (points others) ∙ ap (λ ps. out ++ ps) (sym (points-append (line ∷ []) others))

-- what a short line gives, and then others up to the first that is too long
pub points-front : (line : Line) (others : List Line) (old first new : List Datapoint) → is_short line ≡ true
    → first ≡ old ++ points (line ∷ [])
    → new ≡ first ++ points (take_while is_short others)
    → new ≡ old ++ points (take_while is_short (line ∷ others))
points-front line others old first new short gained later =
    later
    ∙ ap (λ (out : List Datapoint). out ++ points (take_while is_short others)) gained
    ∙ points-line line (take_while is_short others) old
    ∙ ap (λ (lines : List Line). old ++ points lines) (sym (take_while-passes is_short line others short))

pub bad_count-line : (line : Line) (others : List Line) → bad_count (line ∷ others) ≡ cond (is_err (reading line)) 1 0 + bad_count others
bad_count-line line others =
    let one : 0 + cond (is_err (reading line)) 1 0 ≡ cond (is_err (reading line)) 1 0 = omega arith in
    bad_count-append (line ∷ []) others ∙ ap (λ (n : ℕ). n + bad_count others) one

-- one more if a line is bad
pub bool_count : (b : Bool) → bool_byte b ≡ cond b 1 0
bool_count true = refl
bool_count false = refl
