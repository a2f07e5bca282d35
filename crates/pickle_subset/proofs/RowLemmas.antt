-- What rows give, one after the other.
use Rattle.std.proofs.Common.{◌≡◌, ℕ, ◌+◌, ◌≤◌, ◌<◌, get_or, Bool, true, false, cond, List, [], ◌∷◌, ◌++◌, length, drop, is_err, refl, sym, ap, ◌∙◌, append_assoc, arith}
use Rattle.std.proofs.lemmas.List.{at_drop_more}
use Rattle.std.proofs.lemmas.List.Sums.{sum_by-append}
use Rattle.std.proofs.lemmas.List.Elements.{filter_map-append}
use mir.Val.{bool_byte}
use Rattle.line_text.specs.Datapoint.{Datapoint}
use Rattle.pickle_subset.specs.declared.value.Row as read
use Rattle.pickle_subset.specs.Views.{row, rows}
use Rattle.pickle_subset.specs.Value.{Row}
use Rattle.pickle_subset.specs.RowPoint.{point_of}
use Rattle.pickle_subset.specs.Accepted.{point_or_none, row_points, bad_row_count}

row_points-append : (moment : ℕ) (a b : List Row) → row_points moment (a ++ b) ≡ row_points moment a ++ row_points moment b
row_points-append moment a b = filter_map-append (λ row. point_or_none (point_of row moment)) a b

pub points-row : (moment : ℕ) (row : Row) (others : List Row) (out : List Datapoint) → (out ++ row_points moment (row ∷ [])) ++ row_points moment others ≡ out ++ row_points moment (row ∷ others)
points-row moment row others out =
    append_assoc out (row_points moment (row ∷ [])) (row_points moment others)
    ∙ ap (λ (ps : List Datapoint). out ++ ps) (sym (row_points-append moment (row ∷ []) others))

bad-append : (moment : ℕ) (a b : List Row) → bad_row_count moment (a ++ b) ≡ bad_row_count moment a + bad_row_count moment b
bad-append moment a b = sum_by-append (λ row. cond (is_err (point_of row moment)) 1 0) a b

pub bad-row : (moment : ℕ) (row : Row) (others : List Row) → bad_row_count moment (row ∷ others) ≡ cond (is_err (point_of row moment)) 1 0 + bad_row_count moment others
bad-row moment row others =
    let one : 0 + cond (is_err (point_of row moment)) 1 0 ≡ cond (is_err (point_of row moment)) 1 0 = omega arith in
    bad-append moment (row ∷ []) others ∙ ap (λ (n : ℕ). n + bad_row_count moment others) one

-- one more if a test holds
pub bool_count : (b : Bool) → bool_byte b ≡ cond b 1 0
bool_count true = refl
bool_count false = refl

pub count_within : (b : Bool) → cond b 1 0 ≤ 1
count_within true = omega arith
count_within false = omega arith

-- ---- a row more of a list

pub gained-more : (moment : ℕ) (found : List read.Row) (i : ℕ) (d : read.Row) (out new all : List Datapoint) → i < length found
    → new ≡ out ++ row_points moment (row (get_or found i d) ∷ [])
    → out ++ row_points moment (rows (drop i found)) ≡ all
    → new ++ row_points moment (rows (drop (i + 1) found)) ≡ all
gained-more moment found i d out new all inside added so_far =
    ap (λ (ps : List Datapoint). ps ++ row_points moment (rows (drop (i + 1) found))) added
    ∙ points-row moment (row (get_or found i d)) (rows (drop (i + 1) found)) out
    ∙ sym (at_drop_more (λ (rs : List read.Row). out ++ row_points moment (rows rs)) found i d inside)
    ∙ so_far

pub bad-more : (moment : ℕ) (found : List read.Row) (i : ℕ) (d : read.Row) (b : Bool) (n m all : ℕ) → i < length found
    → b ≡ is_err (point_of (row (get_or found i d)) moment) → m ≡ bool_byte b
    → n + bad_row_count moment (rows (drop i found)) ≡ all
    → n + m + bad_row_count moment (rows (drop (i + 1) found)) ≡ all
bad-more moment found i d b n m all inside bad is so_far =
    let one = is ∙ bool_count b ∙ ap (λ (t : Bool). cond t 1 0) bad in
    let here = bad-row moment (row (get_or found i d)) (rows (drop (i + 1) found)) in
    let left = at_drop_more (λ (rs : List read.Row). bad_row_count moment (rows rs)) found i d inside in
    omega (arith, one, here, left, so_far)
