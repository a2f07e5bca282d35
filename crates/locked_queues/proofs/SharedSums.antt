-- Cutting a view in two, joining two and counting keep every sum.
use Rattle.std.proofs.Common.{◌≡◌, ℕ, zero, suc, ◌+◌, ◌-◌, ◌≤◌, List, [], ◌∷◌, ◌++◌, set, refl, sym, ap, ◌∙◌, arith}
use Rattle.std.proofs.lemmas.Grind.{common_steps}
use Rattle.std.specs.Prelude.{sum_by, slice_index, replicate, length, ◌==◌, if◌then◌else◌}
use Rattle.std.proofs.lemmas.List.Sums.{sum_by-append}
use Rattle.std.proofs.lemmas.Bool.Decides.{nat_tests}
use native.Mathlib.Numerals.{unary_clauses}
use mathlib.Core.Option.{some, some-ne-none, some-injective}
use lib.ListN.{get_elem?}
use Rattle.locked_queues.specs.declared.shares.View.{View}
use Rattle.locked_queues.specs.Shares.{IsShared, total_without_keep, sum_at_each, at_place, nobody, keeper_of, without_last, last_alone, without_shares, shares_alone, with_shares_of, with_count}

-- the sum after a change of one view
sum_at : (f : View → ℕ) (xs : List View) (id : ℕ) (v w : View) → get_elem? xs id ≡ some v → sum_by f (set xs id w) + f v ≡ sum_by f xs + f w
sum_at f [] id v w e = absurd (some-ne-none v (sym e))
sum_at f (x ∷ xs) zero v w e =
    let same : f x ≡ f v = ap f (some-injective _ _ e) in
    omega (arith, same, sum_by-append f (w ∷ []) xs, sum_by-append f (x ∷ []) xs)
sum_at f (x ∷ xs) (suc id) v w e =
    omega (arith, sum_at f xs id v w e, sum_by-append f (x ∷ []) (set xs id w), sum_by-append f (x ∷ []) xs)

-- a view is among the views
at_most : (f : View → ℕ) (xs : List View) (id : ℕ) (v : View) → get_elem? xs id ≡ some v → f v ≤ sum_by f xs
at_most f [] id v e = absurd (some-ne-none v (sym e))
at_most f (x ∷ xs) zero v e = let same : f x ≡ f v = ap f (some-injective _ _ e) in omega (arith, same, sum_by-append f (x ∷ []) xs)
at_most f (x ∷ xs) (suc id) v e = omega (arith, at_most f xs id v e, sum_by-append f (x ∷ []) xs)

split_sum : (f : View → ℕ) (xs : List View) (id : ℕ) (v l r : View) → get_elem? xs id ≡ some v → f l + f r ≡ f v → sum_by f (set xs id l ++ r ∷ []) ≡ sum_by f xs
split_sum f xs id v l r e parts = omega (arith, sum_at f xs id v l e, parts, sum_by-append f (set xs id l) (r ∷ []))

join_sum : (f : View → ℕ) (xs : List View) (id other : ℕ) (v w b n : View) → get_elem? xs id ≡ some v → get_elem? (set xs id b) other ≡ some w → f b ≡ f v + f w → f n ≡ 0
    → sum_by f (set (set xs id b) other n) ≡ sum_by f xs
join_sum f xs id other v w b n e e' parts none = omega (arith, sum_at f xs id v b e, sum_at f (set xs id b) other w n e', parts, none)

count_sum : (f : View → ℕ) (xs : List View) (id k : ℕ) (v w : View) → get_elem? xs id ≡ some v → f w ≡ f v + k → sum_by f (set xs id w) ≡ sum_by f xs + k
count_sum f xs id k v w e more = omega (arith, sum_at f xs id v w e, more)

pub index_added : (xs ys : List ℕ) (i : ℕ) → slice_index (sum_at_each xs ys) i ≡ slice_index xs i + slice_index ys i
index_added [] ys i = omega arith
index_added (x ∷ xs) [] i = omega arith
index_added (x ∷ xs) (y ∷ ys) zero = refl
index_added (x ∷ xs) (y ∷ ys) (suc i) = index_added xs ys i

pub index_at_place : (place n i : ℕ) → slice_index (at_place place n) i ≡ (if i == place then n else 0)
index_at_place zero n zero = grind (arith, nat_tests)
index_at_place zero n (suc i) = grind (arith, nat_tests)
index_at_place (suc place) n zero = grind (arith, nat_tests)
index_at_place (suc place) n (suc i) = let e = index_at_place place n i in grind (arith, nat_tests)

-- the views l and r together are the view v
record Parts (v l r : View) : Type 0 where
  pub totals : (i : ℕ) → slice_index l.totals i + slice_index r.totals i ≡ slice_index v.totals i
  pub shares : (i : ℕ) → slice_index l.shares i + slice_index r.shares i ≡ slice_index v.shares i
  pub keeps : (i : ℕ) → slice_index l.keeps i + slice_index r.keeps i ≡ slice_index v.keeps i
  pub total_without_keep : (i : ℕ) → total_without_keep i l + total_without_keep i r ≡ total_without_keep i v

splits : (xs : List View) (id : ℕ) (v l r : View) → Parts v l r → IsShared xs → get_elem? xs id ≡ some v → IsShared (set xs id l ++ r ∷ [])
splits xs id v l r p h e =
    record {
      summed = λ i. split_sum (λ u. slice_index u.totals i) xs id v l r e (p.totals i) ∙ (h.summed i ∙ sym (split_sum (λ u. slice_index u.shares i) xs id v l r e (p.shares i)));
      one = λ i. let k : sum_by (λ u. slice_index u.keeps i) (set xs id l ++ r ∷ []) ≡ sum_by (λ u. slice_index u.keeps i) xs = split_sum (λ u. slice_index u.keeps i) xs id v l r e (p.keeps i) in rw k (h.one i);
      kept = λ i. split_sum (total_without_keep i) xs id v l r e (p.total_without_keep i) ∙ h.kept i;
    }

pub splits_nothing : (xs : List View) (id : ℕ) (v : View) → IsShared xs → get_elem? xs id ≡ some v → IsShared (set xs id v ++ nobody ∷ [])
splits_nothing xs id v = splits xs id v v nobody (record { totals = λ i. omega arith; shares = λ i. omega arith; keeps = λ i. omega arith; total_without_keep = λ i. omega arith })

pub splits_shares : (xs : List View) (id : ℕ) (v : View) → IsShared xs → get_elem? xs id ≡ some v → IsShared (set xs id (without_shares v) ++ shares_alone v ∷ [])
splits_shares xs id v = splits xs id v (without_shares v) (shares_alone v) (record { totals = λ i. omega arith; shares = λ i. omega arith; keeps = λ i. omega arith; total_without_keep = λ i. omega arith })

last_of_ones : (n i : ℕ) → slice_index (replicate n 1) i + slice_index (at_place n 1) i ≡ slice_index (replicate (suc n) 1) i
last_of_ones zero zero = refl
last_of_ones zero (suc i) = refl
last_of_ones (suc n) zero = refl
last_of_ones (suc n) (suc i) = last_of_ones n i

pub splits_last : (xs : List View) (id n : ℕ) → IsShared xs → get_elem? xs id ≡ some (keeper_of (suc n)) → IsShared (set xs id (keeper_of n) ++ record { keeps = at_place n 1; totals = []; shares = [] } ∷ [])
splits_last xs id n = splits xs id (keeper_of (suc n)) (keeper_of n) (record { keeps = at_place n 1; totals = []; shares = [] }) (record { totals = λ i. refl; shares = λ i. refl; keeps = last_of_ones n; total_without_keep = λ i. grind (arith, common_steps, nat_tests) })

none_unkept : (w : View) (i : ℕ) → w.totals ≡ [] → total_without_keep i w ≡ 0
none_unkept w i none = let e : slice_index w.totals i ≡ 0 = ap (λ xs. slice_index xs i) none in grind (arith, nat_tests)

-- a seat that keeps nothing passes its shares to another
pub joins : (xs : List View) (id other : ℕ) (v w : View) → w.keeps ≡ [] → w.totals ≡ [] → IsShared xs → get_elem? xs id ≡ some v → get_elem? (set xs id (with_shares_of v w)) other ≡ some w
    → IsShared (set (set xs id (with_shares_of v w)) other nobody)
joins xs id other v w keeps totals h e e' =
    let b = with_shares_of v w in
    record {
      summed = λ i. let none : slice_index w.totals i ≡ 0 = ap (λ xs. slice_index xs i) totals in join_sum (λ u. slice_index u.totals i) xs id other v w b nobody e e' (omega (arith, none)) refl ∙ (h.summed i ∙ sym (join_sum (λ u. slice_index u.shares i) xs id other v w b nobody e e' (index_added v.shares w.shares i) refl));
      one = λ i. let none : slice_index w.keeps i ≡ 0 = ap (λ xs. slice_index xs i) keeps in let k : sum_by (λ u. slice_index u.keeps i) (set (set xs id b) other nobody) ≡ sum_by (λ u. slice_index u.keeps i) xs = join_sum (λ u. slice_index u.keeps i) xs id other v w b nobody e e' (omega (arith, none)) refl in rw k (h.one i);
      kept = λ i. join_sum (total_without_keep i) xs id other v w b nobody e e' (omega (arith, none_unkept w i totals)) refl ∙ h.kept i;
    }

unkept_counted : (place n i : ℕ) (v : View) → slice_index v.keeps place ≡ 1 → total_without_keep i (with_count place n v) ≡ total_without_keep i v + 0
unkept_counted place n i v keeps = let a = index_added v.totals (at_place place n) i in let b = index_at_place place n i in grind (arith, common_steps, nat_tests)

-- the keeper counts more in the total and in its share
pub counts : (xs : List View) (id place n : ℕ) (v : View) → slice_index v.keeps place ≡ 1 → IsShared xs → get_elem? xs id ≡ some v → IsShared (set xs id (with_count place n v))
counts xs id place n v keeps h e =
    record {
      summed = λ i.
          count_sum (λ u. slice_index u.totals i) xs id (slice_index (at_place place n) i) v (with_count place n v) e (index_added v.totals (at_place place n) i)
          ∙ (ap (λ m. m + slice_index (at_place place n) i) (h.summed i)
          ∙ sym (count_sum (λ u. slice_index u.shares i) xs id (slice_index (at_place place n) i) v (with_count place n v) e (index_added v.shares (at_place place n) i)));
      one = λ i. let k : sum_by (λ u. slice_index u.keeps i) (set xs id (with_count place n v)) ≡ sum_by (λ u. slice_index u.keeps i) xs + 0 = count_sum (λ u. slice_index u.keeps i) xs id 0 v (with_count place n v) e (omega arith) in omega (arith, k, h.one i);
      kept = λ i. let k : sum_by (total_without_keep i) (set xs id (with_count place n v)) ≡ sum_by (total_without_keep i) xs + 0 = count_sum (total_without_keep i) xs id 0 v (with_count place n v) e (unkept_counted place n i v keeps) in omega (arith, k, h.kept i);
    }

-- the set at its opening
one_place : (n i : ℕ) → slice_index (replicate n 1) i ≤ 1
one_place zero i = omega arith
one_place (suc n) zero = omega arith
one_place (suc n) (suc i) = one_place n i

pub opens : (n : ℕ) → IsShared (keeper_of n ∷ [])
opens n = record {
  summed = λ i. refl;
  one = λ i. omega (arith, one_place n i);
  kept = λ i. grind (arith, common_steps, nat_tests);
}

last_place : (n : ℕ) → length (replicate {A = ℕ} (n + 1) 1) - 1 ≡ n
last_place n = grind (arith, common_steps)

-- the keeper of n + 1 places gives up the last one
pub keeps_less : (n : ℕ) (v : View) → v ≡ keeper_of (n + 1) → without_last v ≡ keeper_of n
keeps_less n v is = ap without_last is ∙ ap keeper_of (last_place n)

abbrev one_place_kept : ℕ → View
one_place_kept k = record { keeps = at_place k 1; totals = []; shares = [] }

pub keeps_last : (n : ℕ) (v : View) → v ≡ keeper_of (n + 1) → last_alone v ≡ record { keeps = at_place n 1; totals = []; shares = [] }
keeps_last n v is = ap last_alone is ∙ ap one_place_kept (last_place n)

pub splits_place : (xs : List View) (id n : ℕ) (v : View) → v ≡ keeper_of (n + 1) → IsShared xs → get_elem? xs id ≡ some v → IsShared (set xs id (without_last v) ++ last_alone v ∷ [])
splits_place xs id n v is h e =
    rw (keeps_less n v is, keeps_last n v is) (splits_last xs id n h (simp unary_clauses at (e ∙ ap some is)))

-- a view that is written in its own place changes nothing
pub set_same : (xs : List View) (id : ℕ) (v : View) → get_elem? xs id ≡ some v → set xs id v ≡ xs
set_same [] id v e = absurd (some-ne-none v (sym e))
set_same (x ∷ xs) zero v e = ap (λ y. y ∷ xs) (sym (some-injective _ _ e))
set_same (x ∷ xs) (suc id) v e = ap (λ ys. x ∷ ys) (set_same xs id v e)

-- if no one keeps the total, no one knows one
none_known : (xs : List View) (i : ℕ) → sum_by (λ v. slice_index v.keeps i) xs ≡ 0 → sum_by (total_without_keep i) xs ≡ 0 → sum_by (λ v. slice_index v.totals i) xs ≡ 0
none_known [] i k u = refl
none_known (x ∷ xs) i k u =
    let k' = sum_by-append (λ (v : View). slice_index v.keeps i) (x ∷ []) xs in
    let u' = sum_by-append (total_without_keep i) (x ∷ []) xs in
    let t' = sum_by-append (λ (v : View). slice_index v.totals i) (x ∷ []) xs in
    let keeps_none : slice_index x.keeps i ≡ 0 = omega (arith, k, k') in
    let knows_none : total_without_keep i x ≡ 0 = omega (arith, u, u') in
    let none : slice_index x.totals i ≡ 0 = grind (arith, common_steps, nat_tests) in
    omega (arith, t', none, none_known xs i (omega (arith, k, k')) (omega (arith, u, u')))

-- the keeper of the total knows all of it
keeper_knows : (xs : List View) (id i : ℕ) (v : View) → slice_index v.keeps i ≡ 1 → sum_by (λ v. slice_index v.keeps i) xs ≤ 1 → sum_by (total_without_keep i) xs ≡ 0 → get_elem? xs id ≡ some v → sum_by (λ v. slice_index v.totals i) xs ≡ slice_index v.totals i
keeper_knows [] id i v keeps one u e = absurd (some-ne-none v (sym e))
keeper_knows (x ∷ xs) zero i v keeps one u e =
    let keeps_one : slice_index x.keeps i ≡ slice_index v.keeps i = ap (λ (w : View). slice_index w.keeps i) (some-injective _ _ e) in
    let same : slice_index x.totals i ≡ slice_index v.totals i = ap (λ (w : View). slice_index w.totals i) (some-injective _ _ e) in
    let k' = sum_by-append (λ (v : View). slice_index v.keeps i) (x ∷ []) xs in
    let u' = sum_by-append (total_without_keep i) (x ∷ []) xs in
    let t' = sum_by-append (λ (v : View). slice_index v.totals i) (x ∷ []) xs in
    omega (arith, same, t', none_known xs i (omega (arith, keeps, keeps_one, one, k')) (omega (arith, u, u')))
keeper_knows (x ∷ xs) (suc id) i v keeps one u e =
    let k' = sum_by-append (λ (v : View). slice_index v.keeps i) (x ∷ []) xs in
    let u' = sum_by-append (total_without_keep i) (x ∷ []) xs in
    let t' = sum_by-append (λ (v : View). slice_index v.totals i) (x ∷ []) xs in
    let among = at_most (λ (w : View). slice_index w.keeps i) xs id v e in
    let keeps_none : slice_index x.keeps i ≡ 0 = omega (arith, keeps, one, k', among) in
    let knows_none : total_without_keep i x ≡ 0 = omega (arith, u, u') in
    let none : slice_index x.totals i ≡ 0 = grind (arith, common_steps, nat_tests) in
    omega (arith, t', none, keeper_knows xs id i v keeps (omega (arith, one, k')) (omega (arith, u, u')) e)

-- the shares add up to the total that its keeper knows
pub shares_are_total : (xs : List View) (id i : ℕ) (v : View) → slice_index v.keeps i ≡ 1 → IsShared xs → get_elem? xs id ≡ some v → sum_by (λ v. slice_index v.shares i) xs ≡ slice_index v.totals i
shares_are_total xs id i v keeps h e = sym (h.summed i) ∙ keeper_knows xs id i v keeps (h.one i) (h.kept i) e

-- one more is counted at a place: in the total there
pub counted_total : (v : View) (place n : ℕ) → slice_index (with_count place n v).totals place ≡ slice_index v.totals place + n
counted_total v place n =
    let a = index_added v.totals (at_place place n) place in
    let b = index_at_place place n place in
    grind (arith, nat_tests)

-- and in the shares of the seat that receives them
pub counted_share : (to v : View) (place n i : ℕ) → v.shares ≡ []
    → slice_index (with_shares_of to (shares_alone (with_count place n v))).shares i ≡ slice_index to.shares i + (if i == place then n else 0)
counted_share to v place n i bears =
    ap (λ xs. slice_index (sum_at_each to.shares (sum_at_each xs (at_place place n))) i) bears
    ∙ (index_added to.shares (at_place place n) i ∙ ap (λ m. slice_index to.shares i + m) (index_at_place place n i))
