-- A memo as a finite map: what is stored under a number, and one more.
use Rattle.std.proofs.Common.{◌≡◌, ℕ, suc, ◌+◌, ◌-◌, ◌<◌, ◌≤◌, ◌⊎◌, inl, inr, Bool, true, false, cond, List, [], ◌∷◌, ◌++◌, length, map, set, take, get_or, Option, Some, None, is_some, option_map, Bor, refl, sym, ap, ◌∙◌, arith}
use Rattle.std.specs.Prelude.{◌==◌, slice_get, zero}
use Rattle.std.specs.Ordering.{nat_cmp, eq_by_cmp}
use Rattle.std.specs.Cmp.{nat_cmp_total, unsigned_tied}
use Rattle.std.specs.Map.{lookup}
use Rattle.std.specs.BTreeMap.{is_at}
use Rattle.std.specs.FinMap as fin
use Rattle.std.specs.FinMap.{find, get-from_entries, get-insert, len-insert, len-empty, same_map, nat_cmp-IsAntisymmetric}
use Rattle.std.proofs.lemmas.Bool.{eqb-true, eq-eqb, cases_lt}
use Rattle.std.specs.List.{swap_remove}
use Rattle.std.proofs.Math.Seq.{take-append_seam}
use Rattle.std.proofs.lemmas.List.{length-append, get_or-append_right}
use Rattle.std.proofs.lemmas.Option.{slice_get_past, slice_get-map}
use Rattle.std.proofs.lemmas.Map.Made.{lookup-map_values}
use Rattle.numbered_memo.specs.Memo.{numbered, stored_in}
use Rattle.numbered_memo.specs.Memo as items

abbrev pub memo : {X V : Type 0} → (X → V) → List X → List (ℕ × X) → fin.FinMap nat_cmp V
memo meaning first others = items.memo meaning (stored_in first others)

-- ---- what is found

abbrev pub or_else : {X : Type 0} → Option X → Option X → Option X
or_else (Some x) other = Some x
or_else None other = other

apart : (a b : ℕ) (t : Bool) → (a == b) ≡ t → (a ≡ b → ⊥) → t ≡ false
apart a b true e differ = absurd (differ (eqb-true a b e))
apart a b false e differ = refl

same_key : (a b : ℕ) → a ≡ b → eq_by_cmp nat_cmp a b ≡ true
same_key a b e = unsigned_tied a b ∙ eq-eqb a b e

other_key : (a b : ℕ) → (a ≡ b → ⊥) → eq_by_cmp nat_cmp a b ≡ false
other_key a b differ = unsigned_tied a b ∙ apart a b (a == b) refl differ

find-numbered : {V : Type 0} (n i : ℕ) (xs : List V) (es : List (ℕ × V)) → find nat_cmp (n + i) (numbered n xs ++ es) ≡ or_else (slice_get xs i) (find nat_cmp (n + i) es)
find-numbered n i [] es = refl
find-numbered n zero (x ∷ xs) es =
    ap (λ (b : Bool). cond b (Some x) (find nat_cmp (n + 0) (numbered (suc n) xs ++ es))) (same_key (n + 0) n (omega arith))
find-numbered n (suc i) (x ∷ xs) es =
    let further : n + suc i ≡ suc n + i = omega arith in
    ap (λ (b : Bool). cond b (Some x) (find nat_cmp (n + suc i) (numbered (suc n) xs ++ es))) (other_key (n + suc i) n (λ e. omega (arith, e)))
    ∙ ap (λ (m : ℕ). find nat_cmp m (numbered (suc n) xs ++ es)) further
    ∙ find-numbered (suc n) i xs es
    ∙ ap (λ (m : ℕ). or_else (slice_get xs i) (find nat_cmp m es)) (sym further)

find-lookup : {V : Type 0} (es : List (ℕ × V)) (q : ℕ) → find nat_cmp q es ≡ lookup (is_at (nat_cmp q)) es
find-lookup [] q = refl
find-lookup (e ∷ es) q = ap (cond (is_at (nat_cmp q) e.0) (Some e.1)) (find-lookup es q)

zero_more : (q : ℕ) → 0 + q ≡ q
zero_more q = omega arith

pub get-memo : {X V : Type 0} (meaning : X → V) (first : List X) (others : List (ℕ × X)) (q : ℕ)
    → fin.get (memo meaning first others) q ≡ or_else (option_map meaning (slice_get first q)) (option_map meaning (lookup (is_at (nat_cmp q)) others))
get-memo {X = X} {V = V} meaning first others q =
    let es = map (λ (e : ℕ × X). (e.0, meaning e.1)) others in
    let xs = map meaning first in
    let at : 0 + q ≡ q = zero_more q in
    get-from_entries nat_cmp_total (numbered 0 xs ++ es) q
    ∙ ap (λ (m : ℕ). find nat_cmp m (numbered 0 xs ++ es)) (sym at)
    ∙ find-numbered 0 q xs es
    ∙ ap (λ (m : ℕ). or_else (slice_get xs q) (find nat_cmp m es)) at
    ∙ ap (λ (o : Option V). or_else o (find nat_cmp q es)) (slice_get-map meaning first q)
    ∙ ap (or_else (option_map meaning (slice_get first q))) (find-lookup es q ∙ lookup-map_values meaning (is_at (nat_cmp q)) others)

pub get-first : {X V : Type 0} (meaning : X → V) (first : List X) (others : List (ℕ × X)) (q : ℕ) (x : X) → slice_get first q ≡ Some x → fin.get (memo meaning first others) q ≡ Some (meaning x)
get-first {X = X} {V = V} meaning first others q x is =
    get-memo meaning first others q ∙ ap (λ (o : Option X). or_else (option_map meaning o) (option_map meaning (lookup (is_at (nat_cmp q)) others))) is

pub get-others : {X V : Type 0} (meaning : X → V) (first : List X) (others : List (ℕ × X)) (q : ℕ) → slice_get first q ≡ None → fin.get (memo meaning first others) q ≡ option_map meaning (lookup (is_at (nat_cmp q)) others)
get-others {X = X} {V = V} meaning first others q is =
    get-memo meaning first others q ∙ ap (λ (o : Option X). or_else (option_map meaning o) (option_map meaning (lookup (is_at (nat_cmp q)) others))) is

is_some-map : {X Y : Type 0} (f : X → Y) (o : Option X) → is_some (option_map f o) ≡ is_some o
is_some-map f None = refl
is_some-map f (Some x) = refl

-- a count with one number more, if nothing is stored under that number yet
pub counted : {X V : Type 0} (meaning : X → V) (s : fin.FinMap nat_cmp V) (k n m : ℕ) (v : V) (o : Option (Bor X)) (b : Bool)
    → n ≡ fin.len s → option_map (λ stored. meaning stored.now) o ≡ fin.get s k → b ≡ is_some o → m ≡ cond b n (n + 1)
    → m ≡ fin.len (fin.insert s k v)
counted {X = X} {V = V} meaning s k n m v o b is found test more =
    let taken : b ≡ is_some (fin.get s k) = test ∙ sym (is_some-map (λ (stored : Bor X). meaning stored.now) o) ∙ ap is_some found in
    more
    ∙ ap (λ (i : ℕ). cond b i (i + 1)) is
    ∙ ap (λ (t : Bool). cond t (fin.len s) (fin.len s + 1)) taken
    ∙ sym (len-insert nat_cmp_total s k v)

pub count-nothing : {X V : Type 0} (meaning : X → V) (first : List X) (others : List (ℕ × X)) → first ≡ [] → others ≡ [] → 0 ≡ fin.len (memo meaning first others)
count-nothing {X = X} {V = V} meaning first others none no_others =
    sym (ap (λ (xs : List X). fin.len (memo meaning xs others)) none ∙ ap (λ (es : List (ℕ × X)). fin.len (memo meaning [] es)) no_others ∙ len-empty nat_cmp _)

-- ---- one more, or another in its place

get-front : {X : Type 0} (xs ys : List X) (q : ℕ) → q < length xs → slice_get (xs ++ ys) q ≡ slice_get xs q
get-front [] ys q less = absurd (omega arith)
get-front (x ∷ xs) ys zero less = refl
get-front (x ∷ xs) ys (suc q) less = get-front xs ys q (omega arith)

get-end : {X : Type 0} (xs : List X) (y : X) → slice_get (xs ++ y ∷ []) (length xs) ≡ Some y
get-end [] y = refl
get-end (x ∷ xs) y = get-end xs y

get-put : {X : Type 0} (xs : List X) (k : ℕ) (y : X) → k < length xs → slice_get (set xs k y) k ≡ Some y
get-put [] k y less = absurd (omega arith)
get-put (x ∷ xs) zero y less = refl
get-put (x ∷ xs) (suc k) y less = get-put xs k y (omega arith)

get-beside : {X : Type 0} (xs : List X) (k q : ℕ) (y : X) → (q ≡ k → ⊥) → slice_get (set xs k y) q ≡ slice_get xs q
get-beside [] k q y differ = refl
get-beside (x ∷ xs) zero zero y differ = absurd (differ refl)
get-beside (x ∷ xs) zero (suc q) y differ = refl
get-beside (x ∷ xs) (suc k) zero y differ = refl
get-beside (x ∷ xs) (suc k) (suc q) y differ = get-beside xs k q y (λ e. differ (ap suc e))

-- memos that differ at one number alone
stored_at : {X V : Type 0} (meaning : X → V) (first new_first : List X) (others new_others : List (ℕ × X)) (k : ℕ) (v : X)
    → fin.get (memo meaning new_first new_others) k ≡ Some (meaning v)
    → ((q : ℕ) → (q ≡ k → ⊥) → fin.get (memo meaning new_first new_others) q ≡ fin.get (memo meaning first others) q)
    → memo meaning new_first new_others ≡ fin.insert (memo meaning first others) k (meaning v)
stored_at {X = X} {V = V} meaning first new_first others new_others k v here elsewhere =
    same_map nat_cmp_total nat_cmp-IsAntisymmetric (memo meaning new_first new_others) (fin.insert (memo meaning first others) k (meaning v))
    (λ q. at q (q == k) refl ∙ sym (get-insert nat_cmp_total (memo meaning first others) k (meaning v) q))
  where
    at : (q : ℕ) (t : Bool) → (q == k) ≡ t → fin.get (memo meaning new_first new_others) q ≡ cond (eq_by_cmp nat_cmp q k) (Some (meaning v)) (fin.get (memo meaning first others) q)
    at q true e =
        let same = eqb-true q k e in
        ap (fin.get (memo meaning new_first new_others)) same ∙ here
        ∙ sym (ap (λ (b : Bool). cond b (Some (meaning v)) (fin.get (memo meaning first others) q)) (same_key q k same))
    at q false e =
        elsewhere q (λ same. differs q same e)
        ∙ sym (ap (λ (b : Bool). cond b (Some (meaning v)) (fin.get (memo meaning first others) q)) (unsigned_tied q k ∙ e))
      where
        differs : (q : ℕ) → q ≡ k → (q == k) ≡ false → ⊥
        differs q same e = let yes = eq-eqb q k same in cc

pub memo-pushed : {X V : Type 0} (meaning : X → V) (first : List X) (others : List (ℕ × X)) (k : ℕ) (v : X) → k ≡ length first
    → memo meaning (first ++ v ∷ []) others ≡ fin.insert (memo meaning first others) k (meaning v)
memo-pushed {X = X} {V = V} meaning first others k v at =
    stored_at meaning first (first ++ v ∷ []) others others k v
    (get-memo meaning (first ++ v ∷ []) others k
    ∙ ap (λ (o : Option X). or_else (option_map meaning o) (option_map meaning (lookup (is_at (nat_cmp k)) others))) (ap (slice_get (first ++ v ∷ [])) at ∙ get-end first v))
    (λ q differ.
    get-memo meaning (first ++ v ∷ []) others q
    ∙ ap (λ (o : Option X). or_else (option_map meaning o) (option_map meaning (lookup (is_at (nat_cmp q)) others))) (beside q differ (cases_lt q (length first)))
    ∙ sym (get-memo meaning first others q))
  where
    beside : (q : ℕ) → (q ≡ k → ⊥) → (q < length first) ⊎ (length first ≤ q) → slice_get (first ++ v ∷ []) q ≡ slice_get first q
    beside q differ (inl less) = get-front first (v ∷ []) q less
    beside q differ (inr more) =
        let over : length (first ++ v ∷ []) ≤ q = past q differ more in
        slice_get_past (first ++ v ∷ []) q over ∙ sym (slice_get_past first q more)
      where
        past : (q : ℕ) → (q ≡ k → ⊥) → length first ≤ q → length (first ++ v ∷ []) ≤ q
        past q differ more = of_case (cases_lt (length first) q)
          where
            of_case : (length first < q) ⊎ (q ≤ length first) → length (first ++ v ∷ []) ≤ q
            of_case (inl less) = omega (arith, length-append first (v ∷ []))
            of_case (inr le) = let same : q ≡ k = omega (arith, more, at) in absurd (differ same)

pub memo-set : {X V : Type 0} (meaning : X → V) (first : List X) (others : List (ℕ × X)) (k : ℕ) (v : X) → k < length first
    → memo meaning (set first k v) others ≡ fin.insert (memo meaning first others) k (meaning v)
memo-set {X = X} {V = V} meaning first others k v less =
    stored_at meaning first (set first k v) others others k v
    (get-memo meaning (set first k v) others k
    ∙ ap (λ (o : Option X). or_else (option_map meaning o) (option_map meaning (lookup (is_at (nat_cmp k)) others))) (get-put first k v less))
    (λ q differ.
    get-memo meaning (set first k v) others q
    ∙ ap (λ (o : Option X). or_else (option_map meaning o) (option_map meaning (lookup (is_at (nat_cmp q)) others))) (get-beside first k q v differ)
    ∙ sym (get-memo meaning first others q))

-- entries that differ at one number past the first
pub memo-others : {X V : Type 0} (meaning : X → V) (first : List X) (others new_others : List (ℕ × X)) (k : ℕ) (v : X) → length first ≤ k
    → ((q : ℕ) → lookup (is_at (nat_cmp q)) new_others ≡ cond (is_at (nat_cmp k) q) (Some v) (lookup (is_at (nat_cmp q)) others))
    → memo meaning first new_others ≡ fin.insert (memo meaning first others) k (meaning v)
memo-others {X = X} {V = V} meaning first others new_others k v more updates =
    stored_at meaning first first others new_others k v
    (get-memo meaning first new_others k
    ∙ ap (λ (o : Option X). or_else (option_map meaning o) (option_map meaning (lookup (is_at (nat_cmp k)) new_others))) (slice_get_past first k more)
    ∙ ap (option_map meaning) (updates k ∙ ap (λ (b : Bool). cond b (Some v) (lookup (is_at (nat_cmp k)) others)) (same_key k k refl)))
    (λ q differ.
    get-memo meaning first new_others q
    ∙ ap (λ (o : Option X). or_else (option_map meaning (slice_get first q)) (option_map meaning o)) (updates q ∙ ap (λ (b : Bool). cond b (Some v) (lookup (is_at (nat_cmp q)) others)) (other_key k q (λ e. differ (sym e))))
    ∙ sym (get-memo meaning first others q))

-- an element that is pushed, and then takes the place of another
swap_end : {X : Type 0} (xs : List X) (k : ℕ) (y : X) → k < length xs → take (length xs) (set (xs ++ y ∷ []) k y) ≡ set xs k y
swap_end [] k y less = absurd (omega arith)
swap_end (x ∷ xs) zero y less = ap (λ (ys : List _). y ∷ ys) (take-append_seam xs (y ∷ []))
swap_end (x ∷ xs) (suc k) y less = ap (λ (ys : List _). x ∷ ys) (swap_end xs k y (omega arith))

pub swapped : {X : Type 0} (xs : List X) (k : ℕ) (y d : X) → k < length xs → swap_remove (xs ++ y ∷ []) k d ≡ set xs k y
swapped xs k y d less =
    let one_less : length (xs ++ y ∷ []) - 1 ≡ length xs = omega (arith, length-append xs (y ∷ [])) in
    let last : get_or (xs ++ y ∷ []) (length xs) d ≡ y = get_or-append_right xs (y ∷ []) (length xs) (length xs) d refl (omega arith) ∙ ap (λ (n : ℕ). get_or (y ∷ []) n d) (none (length xs)) in
    ap (λ (n : ℕ). take n (set (xs ++ y ∷ []) k (get_or (xs ++ y ∷ []) n d))) one_less
    ∙ ap (λ z. take (length xs) (set (xs ++ y ∷ []) k z)) last
    ∙ swap_end xs k y less
  where
    none : (n : ℕ) → n - n ≡ 0
    none n = omega arith
