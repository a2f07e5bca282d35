-- The nodes taken from a growing list.
use Rattle.std.proofs.Common.{◌≡◌, ℕ, ◌≤◌, Bool, true, false, cond, not, eqb, ◌||◌, List, [], ◌∷◌, ◌++◌, filter, take, length, refl, sym, ap, ◌∙◌, subst, arith, append_assoc, length-append, append-nil}
use Rattle.std.specs.List.{list_any}
use Rattle.std.proofs.lemmas.Bool.{eqb-true}
use Rattle.std.proofs.lemmas.List.{take-append-le}
use Rattle.std.proofs.lemmas.List.Elements.{filter-append}
use Rattle.relay_base.specs.declared.dest_id.DestId.{DestId}
use Rattle.relay_base.specs.DestIds.{first_mentions}
use Rattle.hash_ring.specs.Walk.{taken_by}

-- whether two nodes have one mark
abbrev pub same_mark : (DestId → ℕ) → DestId → DestId → Bool
same_mark mark a b = eqb (mark a) (mark b)

-- whether a list has a node with the mark of this one
abbrev pub is_in : (DestId → ℕ) → DestId → List DestId → Bool
is_in mark n ns = list_any (λ m. same_mark mark m n) ns

-- the nodes with other marks
abbrev pub others : (DestId → ℕ) → DestId → List DestId → List DestId
others mark n ns = filter (λ m. not (same_mark mark n m)) ns

-- a node itself as its mark
abbrev pub id_of : DestId → ℕ
id_of n = n.0

-- nodes that are their own marks are taken at their first mention
pub taken_is_mentions : (ns : List DestId) → taken_by id_of ns ≡ first_mentions ns
taken_is_mentions [] = refl
taken_is_mentions (n ∷ ns) = ap (λ l. n ∷ others id_of n l) (taken_is_mentions ns)

other_mark : (mark : DestId → ℕ) (x n y : DestId) → same_mark mark x n ≡ true → same_mark mark x y ≡ false → same_mark mark n y ≡ false
other_mark mark x n y same apart = subst (λ k. eqb k (mark y) ≡ false) (eqb-true (mark x) (mark n) same) apart

pub is_in_others : (mark : DestId → ℕ) (x y : DestId) (ns : List DestId) → same_mark mark x y ≡ false → is_in mark y (others mark x ns) ≡ is_in mark y ns
is_in_others mark x y [] apart = refl
is_in_others mark x y (n ∷ ns) apart =
    let rest : is_in mark y (others mark x ns) ≡ is_in mark y ns = is_in_others mark x y ns apart in
    elim (same_mark mark x n) as (λ b. same_mark mark x n ≡ b → is_in mark y (cond (not b) (n ∷ others mark x ns) (others mark x ns)) ≡ (same_mark mark n y || is_in mark y ns)) [
      | true ↦ λ e. rest ∙ sym (ap (λ b. b || is_in mark y ns) (other_mark mark x n y e apart))
      | false ↦ λ _. ap (λ b. same_mark mark n y || b) rest
    ] refl

-- the distinct nodes are those of the list
pub is_in-taken : (mark : DestId → ℕ) (y : DestId) (ns : List DestId) → is_in mark y (taken_by mark ns) ≡ is_in mark y ns
is_in-taken mark y [] = refl
is_in-taken mark y (n ∷ ns) =
    let rest : is_in mark y (taken_by mark ns) ≡ is_in mark y ns = is_in-taken mark y ns in
    elim (same_mark mark n y) as (λ b. same_mark mark n y ≡ b → (b || is_in mark y (others mark n (taken_by mark ns))) ≡ (b || is_in mark y ns)) [
      | true ↦ λ _. refl
      | false ↦ λ e. is_in_others mark n y (taken_by mark ns) e ∙ rest
    ] refl

last_node : (n y : DestId) (b : Bool) (ds : List DestId) → (n ∷ (ds ++ cond (not b) (y ∷ []) [])) ≡ cond (b || false) (n ∷ ds) ((n ∷ ds) ++ y ∷ [])
last_node n y true ds = ap (λ l. n ∷ l) (append-nil ds)
last_node n y false ds = refl

others_pushed : (mark : DestId → ℕ) (n y : DestId) (b : Bool) (ds : List DestId)
    → (n ∷ others mark n (cond b ds (ds ++ y ∷ []))) ≡ cond (same_mark mark n y || b) (n ∷ others mark n ds) ((n ∷ others mark n ds) ++ y ∷ [])
others_pushed mark n y true ds =
    elim (same_mark mark n y) as (λ t. (n ∷ others mark n ds) ≡ cond (t || true) (n ∷ others mark n ds) ((n ∷ others mark n ds) ++ y ∷ [])) [ true ↦ refl | false ↦ refl ]
others_pushed mark n y false ds =
    ap (λ l. n ∷ l) (filter-append (λ m. not (same_mark mark n m)) ds (y ∷ []))
    ∙ last_node n y (same_mark mark n y) (others mark n ds)

-- one more node at the end
pub taken-push : (mark : DestId → ℕ) (ns : List DestId) (y : DestId) → taken_by mark (ns ++ y ∷ []) ≡ cond (is_in mark y ns) (taken_by mark ns) (taken_by mark ns ++ y ∷ [])
taken-push mark [] y = refl
taken-push mark (n ∷ ns) y =
    let rest : taken_by mark (ns ++ y ∷ []) ≡ cond (is_in mark y ns) (taken_by mark ns) (taken_by mark ns ++ y ∷ []) = taken-push mark ns y in
    ap (λ l. n ∷ others mark n l) rest ∙ others_pushed mark n y (is_in mark y ns) (taken_by mark ns)

length_pushed : (w : ℕ) (y : DestId) (b : Bool) (ds : List DestId) → w ≤ length ds → w ≤ length (cond b ds (ds ++ y ∷ []))
length_pushed w y true ds full = full
length_pushed w y false ds full = omega (arith, length-append ds (y ∷ []))

take_pushed : (w : ℕ) (y : DestId) (b : Bool) (ds : List DestId) → w ≤ length ds → take w (cond b ds (ds ++ y ∷ [])) ≡ take w ds
take_pushed w y true ds full = refl
take_pushed w y false ds full = take-append-le w ds (y ∷ []) full

-- a full choice does not change
pub take-taken_more : (mark : DestId → ℕ) (w : ℕ) (ms ns : List DestId) → w ≤ length (taken_by mark ms) → take w (taken_by mark (ms ++ ns)) ≡ take w (taken_by mark ms)
take-taken_more mark w ms [] full = ap (λ l. take w (taken_by mark l)) (append-nil ms)
take-taken_more mark w ms (n ∷ ns) full =
    let pushed : taken_by mark (ms ++ n ∷ []) ≡ cond (is_in mark n ms) (taken_by mark ms) (taken_by mark ms ++ n ∷ []) = taken-push mark ms n in
    let kept = take_pushed w n (is_in mark n ms) (taken_by mark ms) full in
    let longer : w ≤ length (taken_by mark (ms ++ n ∷ [])) = subst (λ l. w ≤ length l) (sym pushed) (length_pushed w n (is_in mark n ms) (taken_by mark ms) full) in
    ap (λ l. take w (taken_by mark l)) (sym (append_assoc ms (n ∷ []) ns)) ∙ take-taken_more mark w (ms ++ n ∷ []) ns longer ∙ ap (take w) pushed ∙ kept
