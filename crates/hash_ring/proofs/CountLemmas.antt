-- How many distinct nodes a list has.
use Rattle.std.proofs.Common.{◌≡◌, ℕ, suc, ◌<◌, ◌≤◌, true, false, cond, not, eqb, ◌||◌, List, [], ◌∷◌, ◌++◌, length, refl, sym, ap, ◌∙◌, arith}
use Rattle.std.specs.List.{list_any}
use Rattle.std.proofs.lemmas.Bool.{eqb-true, eq-eqb, false≢true}
use Rattle.std.proofs.lemmas.Bool.Decides.{nat_tests}
use Rattle.relay_base.specs.declared.dest_id.DestId.{DestId}
use Rattle.hash_ring.specs.Walk.{taken_by}
use Rattle.hash_ring.proofs.BoolLemmas.{or_regroup}
use Rattle.hash_ring.proofs.TakenLemmas.{same_mark, is_in, others, is_in_others, is_in-taken}

-- no node is there twice
abbrev pub NoRepeat : (mark : DestId → ℕ) → List DestId → Type 0
NoRepeat mark [] = Unit {0}
NoRepeat mark (n ∷ ns) = (is_in mark n ns ≡ false) × NoRepeat mark ns

-- of two nodes that are the same, one is in a list if the other is
is_in_same : (mark : DestId → ℕ) (x y : DestId) (ns : List DestId) → same_mark mark x y ≡ true → is_in mark x ns ≡ is_in mark y ns
is_in_same mark x y ns same = ap (λ j. list_any (λ (m : DestId). eqb (mark m) j) ns) (eqb-true (mark x) (mark y) same)

apart_from_member : (mark : DestId → ℕ) (x y : DestId) (ns : List DestId) → is_in mark x ns ≡ false → is_in mark y ns ≡ true → same_mark mark x y ≡ false
apart_from_member mark x y ns missing there =
    elim (same_mark mark x y) as (λ b. same_mark mark x y ≡ b → b ≡ false) [
      | true ↦ λ e. absurd (false≢true (sym missing ∙ is_in_same mark x y ns e ∙ there))
      | false ↦ λ _. refl
    ] refl

flipped : (mark : DestId → ℕ) (x n : DestId) → same_mark mark x n ≡ false → same_mark mark n x ≡ false
flipped mark x n e = grind (arith, nat_tests)

not_in_others : (mark : DestId → ℕ) (x : DestId) (ns : List DestId) → is_in mark x (others mark x ns) ≡ false
not_in_others mark x [] = refl
not_in_others mark x (n ∷ ns) =
    let rest : is_in mark x (others mark x ns) ≡ false = not_in_others mark x ns in
    elim (same_mark mark x n) as (λ b. same_mark mark x n ≡ b → is_in mark x (cond (not b) (n ∷ others mark x ns) (others mark x ns)) ≡ false) [
      | true ↦ λ _. rest
      | false ↦ λ e. ap (λ b. b || is_in mark x (others mark x ns)) (flipped mark x n e) ∙ rest
    ] refl

NoRepeat-others : (mark : DestId → ℕ) (x : DestId) (ns : List DestId) → NoRepeat mark ns → NoRepeat mark (others mark x ns)
NoRepeat-others mark x [] once = tt
NoRepeat-others mark x (n ∷ ns) once =
    let rest : NoRepeat mark (others mark x ns) = NoRepeat-others mark x ns once.1 in
    elim (same_mark mark x n) as (λ b. same_mark mark x n ≡ b → NoRepeat mark (cond (not b) (n ∷ others mark x ns) (others mark x ns))) [
      | true ↦ λ _. rest
      | false ↦ λ e. (is_in_others mark x n ns e ∙ once.0, rest)
    ] refl

pub NoRepeat-taken : (mark : DestId → ℕ) (ns : List DestId) → NoRepeat mark (taken_by mark ns)
NoRepeat-taken mark [] = tt
NoRepeat-taken mark (n ∷ ns) = (not_in_others mark n (taken_by mark ns), NoRepeat-others mark n (taken_by mark ns) (NoRepeat-taken mark ns))

length_others : (mark : DestId → ℕ) (x : DestId) (ns : List DestId) → length (others mark x ns) ≤ length ns
length_others mark x [] = omega arith
length_others mark x (n ∷ ns) =
    let rest : length (others mark x ns) ≤ length ns = length_others mark x ns in
    elim (same_mark mark x n) as (λ b. length (cond (not b) (n ∷ others mark x ns) (others mark x ns)) ≤ suc (length ns)) [ true ↦ omega arith | false ↦ omega arith ]

fewer_others : (mark : DestId → ℕ) (x : DestId) (ns : List DestId) → is_in mark x ns ≡ true → length (others mark x ns) < length ns
fewer_others mark x [] there = absurd (false≢true there)
fewer_others mark x (n ∷ ns) there =
    let rest = fewer_others mark x ns in
    let most : length (others mark x ns) ≤ length ns = length_others mark x ns in
    elim (same_mark mark x n) as (λ b. same_mark mark x n ≡ b → length (cond (not b) (n ∷ others mark x ns) (others mark x ns)) < suc (length ns)) [
      | true ↦ λ _. omega arith
      | false ↦ λ e. let less : length (others mark x ns) < length ns = rest (sym (ap (λ b. b || is_in mark x ns) (flipped mark x n e)) ∙ there) in omega arith
    ] refl

-- every node of one list is in the other
abbrev pub AllIn : (mark : DestId → ℕ) → List DestId → List DestId → Type 0
AllIn mark ns ms = (y : DestId) → is_in mark y ns ≡ true → is_in mark y ms ≡ true

in_tail : (mark : DestId → ℕ) (x y : DestId) (ns : List DestId) → is_in mark y ns ≡ true → is_in mark y (x ∷ ns) ≡ true
in_tail mark x y ns there = elim (same_mark mark x y) as (λ b. (b || is_in mark y ns) ≡ true) [ true ↦ refl | false ↦ there ]

in_head : (mark : DestId → ℕ) (x : DestId) (ns : List DestId) → is_in mark x (x ∷ ns) ≡ true
in_head mark x ns = ap (λ b. b || is_in mark x ns) (eq-eqb (mark x) (mark x) refl)

AllIn-tail : (mark : DestId → ℕ) (x : DestId) (ns ms : List DestId) → is_in mark x ns ≡ false → AllIn mark (x ∷ ns) ms → AllIn mark ns (others mark x ms)
AllIn-tail mark x ns ms once all = λ y there. is_in_others mark x y ms (apart_from_member mark x y ns once there) ∙ all y (in_tail mark x y ns there)

pub length_all_in : (mark : DestId → ℕ) (ns ms : List DestId) → NoRepeat mark ns → AllIn mark ns ms → length ns ≤ length ms
length_all_in mark [] ms once all = omega arith
length_all_in mark (n ∷ ns) ms once all =
    let less : length (others mark n ms) < length ms = fewer_others mark n ms (all n (in_head mark n ns)) in
    let rest : length ns ≤ length (others mark n ms) = length_all_in mark ns (others mark n ms) once.1 (AllIn-tail mark n ns ms once.0 all) in
    omega arith

-- lists with the same nodes have as many distinct ones
pub length-taken_same : (mark : DestId → ℕ) (ns ms : List DestId) → ((y : DestId) → is_in mark y ns ≡ is_in mark y ms) → length (taken_by mark ns) ≡ length (taken_by mark ms)
length-taken_same mark ns ms same =
    let same' : (y : DestId) → is_in mark y (taken_by mark ns) ≡ is_in mark y (taken_by mark ms) = λ y. is_in-taken mark y ns ∙ same y ∙ sym (is_in-taken mark y ms) in
    let up : length (taken_by mark ns) ≤ length (taken_by mark ms) = length_all_in mark (taken_by mark ns) (taken_by mark ms) (NoRepeat-taken mark ns) (λ y h. sym (same' y) ∙ h) in
    let down : length (taken_by mark ms) ≤ length (taken_by mark ns) = length_all_in mark (taken_by mark ms) (taken_by mark ns) (NoRepeat-taken mark ms) (λ y h. same' y ∙ h) in
    omega arith

-- there are no more distinct nodes than nodes
pub length-taken : (mark : DestId → ℕ) (ns : List DestId) → length (taken_by mark ns) ≤ length ns
length-taken mark [] = omega arith
length-taken mark (n ∷ ns) =
    let rest : length (taken_by mark ns) ≤ length ns = length-taken mark ns in
    let fewer : length (others mark n (taken_by mark ns)) ≤ length (taken_by mark ns) = length_others mark n (taken_by mark ns) in
    omega arith

pub is_in_append : (mark : DestId → ℕ) (y : DestId) (ns ms : List DestId) → is_in mark y (ns ++ ms) ≡ (is_in mark y ns || is_in mark y ms)
is_in_append mark y [] ms = refl
is_in_append mark y (n ∷ ns) ms = ap (λ b. same_mark mark n y || b) (is_in_append mark y ns ms) ∙ or_regroup (same_mark mark n y) (is_in mark y ns) (is_in mark y ms)
