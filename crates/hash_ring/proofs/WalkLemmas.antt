-- The nodes of a walk are those of the entries.
use Rattle.std.proofs.Common.{◌≡◌, ℕ, true, false, cond, leb, ltb, ◌||◌, List, [], ◌∷◌, ◌++◌, map, take, min, length, refl, sym, ap, ◌∙◌}
use Rattle.std.proofs.lemmas.Bool.{leb-true, leb-false, le-ltb, lt-ltb}
use Rattle.std.proofs.lemmas.List.{map-append, take_min}
use Rattle.relay_base.specs.declared.dest_id.DestId.{DestId}
use Rattle.hash_ring.specs.Entry.{Entry, place_of, node_of}
use Rattle.hash_ring.specs.Walk.{in_rising_order, with_rising, from_position, below_position, walk, taken_by}
use Rattle.hash_ring.proofs.BoolLemmas.{or_swap, or_left}
use Rattle.hash_ring.proofs.TakenLemmas.{same_mark, is_in}
use Rattle.hash_ring.proofs.CountLemmas.{is_in_append, length-taken_same}

is_in_with_rising : (mark : DestId → ℕ) (y : DestId) (e : Entry) (es : List Entry) → is_in mark y (map node_of (with_rising e es)) ≡ (same_mark mark (node_of e) y || is_in mark y (map node_of es))
is_in_with_rising mark y e [] = refl
is_in_with_rising mark y e (x ∷ xs) =
    let rest = is_in_with_rising mark y e xs in
    elim (leb (place_of e) (place_of x)) as (λ b. is_in mark y (map node_of (cond b (e ∷ (x ∷ xs)) (x ∷ with_rising e xs))) ≡ (same_mark mark (node_of e) y || (same_mark mark (node_of x) y || is_in mark y (map node_of xs)))) [
      | true ↦ refl
      | false ↦ ap (λ b. same_mark mark (node_of x) y || b) rest ∙ or_swap (same_mark mark (node_of x) y) (same_mark mark (node_of e) y) (is_in mark y (map node_of xs))
    ]

-- in rising order they are the same
pub is_in_rising : (mark : DestId → ℕ) (y : DestId) (es : List Entry) → is_in mark y (map node_of (in_rising_order es)) ≡ is_in mark y (map node_of es)
is_in_rising mark y [] = refl
is_in_rising mark y (e ∷ es) = is_in_with_rising mark y e (in_rising_order es) ∙ ap (λ b. same_mark mark (node_of e) y || b) (is_in_rising mark y es)

is_in_parts : (mark : DestId → ℕ) (y : DestId) (p : ℕ) (es : List Entry) → (is_in mark y (map node_of (from_position p es)) || is_in mark y (map node_of (below_position p es))) ≡ is_in mark y (map node_of es)
is_in_parts mark y p [] = refl
is_in_parts mark y p (e ∷ es) =
    let rest = is_in_parts mark y p es in
    let a = is_in mark y (map node_of (from_position p es)) in
    let b = is_in mark y (map node_of (below_position p es)) in
    let n = same_mark mark (node_of e) y in
    elim (leb p (place_of e)) as (λ t. leb p (place_of e) ≡ t → (is_in mark y (map node_of (cond t (e ∷ from_position p es) (from_position p es))) || is_in mark y (map node_of (cond (ltb (place_of e) p) (e ∷ below_position p es) (below_position p es)))) ≡ (n || is_in mark y (map node_of es))) [
      | true ↦ λ h.
          ap (λ t. (n || a) || is_in mark y (map node_of (cond t (e ∷ below_position p es) (below_position p es)))) (le-ltb (place_of e) p (leb-true p (place_of e) h)) ∙ or_left n a b _ rest
      | false ↦ λ h.
          ap (λ t. a || is_in mark y (map node_of (cond t (e ∷ below_position p es) (below_position p es)))) (lt-ltb (place_of e) p (leb-false p (place_of e) h)) ∙ or_swap a n b ∙ ap (λ t. n || t) rest
    ] refl

-- the nodes of the walk are those of the entries
pub is_in_walk : (mark : DestId → ℕ) (y : DestId) (es : List Entry) (p : ℕ) → is_in mark y (map node_of (walk es p)) ≡ is_in mark y (map node_of es)
is_in_walk mark y es p =
    ap (is_in mark y) (map-append node_of (in_rising_order (from_position p es)) (in_rising_order (below_position p es)))
    ∙ is_in_append mark y (map node_of (in_rising_order (from_position p es))) (map node_of (in_rising_order (below_position p es)))
    ∙ ap (λ b. b || is_in mark y (map node_of (in_rising_order (below_position p es)))) (is_in_rising mark y (from_position p es))
    ∙ ap (λ b. is_in mark y (map node_of (from_position p es)) || b) (is_in_rising mark y (below_position p es))
    ∙ is_in_parts mark y p es

-- so there are as many to take
pub length-taken_of_walk : (mark : DestId → ℕ) (es : List Entry) (p : ℕ) → length (taken_by mark (map node_of (walk es p))) ≡ length (taken_by mark (map node_of es))
length-taken_of_walk mark es p = length-taken_same mark (map node_of (walk es p)) (map node_of es) (λ y. is_in_walk mark y es p)

-- the choice, from the two parts of the walk and the number of nodes that can be taken
pub choice_from_parts : (mark : DestId → ℕ) (es above below : List Entry) (p factor count : ℕ) → above ≡ in_rising_order (from_position p es) → below ≡ in_rising_order (below_position p es) → count ≡ length (taken_by mark (map node_of es))
    → take (min factor count) (taken_by mark (map node_of above ++ map node_of below)) ≡ take factor (taken_by mark (map node_of (walk es p)))
choice_from_parts mark es above below p factor count is_above is_below counts =
    let ns = map node_of (walk es p) in
    let joined : map node_of above ++ map node_of below ≡ ns =
    ap (λ l. map node_of l ++ map node_of below) is_above ∙ ap (λ l. map node_of (in_rising_order (from_position p es)) ++ map node_of l) is_below ∙ sym (map-append node_of (in_rising_order (from_position p es)) (in_rising_order (below_position p es))) in
    let all : count ≡ length (taken_by mark ns) = counts ∙ sym (length-taken_of_walk mark es p) in
    ap (λ l. take (min factor count) (taken_by mark l)) joined ∙ ap (λ n. take (min factor n) (taken_by mark ns)) all ∙ take_min factor (taken_by mark ns)
