-- Choices have no node twice, and have nodes of the destinations.
use Rattle.std.proofs.Common.{◌≡◌, ℕ, zero, suc, ◌+◌, ◌≤◌, Bool, true, false, not, cond, ltb, ◌&&◌, ◌||◌, List, [], ◌∷◌, ◌++◌, map, filter, take, length, flat_map, refl, sym, ap, ◌∙◌, subst, arith, append_assoc, append-nil}
use Rattle.std.specs.List.{range_with_len, enumerate_from, list_all, IsDistinct, AllByRecursion}
use Rattle.std.proofs.lemmas.Bool.{and_parts, and_from, eqb-true, eq-eqb, lt-ltb, false≢true}
use Rattle.std.proofs.lemmas.List.{map-append}
use Rattle.std.proofs.lemmas.List.Folds.{list_all-append}
use Rattle.conf_text.specs.Destination.{Destination}
use Rattle.relay_base.specs.declared.dest_id.DestId.{DestId}
use Rattle.relay_base.specs.DestIds.{same_id, are_below, NamesEachOnce}
use Rattle.hash_ring.specs.Entry.{Entry, Ring, place_of, node_of}
use Rattle.hash_ring.specs.Placing.{free_place, with_entry, with_entries, replica, replicas, entries_of}
use Rattle.hash_ring.specs.Walk.{in_rising_order, walk, taken_by, mark_of, choice}
use Rattle.hash_ring.specs.Laws.{ChoiceNamesEachOnce, ChoiceStaysBelow, DiverseChoiceIsApart}
use Rattle.hash_ring.proofs.BoolLemmas.{or_true}
use Rattle.hash_ring.proofs.TakenLemmas.{same_mark, is_in, others, id_of}
use Rattle.hash_ring.proofs.WalkLemmas.{is_in_rising, is_in_walk}

-- ---- some of the first

apart-take : (mark : DestId → ℕ) (n : DestId) (k : ℕ) (ns : List DestId) → AllByRecursion (λ other. same_mark mark n other ≡ false) ns → AllByRecursion (λ other. same_mark mark n other ≡ false) (take k ns)
apart-take mark n zero ns apart = tt
apart-take mark n (suc k) [] apart = tt
apart-take mark n (suc k) (other ∷ ns) apart = (apart.0, apart-take mark n k ns apart.1)

once-take : (mark : DestId → ℕ) (k : ℕ) (ns : List DestId) → IsDistinct (same_mark mark) ns → IsDistinct (same_mark mark) (take k ns)
unfolding IsDistinct
once-take mark zero ns once = tt
once-take mark (suc k) [] once = tt
once-take mark (suc k) (n ∷ ns) once = (apart-take mark n k ns once.0, once-take mark k ns once.1)

-- ---- what is taken has each mark once

apart-filter : (mark : DestId → ℕ) (keep : DestId → Bool) (n : DestId) (ns : List DestId) → AllByRecursion (λ other. same_mark mark n other ≡ false) ns
    → AllByRecursion (λ other. same_mark mark n other ≡ false) (filter keep ns)
apart-filter mark keep n [] all = tt
apart-filter mark keep n (other ∷ ns) all =
    let rest = apart-filter mark keep n ns all.1 in
    elim (keep other) as (λ b. AllByRecursion (λ o. same_mark mark n o ≡ false) (cond b (other ∷ filter keep ns) (filter keep ns))) [ true ↦ (all.0, rest) | false ↦ rest ]

once-filter : (mark : DestId → ℕ) (keep : DestId → Bool) (ns : List DestId) → IsDistinct (same_mark mark) ns → IsDistinct (same_mark mark) (filter keep ns)
unfolding IsDistinct
once-filter mark keep [] once = tt
once-filter mark keep (n ∷ ns) once =
    let rest = once-filter mark keep ns once.1 in
    elim (keep n) as (λ b. IsDistinct (same_mark mark) (cond b (n ∷ filter keep ns) (filter keep ns))) [ true ↦ (apart-filter mark keep n ns once.0, rest) | false ↦ rest ]

others_differ : (mark : DestId → ℕ) (n : DestId) (ns : List DestId) → AllByRecursion (λ other. same_mark mark n other ≡ false) (others mark n ns)
others_differ mark n [] = tt
others_differ mark n (other ∷ ns) =
    let rest = others_differ mark n ns in
    elim (same_mark mark n other) as (λ b. same_mark mark n other ≡ b → AllByRecursion (λ o. same_mark mark n o ≡ false) (cond (not b) (other ∷ others mark n ns) (others mark n ns))) [
      | true ↦ λ _. rest
      | false ↦ λ e. (e, rest)
    ] refl

pub taken_once : (mark : DestId → ℕ) (ns : List DestId) → IsDistinct (same_mark mark) (taken_by mark ns)
unfolding IsDistinct
taken_once mark [] = tt
taken_once mark (n ∷ ns) = (others_differ mark n (taken_by mark ns), once-filter mark (λ other. not (same_mark mark n other)) (taken_by mark ns) (taken_once mark ns))

-- nodes with different marks are different
other_ids : (mark : DestId → ℕ) (n m : DestId) → same_mark mark n m ≡ false → same_id n m ≡ false
other_ids mark n m apart =
    elim (same_id n m) as (λ b. same_id n m ≡ b → b ≡ false) [
      | true ↦ λ e.
          let same : n ≡ m = ap (λ (k : ℕ). let d : DestId = record { 0 = k } in d) (eqb-true (n.0) (m.0) e) in
          absurd (false≢true (sym apart ∙ eq-eqb (mark n) (mark m) (ap mark same)))
      | false ↦ λ _. refl
    ] refl

other_ids-all : (mark : DestId → ℕ) (n : DestId) (ns : List DestId) → AllByRecursion (λ other. same_mark mark n other ≡ false) ns → AllByRecursion (λ other. same_id n other ≡ false) ns
other_ids-all mark n [] apart = tt
other_ids-all mark n (m ∷ ms) apart = (other_ids mark n m apart.0, other_ids-all mark n ms apart.1)

once-ids : (mark : DestId → ℕ) (ns : List DestId) → IsDistinct (same_mark mark) ns → NamesEachOnce ns
unfolding IsDistinct
once-ids mark [] once = tt
once-ids mark (n ∷ ns) once = (other_ids-all mark n ns once.0, once-ids mark ns once.1)

choice_marks_once : (ring : Ring) (p factor : ℕ) (diverse : Bool) → IsDistinct (same_mark (mark_of ring.servers diverse)) (choice ring p factor diverse)
choice_marks_once ring p factor diverse =
    let mark = mark_of ring.servers diverse in
    let nodes = map node_of (walk ring.entries p) in
    once-take mark factor (taken_by mark nodes) (taken_once mark nodes)

pub choice_once : ChoiceNamesEachOnce
choice_once = λ ring p factor diverse. once-ids (mark_of ring.servers diverse) (choice ring p factor diverse) (choice_marks_once ring p factor diverse)

pub choice_apart : DiverseChoiceIsApart
choice_apart = λ ring p factor. choice_marks_once ring p factor true

-- ---- nodes of the first destinations, up to a number

below-is_in : (count : ℕ) (ns : List DestId) (n : DestId) → are_below count ns ≡ true → is_in id_of n ns ≡ true → ltb (n.0) count ≡ true
below-is_in count [] n below there = absurd (false≢true there)
below-is_in count (m ∷ ms) n below there =
    let both = and_parts (ltb (m.0) count) (are_below count ms) below in
    let rest = below-is_in count ms n both.1 in
    elim (same_id m n) as (λ b. same_id m n ≡ b → (b || is_in id_of n ms) ≡ true → ltb (n.0) count ≡ true) [
      | true ↦ λ e _. subst (λ k. ltb k count ≡ true) (eqb-true (m.0) (n.0) e) both.0
      | false ↦ λ _ h. rest h
    ] refl there

below-from : (count : ℕ) (ns : List DestId) → ((n : DestId) → is_in id_of n ns ≡ true → ltb (n.0) count ≡ true) → are_below count ns ≡ true
below-from count [] each = refl
below-from count (m ∷ ms) each =
    and_from (ltb (m.0) count) (are_below count ms) (each m (ap (λ b. b || is_in id_of m ms) (eq-eqb (m.0) (m.0) refl)))
    (below-from count ms (λ n there. each n (or_true (same_id m n) (is_in id_of n ms) there)))

-- entries in another order have nodes of the same number of destinations
below-same : (count : ℕ) (es fs : List Entry) → ((n : DestId) → is_in id_of n (map node_of fs) ≡ is_in id_of n (map node_of es)) → are_below count (map node_of es) ≡ true → are_below count (map node_of fs) ≡ true
below-same count es fs same below = below-from count (map node_of fs) (λ n there. below-is_in count (map node_of es) n below (sym (same n) ∙ there))

pub below_rising : (count : ℕ) (es : List Entry) → are_below count (map node_of es) ≡ true → are_below count (map node_of (in_rising_order es)) ≡ true
below_rising count es below = below-same count es (in_rising_order es) (λ n. is_in_rising id_of n es) below

below-filter : (keep : DestId → Bool) (count : ℕ) (ns : List DestId) → are_below count ns ≡ true → are_below count (filter keep ns) ≡ true
below-filter keep count [] below = refl
below-filter keep count (n ∷ ns) below =
    let both = and_parts (ltb (n.0) count) (are_below count ns) below in
    let rest = below-filter keep count ns both.1 in
    elim (keep n) as (λ b. are_below count (cond b (n ∷ filter keep ns) (filter keep ns)) ≡ true) [ true ↦ and_from (ltb (n.0) count) (are_below count (filter keep ns)) both.0 rest | false ↦ rest ]

pub below-taken : (mark : DestId → ℕ) (count : ℕ) (ns : List DestId) → are_below count ns ≡ true → are_below count (taken_by mark ns) ≡ true
below-taken mark count [] below = refl
below-taken mark count (n ∷ ns) below =
    let both = and_parts (ltb (n.0) count) (are_below count ns) below in
    and_from (ltb (n.0) count) (are_below count (others mark n (taken_by mark ns))) both.0
    (below-filter (λ other. not (same_mark mark n other)) count (taken_by mark ns) (below-taken mark count ns both.1))

below-take : (count k : ℕ) (ns : List DestId) → are_below count ns ≡ true → are_below count (take k ns) ≡ true
below-take count zero ns below = refl
below-take count (suc k) [] below = refl
below-take count (suc k) (n ∷ ns) below =
    let both = and_parts (ltb (n.0) count) (are_below count ns) below in
    and_from (ltb (n.0) count) (are_below count (take k ns)) both.0 (below-take count k ns both.1)

pub below-walk : (count : ℕ) (es : List Entry) (p : ℕ) → are_below count (map node_of es) ≡ true → are_below count (map node_of (walk es p)) ≡ true
below-walk count es p below = below-same count es (walk es p) (λ n. is_in_walk id_of n es p) below

pub choice_below : ChoiceStaysBelow
choice_below = λ count ring p factor diverse below.
    let mark = mark_of ring.servers diverse in
    let nodes = map node_of (walk ring.entries p) in
    below-take count factor (taken_by mark nodes) (below-taken mark count nodes (below-walk count ring.entries p below))

-- a test of each entry's node
pub below_all : (count : ℕ) (es : List Entry) → list_all (λ e. ltb (e.1.0) count) es ≡ are_below count (map node_of es)
below_all count [] = refl
below_all count (e ∷ es) = ap (λ b. ltb (e.1.0) count && b) (below_all count es)

-- ---- the ring of destinations

nodes-with_entries : (es ws : List Entry) → map node_of (with_entries es ws) ≡ map node_of es ++ map node_of ws
nodes-with_entries es [] = sym (append-nil (map node_of es))
nodes-with_entries es (w ∷ ws) =
    nodes-with_entries (with_entry es w) ws
    ∙ ap (λ l. l ++ map node_of ws) (map-append node_of es ((free_place es (place_of w), node_of w) ∷ []))
    ∙ append_assoc (map node_of es) (node_of w ∷ []) (map node_of ws)

replicas_below : (count : ℕ) (numbered : ℕ × Destination) (is : List ℕ) → ltb numbered.0 count ≡ true → are_below count (map node_of (map (replica numbered) is)) ≡ true
replicas_below count numbered [] below = refl
replicas_below count numbered (i ∷ is) below = and_from (ltb numbered.0 count) _ below (replicas_below count numbered is below)

placed_below : (count k : ℕ) (ds : List Destination) → k + length ds ≤ count → are_below count (map node_of (flat_map replicas (enumerate_from k ds))) ≡ true
placed_below count k [] within = refl
placed_below count k (d ∷ ds) within =
    ap (are_below count) (map-append node_of (replicas (k, d)) (flat_map replicas (enumerate_from (k + 1) ds)))
    ∙ list_all-append (λ (n : DestId). ltb n.0 count) (map node_of (replicas (k, d))) (map node_of (flat_map replicas (enumerate_from (k + 1) ds)))
    ∙ and_from _ _ (replicas_below count (k, d) (range_with_len 0 100) (lt-ltb k count (omega arith))) (placed_below count (k + 1) ds (omega arith))

-- their entries have nodes of these
pub entries_below : (ds : List Destination) → are_below (length ds) (map node_of (entries_of ds)) ≡ true
entries_below ds = ap (are_below (length ds)) (nodes-with_entries [] (flat_map replicas (enumerate_from 0 ds))) ∙ placed_below (length ds) 0 ds (omega arith)

-- and so has their ring
pub ring_below : (ds : List Destination) → are_below (length ds) (map node_of (in_rising_order (entries_of ds))) ≡ true
ring_below ds = below_rising (length ds) (entries_of ds) (entries_below ds)
