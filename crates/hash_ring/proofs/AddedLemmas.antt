-- Entries of a new node.
use Rattle.std.proofs.Common.{◌≡◌, ℕ, zero, suc, ◌+◌, ◌<◌, ◌≤◌, Bool, true, false, cond, not, eqb, leb, ltb, List, [], ◌∷◌, ◌++◌, map, filter, take, length, All, Contains, flat_map, refl, sym, ap, ◌∙◌, subst, arith, append-nil, zero-add}
use Rattle.std.specs.List.{range_with_len, enumerate_from}
use Rattle.std.proofs.lemmas.Bool.{eqb-true, eq-eqb}
use Rattle.std.proofs.lemmas.Bool.Decides.{nat_tests}
use Rattle.std.proofs.lemmas.List.Elements.{filter-append, All-head, All-tail}
use Rattle.std.proofs.lemmas.Grind.{flat_map-append}
use Rattle.conf_text.specs.Destination.{Destination}
use Rattle.relay_base.specs.declared.dest_id.DestId.{DestId}
use Rattle.relay_base.specs.DestIds.{same_id}
use Rattle.hash_ring.specs.Entry.{Entry, place_of, node_of}
use Rattle.hash_ring.specs.Placing.{free_place, with_entry, with_entries, replica, replicas, entries_of}
use Rattle.hash_ring.specs.Walk.{in_rising_order, from_position, below_position, walk, taken_by, mark_of, choice}
use Rattle.hash_ring.specs.Servers.{servers_of}
use Rattle.hash_ring.specs.Laws.{NodeTakenOffLeavesOthers, NewNodeTakesItsOwn, NewDestinationTakesItsOwn}
use Rattle.hash_ring.proofs.BoolLemmas.{or_false}
use Rattle.hash_ring.proofs.FilterLemmas.{filter_rising, filters_swap}
use Rattle.hash_ring.proofs.TakenLemmas.{same_mark, is_in, others, id_of}
use Rattle.hash_ring.proofs.LawLemmas.{contains_from_is_in, walk-rising}
use Rattle.hash_ring.proofs.BelowLemmas.{entries_below, below-walk}
use Rattle.hash_ring.proofs.ServerLemmas.{taken_agrees, servers-push}
use Rattle.hash_ring.proofs.PlacingLemmas.{with_entries-append}

-- whether an entry is of another node
abbrev pub of_another : DestId → Entry → Bool
of_another n e = not (same_id n (node_of e))

keep_old : (n : DestId) (es : List Entry) → All (λ e. same_id n (node_of e) ≡ false) es → filter (of_another n) es ≡ es
keep_old n [] all = refl
keep_old n (e ∷ es) all =
    ap (λ b. cond (not b) (e ∷ filter (of_another n) es) (filter (of_another n) es)) (All-head (λ x. same_id n (node_of x) ≡ false) e es all)
    ∙ ap (λ l. e ∷ l) (keep_old n es (All-tail (λ x. same_id n (node_of x) ≡ false) e es all))

drop_new : (n : DestId) (es : List Entry) → All (λ e. same_id n (node_of e) ≡ true) es → filter (of_another n) es ≡ []
drop_new n [] all = refl
drop_new n (e ∷ es) all =
    ap (λ b. cond (not b) (e ∷ filter (of_another n) es) (filter (of_another n) es)) (All-head (λ x. same_id n (node_of x) ≡ true) e es all)
    ∙ drop_new n es (All-tail (λ x. same_id n (node_of x) ≡ true) e es all)

old_again : (n : DestId) (es added : List Entry) → All (λ e. same_id n (node_of e) ≡ false) es → All (λ e. same_id n (node_of e) ≡ true) added → filter (of_another n) (es ++ added) ≡ es
old_again n es added old new =
    filter-append (of_another n) es added ∙ ap (λ l. l ++ filter (of_another n) added) (keep_old n es old) ∙ ap (λ l. es ++ l) (drop_new n added new) ∙ append-nil es

part_of_old : (n : DestId) (keep : Entry → Bool) (es grown : List Entry) → filter (of_another n) grown ≡ es → filter (of_another n) (in_rising_order (filter keep grown)) ≡ in_rising_order (filter keep es)
part_of_old n keep es grown old = filter_rising (of_another n) (filter keep grown) ∙ ap in_rising_order (filters_swap (of_another n) keep grown ∙ ap (filter keep) old)

-- the walk without the new node is the old one
walk_of_old : (n : DestId) (es grown : List Entry) (p : ℕ) → filter (of_another n) grown ≡ es → filter (of_another n) (walk grown p) ≡ walk es p
walk_of_old n es grown p old =
    filter-append (of_another n) (in_rising_order (from_position p grown)) (in_rising_order (below_position p grown))
    ∙ ap (λ l. l ++ filter (of_another n) (in_rising_order (below_position p grown))) (part_of_old n (λ e. leb p (place_of e)) es grown old)
    ∙ ap (λ l. in_rising_order (from_position p es) ++ l) (part_of_old n (λ e. ltb (place_of e) p) es grown old)

nodes_of_others : (n : DestId) (es : List Entry) → map node_of (filter (of_another n) es) ≡ others id_of n (map node_of es)
nodes_of_others n [] = refl
nodes_of_others n (e ∷ es) =
    let rest : map node_of (filter (of_another n) es) ≡ others id_of n (map node_of es) = nodes_of_others n es in
    elim (same_id n (node_of e)) as (λ b. map node_of (cond (not b) (e ∷ filter (of_another n) es) (filter (of_another n) es)) ≡ cond (not b) (node_of e ∷ others id_of n (map node_of es)) (others id_of n (map node_of es))) [
      | true ↦ rest
      | false ↦ ap (λ l. node_of e ∷ l) rest
    ]

others_same : (mark : DestId → ℕ) (n m : DestId) (ns : List DestId) → mark n ≡ mark m → others mark n ns ≡ others mark m ns
others_same mark n m ns same = ap (λ j. filter (λ (x : DestId). not (eqb j (mark x))) ns) same

others_twice : (mark : DestId → ℕ) (n : DestId) (ns : List DestId) → others mark n (others mark n ns) ≡ others mark n ns
others_twice mark n [] = refl
others_twice mark n (m ∷ ms) =
    let rest : others mark n (others mark n ms) ≡ others mark n ms = others_twice mark n ms in
    elim (same_mark mark n m) as (λ b. same_mark mark n m ≡ b → others mark n (cond (not b) (m ∷ others mark n ms) (others mark n ms)) ≡ cond (not b) (m ∷ others mark n ms) (others mark n ms)) [
      | true ↦ λ _. rest
      | false ↦ λ h. ap (λ b. cond (not b) (m ∷ others mark n (others mark n ms)) (others mark n (others mark n ms))) h ∙ ap (λ l. m ∷ l) rest
    ] refl

-- what is taken from the nodes with other marks is what is taken from all, less this mark
taken-others : (mark : DestId → ℕ) (n : DestId) (ns : List DestId) → taken_by mark (others mark n ns) ≡ others mark n (taken_by mark ns)
taken-others mark n [] = refl
taken-others mark n (m ∷ ms) =
    let rest : taken_by mark (others mark n ms) ≡ others mark n (taken_by mark ms) = taken-others mark n ms in
    elim (same_mark mark n m) as (λ b. same_mark mark n m ≡ b → taken_by mark (cond (not b) (m ∷ others mark n ms) (others mark n ms)) ≡ cond (not b) (m ∷ others mark n (others mark m (taken_by mark ms))) (others mark n (others mark m (taken_by mark ms)))) [
      | true ↦ λ h.
          rest ∙ sym (others_twice mark n (taken_by mark ms)) ∙ ap (others mark n) (others_same mark n m (taken_by mark ms) (eqb-true (mark n) (mark m) h))
      | false ↦ λ _. ap (λ l. m ∷ others mark m l) rest ∙ ap (λ l. m ∷ l) (filters_swap (λ x. not (same_mark mark m x)) (λ x. not (same_mark mark n x)) (taken_by mark ms))
    ] refl

flipped : (a b : DestId) → same_id a b ≡ false → same_id b a ≡ false
flipped a b h = grind (arith, nat_tests)

-- if a node is not among the first that are taken, the same are taken first without it
taken_without : (mark : DestId → ℕ) (n : DestId) (k : ℕ) (ns : List DestId) → is_in id_of n (take k (taken_by mark ns)) ≡ false → take k (taken_by mark (others id_of n ns)) ≡ take k (taken_by mark ns)
taken_without mark n zero ns missing = refl
taken_without mark n (suc k) [] missing = refl
taken_without mark n (suc k) (m ∷ ms) missing =
    let rest = others mark m ms in
    let inside : others mark m (taken_by mark ms) ≡ taken_by mark rest = sym (taken-others mark m ms) in
    let parts = or_false (same_id m n) (is_in id_of n (take k (others mark m (taken_by mark ms)))) missing in
    let later : is_in id_of n (take k (taken_by mark rest)) ≡ false = ap (λ l. is_in id_of n (take k l)) (sym inside) ∙ parts.1 in
    let outside : others mark m (taken_by mark (others id_of n ms)) ≡ taken_by mark (others id_of n rest) =
    sym (taken-others mark m (others id_of n ms)) ∙ ap (taken_by mark) (filters_swap (λ x. not (same_mark mark m x)) (λ x. not (same_mark id_of n x)) ms) in
    ap (λ b. take (suc k) (taken_by mark (cond (not b) (m ∷ others id_of n ms) (others id_of n ms)))) (flipped m n parts.0)
    ∙ ap (λ l. m ∷ take k l) outside ∙ ap (λ l. m ∷ l) (taken_without mark n k rest later) ∙ ap (λ l. m ∷ take k l) (sym inside)

missing_from_not : (n : DestId) (ns : List DestId) → ¬ Contains ns n → is_in id_of n ns ≡ false
missing_from_not n ns none =
    elim (is_in id_of n ns) as (λ b. is_in id_of n ns ≡ b → b ≡ false) [ true ↦ λ h. absurd (none (contains_from_is_in n ns h)) | false ↦ λ _. refl ] refl

choice_of_old : (n : DestId) (es grown : List Entry) (servers : List ℕ) (p factor : ℕ) (diverse : Bool) → filter (of_another n) grown ≡ es
    → ¬ Contains (choice (record { entries = grown; servers = servers }) p factor diverse) n
    → choice (record { entries = grown; servers = servers }) p factor diverse ≡ choice (record { entries = es; servers = servers }) p factor diverse
choice_of_old n es grown servers p factor diverse old none =
    let mark = mark_of servers diverse in
    let ns = map node_of (walk grown p) in
    let shorter : map node_of (walk es p) ≡ others id_of n ns = ap (map node_of) (sym (walk_of_old n es grown p old)) ∙ nodes_of_others n (walk grown p) in
    sym (ap (λ l. take factor (taken_by mark l)) shorter ∙ taken_without mark n factor ns (missing_from_not n (take factor (taken_by mark ns)) none))

pub choice_without : NodeTakenOffLeavesOthers
choice_without = λ ring n p factor diverse none. sym (choice_of_old n (filter (of_another n) ring.entries) ring.entries ring.servers p factor diverse refl none)

pub choice_added : NewNodeTakesItsOwn
choice_added = λ es added servers n old new p factor diverse none. choice_of_old n es (es ++ added) servers p factor diverse (old_again n es added old new) none

-- ---- one more destination

-- the nodes of all entries have numbers below k
abbrev NodesBelow : ℕ → List Entry → Type 0
NodesBelow k [] = Unit {0}
NodesBelow k (e ∷ es) = (e.1.0 < k) × NodesBelow k es

below_append : (k : ℕ) (es fs : List Entry) → NodesBelow k es → NodesBelow k fs → NodesBelow k (es ++ fs)
below_append k [] fs below below' = below'
below_append k (e ∷ es) fs below below' = (below.0, below_append k es fs below.1 below')

below_with_entries : (k : ℕ) (es ws : List Entry) → NodesBelow k es → NodesBelow k ws → NodesBelow k (with_entries es ws)
below_with_entries k es [] below below' = below
below_with_entries k es (w ∷ ws) below below' = below_with_entries k (with_entry es w) ws (below_append k es ((free_place es (place_of w), node_of w) ∷ []) below (below'.0, tt)) below'.1

below_replicas : (k i : ℕ) (d : Destination) (is : List ℕ) → i < k → NodesBelow k (map (replica (i, d)) is)
below_replicas k i d [] less = tt
below_replicas k i d (j ∷ js) less = (less, below_replicas k i d js less)

below_numbered : (k i : ℕ) (ds : List Destination) → i + length ds ≤ k → NodesBelow k (flat_map replicas (enumerate_from i ds))
below_numbered k i [] few = tt
below_numbered k i (d ∷ ds) few = below_append k (replicas (i, d)) (flat_map replicas (enumerate_from (i + 1) ds)) (below_replicas k i d (range_with_len 0 100) (omega arith)) (below_numbered k (i + 1) ds (omega arith))

other_number : (n k : ℕ) → k < n → eqb n k ≡ false
other_number n k less = grind (arith, nat_tests)

keep_below : (n : DestId) (es : List Entry) → NodesBelow (n.0) es → filter (of_another n) es ≡ es
keep_below n [] below = refl
keep_below n (e ∷ es) below =
    ap (λ b. cond (not b) (e ∷ filter (of_another n) es) (filter (of_another n) es)) (other_number (n.0) (e.1.0) below.0) ∙ ap (λ l. e ∷ l) (keep_below n es below.1)

drop_last : (n : DestId) (es : List Entry) (p : ℕ) → filter (of_another n) (es ++ (p, n) ∷ []) ≡ filter (of_another n) es
drop_last n es p =
    filter-append (of_another n) es ((p, n) ∷ [])
    ∙ ap (λ b. filter (of_another n) es ++ cond (not b) ((p, n) ∷ []) []) (eq-eqb (n.0) (n.0) refl) ∙ append-nil (filter (of_another n) es)

drop_replicas : (n : DestId) (es : List Entry) (d : Destination) (is : List ℕ) → filter (of_another n) (with_entries es (map (replica (n.0, d)) is)) ≡ filter (of_another n) es
drop_replicas n es d [] = refl
drop_replicas n es d (i ∷ is) = drop_replicas n (with_entry es (replica (n.0, d) i)) d is ∙ drop_last n es _

numbered_push : (i : ℕ) (ds : List Destination) (d : Destination) → enumerate_from i (ds ++ d ∷ []) ≡ enumerate_from i ds ++ (i + length ds, d) ∷ []
numbered_push i [] d = ap (λ k. (k, d) ∷ []) (omega arith)
numbered_push i (x ∷ xs) d =
    ap (λ l. (i, x) ∷ l) (numbered_push (i + 1) xs d) ∙ ap (λ k. (i, x) ∷ (enumerate_from (i + 1) xs ++ (k, d) ∷ [])) (omega arith)

-- the entries of one more destination are last
entries_of-push : (ds : List Destination) (d : Destination) → entries_of (ds ++ d ∷ []) ≡ with_entries (entries_of ds) (replicas (length ds, d))
entries_of-push ds d =
    ap (λ l. with_entries [] (flat_map replicas l)) (numbered_push 0 ds d ∙ ap (λ k. enumerate_from 0 ds ++ (k, d) ∷ []) (zero-add (length ds)))
    ∙ ap (with_entries []) (flat_map-append replicas (enumerate_from 0 ds) ((length ds, d) ∷ []) ∙ ap (λ l. flat_map replicas (enumerate_from 0 ds) ++ l) (append-nil (replicas (length ds, d))))
    ∙ with_entries-append [] (flat_map replicas (enumerate_from 0 ds)) (replicas (length ds, d))

old_destinations : (ds : List Destination) (d : Destination) → filter (of_another (record { 0 = length ds })) (entries_of (ds ++ d ∷ [])) ≡ entries_of ds
old_destinations ds d =
    let n : DestId = record { 0 = length ds } in
    ap (filter (of_another n)) (entries_of-push ds d) ∙ drop_replicas n (entries_of ds) d (range_with_len 0 100)
    ∙ keep_below n (entries_of ds) (below_with_entries (length ds) [] (flat_map replicas (enumerate_from 0 ds)) tt (below_numbered (length ds) 0 ds (omega arith)))

-- in rising order entries have the same choices
choice_rising : (es : List Entry) (servers : List ℕ) (p factor : ℕ) (diverse : Bool)
    → choice (record { entries = in_rising_order es; servers = servers }) p factor diverse ≡ choice (record { entries = es; servers = servers }) p factor diverse
choice_rising es servers p factor diverse = ap (λ l. take factor (taken_by (mark_of servers diverse) (map node_of l))) (walk-rising es p)

-- the destination at the end changes no server of those before it
old_servers : (ds : List Destination) (d : Destination) (p factor : ℕ) (diverse : Bool)
    → choice (record { entries = entries_of ds; servers = servers_of (ds ++ d ∷ []) }) p factor diverse ≡ choice (record { entries = entries_of ds; servers = servers_of ds }) p factor diverse
old_servers ds d p factor diverse =
    ap (take factor) (taken_agrees (mark_of (servers_of (ds ++ d ∷ [])) diverse) (mark_of (servers_of ds) diverse) (length ds)
    (λ n less. ap (λ s. cond diverse s (n.0)) (servers-push ds d (n.0) less))
    (map node_of (walk (entries_of ds) p)) (below-walk (length ds) (entries_of ds) p (entries_below ds)))

pub choice_new_destination : NewDestinationTakesItsOwn
choice_new_destination = λ ds d p factor diverse none.
    let n : DestId = record { 0 = length ds } in
    let servers = servers_of (ds ++ d ∷ []) in
    let grown = choice_rising (entries_of (ds ++ d ∷ [])) servers p factor diverse in
    grown
    ∙ choice_of_old n (entries_of ds) (entries_of (ds ++ d ∷ [])) servers p factor diverse (old_destinations ds d) (subst (λ (l : List DestId). ¬ Contains l n) grown none)
    ∙ old_servers ds d p factor diverse
    ∙ sym (choice_rising (entries_of ds) (servers_of ds) p factor diverse)
