-- Entries that are placed one after the other.
use Rattle.std.proofs.Common.{◌≡◌, ℕ, zero, suc, ◌+◌, ◌<◌, ◌≤◌, true, false, cond, eqb, ◌||◌, List, [], ◌∷◌, ◌++◌, get_or, take, length, flat_map, refl, sym, ap, ◌∙◌, arith, zero-add, append-nil, length-append}
use Rattle.std.specs.List.{enumerate_from}
use Rattle.std.proofs.lemmas.Grind.{flat_map-append}
use Rattle.std.proofs.lemmas.List.{take_more}
use Rattle.std.proofs.lemmas.List.FromFn.{length-enumerate_from, get_or-enumerate_from, length-map-range_with_len}
use Rattle.conf_text.specs.Destination.{Destination}
use Rattle.hash_ring.specs.Entry.{Entry, place_of, node_of, is_taken, has_shared_place}
use Rattle.hash_ring.specs.Placing.{first_free, free_place, with_entry, with_entries, replica, replicas}
use Rattle.hash_ring.proofs.BoolLemmas.{or_false, or_none, or_under, eqb_flips}
use Rattle.hash_ring.proofs.PlaceLemmas.{IsRun, run_more, run_is_short}

-- ---- the first free position is the least

none_yet : (es : List Entry) (w : ℕ) → IsRun es w w
none_yet es w = λ k low high. absurd (omega arith)

first_free_is_free : (es : List Entry) (w p n : ℕ) → w ≤ p → p + n ≡ w + length es → IsRun es w p → is_taken es (first_free es p n) ≡ false
first_free_is_free es w p zero le all run =
    elim (is_taken es p) as (λ b. is_taken es p ≡ b → b ≡ false) [
      | true ↦ λ h. let short : p + 1 ≤ w + length es = run_is_short es w (p + 1) (omega arith) (run_more es w p run h) in absurd (omega arith)
      | false ↦ λ _. refl
    ] refl
first_free_is_free es w p (suc n) le all run =
    let further = λ (h : is_taken es p ≡ true). first_free_is_free es w (p + 1) n (omega arith) (omega arith) (run_more es w p run h) in
    elim (is_taken es p) as (λ b. is_taken es p ≡ b → is_taken es (cond b (first_free es (p + 1) n) p) ≡ false) [
      | true ↦ λ h. further h
      | false ↦ λ h. h
    ] refl

first_free_run : (es : List Entry) (w p n : ℕ) → w ≤ p → IsRun es w p → IsRun es w (first_free es p n)
first_free_run es w p zero le run = run
first_free_run es w p (suc n) le run =
    let further = λ (h : is_taken es p ≡ true). first_free_run es w (p + 1) n (omega arith) (run_more es w p run h) in
    elim (is_taken es p) as (λ b. is_taken es p ≡ b → IsRun es w (cond b (first_free es (p + 1) n) p)) [
      | true ↦ λ h. further h
      | false ↦ λ h. run
    ] refl

first_free_from : (es : List Entry) (p n : ℕ) → p ≤ first_free es p n
first_free_from es p zero = omega arith
first_free_from es p (suc n) =
    let further : p + 1 ≤ first_free es (p + 1) n = first_free_from es (p + 1) n in
    elim (is_taken es p) as (λ b. p ≤ cond b (first_free es (p + 1) n) p) [ true ↦ omega arith | false ↦ omega arith ]

-- the free position is not taken
pub free_is_free : (es : List Entry) (wanted : ℕ) → is_taken es (free_place es wanted) ≡ false
free_is_free es wanted = first_free_is_free es wanted wanted (length es) (omega arith) refl (none_yet es wanted)

-- all positions from the wanted one up to it are
pub free_is_least : (es : List Entry) (wanted : ℕ) → IsRun es wanted (free_place es wanted)
free_is_least es wanted = first_free_run es wanted wanted (length es) (omega arith) (none_yet es wanted)

-- and it is not below the wanted position
pub free_is_from : (es : List Entry) (wanted : ℕ) → wanted ≤ free_place es wanted
free_is_from es wanted = first_free_from es wanted (length es)

-- ---- one more entry

pub is_taken-push : (es : List Entry) (e : Entry) (p : ℕ) → is_taken (es ++ e ∷ []) p ≡ cond (eqb (place_of e) p) true (is_taken es p)
is_taken-push [] e p = or_none (eqb (place_of e) p)
is_taken-push (x ∷ xs) e p =
    ap (λ b. eqb (place_of x) p || b) (is_taken-push xs e p) ∙ or_under (eqb (place_of x) p) (eqb (place_of e) p) (is_taken xs p)

pub shared-push : (es : List Entry) (e : Entry) → has_shared_place es ≡ false → is_taken es (place_of e) ≡ false → has_shared_place (es ++ e ∷ []) ≡ false
shared-push [] e apart free = refl
shared-push (x ∷ xs) e apart free =
    let a = or_false (is_taken xs (place_of x)) (has_shared_place xs) apart in
    let f = or_false (eqb (place_of x) (place_of e)) (is_taken xs (place_of e)) free in
    let differs : eqb (place_of e) (place_of x) ≡ false = eqb_flips (place_of e) (place_of x) ∙ f.0 in
    let here : is_taken (xs ++ e ∷ []) (place_of x) ≡ false = is_taken-push xs e (place_of x) ∙ ap (λ b. cond b true (is_taken xs (place_of x))) differs ∙ a.0 in
    ap (λ b. b || has_shared_place (xs ++ e ∷ [])) here ∙ shared-push xs e a.1 f.1

-- ---- entries added in order

pub with_entries-append : (es vs ws : List Entry) → with_entries es (vs ++ ws) ≡ with_entries (with_entries es vs) ws
with_entries-append es [] ws = refl
with_entries-append es (v ∷ vs) ws = with_entries-append (with_entry es v) vs ws

pub length-with_entry : (es : List Entry) (w : Entry) → length (with_entry es w) ≡ length es + 1
length-with_entry es w = length-append es ((free_place es (place_of w), node_of w) ∷ [])

pub length-with_entries : (es ws : List Entry) → length (with_entries es ws) ≡ length es + length ws
length-with_entries es [] = omega arith
length-with_entries es (w ∷ ws) = omega (arith, length-with_entry es w, length-with_entries (with_entry es w) ws)

pub length-replicas : (numbered : ℕ × Destination) → length (replicas numbered) ≡ 100
length-replicas numbered = length-map-range_with_len (replica numbered) 0 100

-- the replicas of the first nodes and of one more
pub replicas_more : (nodes : List Destination) (i : ℕ) (node : Destination) → i < length nodes → node ≡ get_or nodes i node
    → flat_map replicas (take (i + 1) (enumerate_from 0 nodes)) ≡ flat_map replicas (take i (enumerate_from 0 nodes)) ++ replicas (i, node)
replicas_more nodes i node within is =
    let inside : i < length (enumerate_from 0 nodes) = omega (arith, length-enumerate_from 0 nodes) in
    let numbered : get_or (enumerate_from 0 nodes) i (0, node) ≡ (i, node) = get_or-enumerate_from 0 nodes i (0, node) within ∙ ap (λ n. (n, get_or nodes i node)) (zero-add i) ∙ ap (λ d. (i, d)) (sym is) in
    ap (flat_map replicas) (take_more (enumerate_from 0 nodes) i (0, node) inside ∙ ap (λ x. take i (enumerate_from 0 nodes) ++ x ∷ []) numbered)
    ∙ flat_map-append replicas (take i (enumerate_from 0 nodes)) ((i, node) ∷ [])
    ∙ ap (λ l. flat_map replicas (take i (enumerate_from 0 nodes)) ++ l) (append-nil (replicas (i, node)))
