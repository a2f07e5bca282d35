-- How many diverse replicas there are.
use Rattle.std.proofs.Common.{◌≡◌, ℕ, zero, suc, ◌<◌, ◌≤◌, true, false, ◌||◌, List, [], ◌∷◌, map, get_or, length, All, Contains, refl, ap, ◌∙◌, arith}
use Rattle.std.specs.List.{IsDistinct, AllByRecursion}
use Rattle.std.proofs.lemmas.Bool.{false≢true}
use Rattle.std.proofs.lemmas.List.{length-take}
use Rattle.std.proofs.lemmas.List.Elements.{All-head, All-tail}
use Rattle.relay_base.specs.declared.dest_id.DestId.{DestId}
use Rattle.hash_ring.specs.Entry.{node_of}
use Rattle.hash_ring.specs.Servers.{server_of}
use Rattle.hash_ring.specs.Walk.{walk, taken_by}
use Rattle.hash_ring.specs.Laws.{DiverseChoiceIsFull}
use Rattle.hash_ring.proofs.BoolLemmas.{or_true, eqb_flips}
use Rattle.hash_ring.proofs.TakenLemmas.{same_mark, is_in, is_in-taken}
use Rattle.hash_ring.proofs.CountLemmas.{NoRepeat, length_all_in}
use Rattle.hash_ring.proofs.WalkLemmas.{is_in_walk}

missing_mark : (mark : DestId → ℕ) (n : DestId) (ns : List DestId) → AllByRecursion (λ other. same_mark mark n other ≡ false) ns → is_in mark n ns ≡ false
missing_mark mark n [] apart = refl
missing_mark mark n (m ∷ ms) apart = ap (λ b. b || is_in mark n ms) (eqb_flips (mark m) (mark n) ∙ apart.0) ∙ missing_mark mark n ms apart.1

no_repeat : (mark : DestId → ℕ) (ns : List DestId) → IsDistinct (same_mark mark) ns → NoRepeat mark ns
unfolding IsDistinct
no_repeat mark [] once = tt
no_repeat mark (n ∷ ns) once = (missing_mark mark n ns once.0, no_repeat mark ns once.1)

mark_at : (mark : DestId → ℕ) (y n : DestId) (ns : List DestId) (k : ℕ) (d : DestId) → k < length ns → get_or ns k d ≡ n → same_mark mark n y ≡ true → is_in mark y ns ≡ true
mark_at mark y n [] k d within at same = absurd (omega arith)
mark_at mark y n (m ∷ ms) zero d within at same = ap (λ b. b || is_in mark y ms) (ap (λ (x : DestId). same_mark mark x y) at ∙ same)
mark_at mark y n (m ∷ ms) (suc k) d within at same = or_true (same_mark mark m y) (is_in mark y ms) (mark_at mark y n ms k d (omega arith) at same)

-- a mark of nodes that are in a list is in it
in_all : (mark : DestId → ℕ) (y : DestId) (nodes ms : List DestId) → All (λ n. Contains ms n) nodes → is_in mark y nodes ≡ true → is_in mark y ms ≡ true
in_all mark y [] ms all there = absurd (false≢true there)
in_all mark y (n ∷ ns) ms all there =
    let rest = in_all mark y ns ms (All-tail (λ x. Contains ms x) n ns all) in
    let here : Contains ms n = All-head (λ x. Contains ms x) n ns all in
    elim (same_mark mark n y) as (λ b. same_mark mark n y ≡ b → (b || is_in mark y ns) ≡ true → is_in mark y ms ≡ true) [
      | true ↦ λ e _. mark_at mark y n ms here.0 n here.1 here.2 e
      | false ↦ λ _ h. rest h
    ] refl there

pub choice_full : DiverseChoiceIsFull
choice_full = λ ring p factor nodes apart all enough.
    let mark = server_of ring.servers in
    let es = ring.entries in
    let ms = map node_of (walk es p) in
    let more : length nodes ≤ length (taken_by mark ms) = length_all_in mark nodes (taken_by mark ms) (no_repeat mark nodes apart)
    (λ y there. is_in-taken mark y ms ∙ is_in_walk mark y es p ∙ in_all mark y nodes (map node_of es) all there) in
    omega (arith, length-take factor (taken_by mark ms), more, enough)
