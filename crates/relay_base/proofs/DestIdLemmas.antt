-- First mentions: each index once, and only those of the list.
use Rattle.std.proofs.Common.{◌≡◌, ℕ, Bool, true, false, cond, not, ltb, List, [], ◌∷◌, filter, refl}
use Rattle.std.specs.List.{AllByRecursion, IsDistinct}
use Rattle.std.proofs.lemmas.Bool.{and_parts, and_from}
use Rattle.relay_base.specs.declared.dest_id.DestId.{DestId}
use Rattle.relay_base.specs.DestIds.{same_id, are_below, first_mentions, NamesEachOnce}
use Rattle.relay_base.specs.Laws.{FirstMentionsNameEachOnce, FirstMentionsStayBelow}

-- the indices that differ from one
abbrev others : DestId → List DestId → List DestId
others id ids = filter (λ other. not (same_id id other)) ids

-- what each of a list has, each of a part of it has
all-filter : (p : DestId → Bool) (id : DestId) (ids : List DestId) → AllByRecursion (λ other. same_id id other ≡ false) ids
    → AllByRecursion (λ other. same_id id other ≡ false) (filter p ids)
all-filter p id [] all = tt
all-filter p id (other ∷ ids) all =
    let rest = all-filter p id ids all.1 in
    elim (p other) as (λ b. AllByRecursion (λ o. same_id id o ≡ false) (cond b (other ∷ filter p ids) (filter p ids))) [ true ↦ (all.0, rest) | false ↦ rest ]

once-filter : (p : DestId → Bool) (ids : List DestId) → NamesEachOnce ids → NamesEachOnce (filter p ids)
unfolding IsDistinct
once-filter p [] once = tt
once-filter p (id ∷ ids) once =
    let rest = once-filter p ids once.1 in
    elim (p id) as (λ b. NamesEachOnce (cond b (id ∷ filter p ids) (filter p ids))) [ true ↦ (all-filter p id ids once.0, rest) | false ↦ rest ]

others_differ : (id : DestId) (ids : List DestId) → AllByRecursion (λ other. same_id id other ≡ false) (others id ids)
others_differ id [] = tt
others_differ id (other ∷ ids) =
    let rest = others_differ id ids in
    elim (same_id id other) as (λ b. same_id id other ≡ b → AllByRecursion (λ o. same_id id o ≡ false) (cond (not b) (other ∷ others id ids) (others id ids))) [
      | true ↦ λ _. rest
      | false ↦ λ e. (e, rest)
    ] refl

pub first_mentions_once : FirstMentionsNameEachOnce
unfolding IsDistinct
first_mentions_once [] = tt
first_mentions_once (id ∷ ids) = (others_differ id (first_mentions ids), once-filter (λ other. not (same_id id other)) (first_mentions ids) (first_mentions_once ids))

below-filter : (p : DestId → Bool) (count : ℕ) (ids : List DestId) → are_below count ids ≡ true → are_below count (filter p ids) ≡ true
below-filter p count [] below = refl
below-filter p count (id ∷ ids) below =
    let both = and_parts (ltb id.0 count) (are_below count ids) below in
    let rest = below-filter p count ids both.1 in
    elim (p id) as (λ b. are_below count (cond b (id ∷ filter p ids) (filter p ids)) ≡ true) [ true ↦ and_from (ltb id.0 count) (are_below count (filter p ids)) both.0 rest | false ↦ rest ]

pub first_mentions_below : FirstMentionsStayBelow
first_mentions_below count [] below = refl
first_mentions_below count (id ∷ ids) below =
    let both = and_parts (ltb id.0 count) (are_below count ids) below in
    and_from (ltb id.0 count) (are_below count (others id (first_mentions ids))) both.0 (below-filter (λ other. not (same_id id other)) count (first_mentions ids) (first_mentions_below count ids both.1))
