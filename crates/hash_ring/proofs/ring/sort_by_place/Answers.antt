use Rattle.std.proofs.Common.{sym, ◌∙◌, rules}
use Rattle.std.proofs.lemmas.List.Sorted.{IsNonDecreasingBy-from_sort_by_key}
use Rattle.hash_ring.specs.Entry.{place_of}
use Rattle.hash_ring.proofs.SortedLemmas.{shared_permuted, sorted_is_rising}
use Rattle.hash_ring.proofs.ring.sort_by_place.Goals as goal

pub returns-clause-rises : goal.returns-clause-rises
returns-clause-rises c = IsNonDecreasingBy-from_sort_by_key place_of _ c.sort_unstable_by_key.ensures.sorted (λ a r q k. search rules)

pub returns-clause-shared : goal.returns-clause-shared
returns-clause-shared c = sym (shared_permuted _ _ c.sort_unstable_by_key.ensures.permutation)

pub returns-clause-apart : goal.returns-clause-apart
returns-clause-apart c = λ apart.
    let moved = c.sort_unstable_by_key.ensures.permutation in
    sorted_is_rising _ _ moved (returns-clause-rises c) (sym (shared_permuted _ _ moved) ∙ apart)
