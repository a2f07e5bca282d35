use Rattle.std.proofs.Common.{◌≡◌, true, false, sym, ◌∙◌, rules}
use Rattle.std.specs.List.Sorted.{IsPartitionPoint}
use Rattle.std.proofs.lemmas.List.Sorted.{IsPartitionPoint-from_clause, IsPartitionedBy-ltb}
use Rattle.hash_ring.specs.Entry.{place_of}
use Rattle.hash_ring.proofs.RisingLemmas.{is_below, below_is_front, above_is_back}
use Rattle.hash_ring.proofs.ring.split_at_place.Goals as goal

cut : (c : goal.After-split_at) → IsPartitionPoint (λ e. is_below c.args.place e ≡ true) (λ e. is_below c.args.place e ≡ false) c.args.entries.now c.partition_point-start.result
cut c =
    IsPartitionPoint-from_clause (is_below c.args.place) c.args.entries.now c.partition_point-start.result c.partition_point-start.ensures.partitioned
    (IsPartitionedBy-ltb place_of c.args.entries.now c.args.place c.requires) (λ a r q k. search rules)

pub returns-clause-below : goal.returns-clause-below
returns-clause-below c = c.split_at.ensures.front ∙ sym (below_is_front c.args.place c.args.entries.now _ c.requires (cut c))

pub returns-clause-above : goal.returns-clause-above
returns-clause-above c = c.split_at.ensures.back ∙ sym (above_is_back c.args.place c.args.entries.now _ c.requires (cut c))
