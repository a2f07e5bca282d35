use Rattle.std.proofs.Common.{◌≡◌, List, ◌++◌, map, take}
use Rattle.relay_base.specs.declared.dest_id.DestId.{DestId as Node}
use Rattle.hash_ring.specs.Entry.{node_of}
use Rattle.hash_ring.specs.Walk.{taken_by, mark_of}
use Rattle.hash_ring.proofs.choosing.choose_along.Given as goal

-- the nodes chosen are those of the entries before this one
abbrev pub invariant-loop-node : goal.invariant-loop-node
invariant-loop-node l =
    (before : List Node) → l.fn.chosen.items ≡ take l.wanted (taken_by (mark_of l.servers l.diverse) before)
    → l.chosen.items ≡ take l.wanted (taken_by (mark_of l.servers l.diverse) (before ++ map node_of (take l.node-index l.entries)))
