use Rattle.std.proofs.Common.{◌≡◌, ℕ, ◌≤◌, [], List, take, length, flat_map, sym, ap, ◌∙◌, arith}
use Rattle.std.specs.List.{enumerate_from}
use Rattle.std.proofs.lemmas.List.{take_all}
use Rattle.std.proofs.lemmas.List.FromFn.{length-enumerate_from}
use Rattle.conf_text.specs.Destination.{Destination}
use Rattle.hash_ring.specs.Entry.{Entry}
use Rattle.hash_ring.specs.Placing.{with_entries, replicas, entries_of}
use Rattle.hash_ring.proofs.PlacingLemmas.{with_entries-append, length-with_entries, length-replicas, replicas_more}
use Rattle.hash_ring.proofs.entries.RingEntries.of_nodes.Goals as goal

pub loop-id-preserved : goal.loop-id-preserved
loop-id-preserved c =
    let nodes = c.args.nodes.now in
    let i = c.loop-id.id in
    let node = c.index-nodes-id.result in
    let before = flat_map replicas (take i (enumerate_from 0 nodes)) in
    let here = c.in_ok-place_replicas.ensures in
    record {
      placed =
          here
          ∙ ap (λ (es : List Entry). with_entries es (replicas (i, node))) c.loop-id.invariant.placed
          ∙ sym (with_entries-append [] before (replicas (i, node)))
          ∙ ap (with_entries []) (sym (replicas_more nodes i node c.loop-id-test.true c.index-nodes-id.is));
      room = omega (arith, ap length here, length-with_entries c.loop-id.entries (replicas (i, node)), length-replicas (i, node), c.loop-id.invariant.room);
    }

-- with all nodes placed, the entries are those of the nodes
all_placed : (nodes : List Destination) (count : ℕ) (placed : List Entry) → placed ≡ with_entries [] (flat_map replicas (take count (enumerate_from 0 nodes)))
    → length nodes ≤ count → placed ≡ entries_of nodes
all_placed nodes count placed up_to every =
    up_to ∙ ap (λ l. with_entries [] (flat_map replicas l)) (take_all count (enumerate_from 0 nodes) (omega (arith, length-enumerate_from 0 nodes)))

pub returns-clause-entries : goal.returns-clause-entries
returns-clause-entries c = all_placed c.args.nodes.now c.loop-id.id c.loop-id.entries c.loop-id.invariant.placed (omega arith)
