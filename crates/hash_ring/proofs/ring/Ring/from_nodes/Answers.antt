use Rattle.std.proofs.Common.{◌≡◌, ℕ, true, List, sym, map, length, ap, ◌∙◌, subst, IfOk}
use Rattle.std.proofs.lemmas.Bool.{false≢true}
use Rattle.std.proofs.lemmas.Result.{IfOk-weaker}
use Rattle.relay_base.specs.DestIds.{are_below}
use Rattle.hash_ring.specs.Entry.{Entry, Ring, node_of}
use Rattle.hash_ring.specs.Placing.{entries_of}
use Rattle.hash_ring.specs.RingOf.{ring_of}
use Rattle.hash_ring.specs.Servers.{servers_of}
use Rattle.hash_ring.specs.Walk.{in_rising_order}
use Rattle.hash_ring.proofs.BelowLemmas.{ring_below}
use Rattle.hash_ring.proofs.ServerLemmas.{on_servers}
use Rattle.hash_ring.proofs.ring.Ring.from_nodes.Goals as goal

pub returns-clause-ring : goal.returns-clause-ring
returns-clause-ring c =
    subst (λ (servers : List ℕ). IfOk c.from_entries.result (λ ring. ring ≡ record { entries = in_rising_order (entries_of c.args.nodes.now); servers = servers })) c.in_ok-servers.ensures.servers
    (subst (λ (es : List Entry). IfOk c.from_entries.result (λ ring. ring ≡ record { entries = in_rising_order es; servers = c.in_ok-servers.servers.items }))
    (c.into_vec.ensures.items ∙ c.in_ok-entries.ensures.entries) c.from_entries.ensures.ring)

pub returns-clause-below : goal.returns-clause-below
returns-clause-below c =
    IfOk-weaker c.from_entries.result (λ ring. ring ≡ ring_of c.args.nodes.now) (λ ring. are_below (length c.args.nodes.now) (map node_of ring.entries) ≡ true)
    (λ ring is. ap (λ (r : Ring). are_below (length c.args.nodes.now) (map node_of r.entries)) is ∙ ring_below c.args.nodes.now)
    (returns-clause-ring c)

pub returns-clause-on_servers : goal.returns-clause-on_servers
returns-clause-on_servers c = λ is.
    let said = c.from_entries.ensures.no_server.0 is in
    let nodes = c.args.nodes.now in
    let have : are_below (length c.in_ok-servers.servers.items) (map node_of c.into_vec.result.items) ≡ true =
    ap (λ (l : List ℕ). are_below (length l) (map node_of c.into_vec.result.items)) c.in_ok-servers.ensures.servers
    ∙ ap (λ (es : List Entry). are_below (length (servers_of nodes)) (map node_of es)) (c.into_vec.ensures.items ∙ c.in_ok-entries.ensures.entries)
    ∙ on_servers nodes in
    absurd (false≢true (sym said.1 ∙ have))
