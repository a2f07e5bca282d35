use Rattle.std.proofs.Common.{◌≡◌, true, false, List, [], map, length, sym, ap, ◌∙◌}
use Rattle.std.specs.Prelude.{Err}
use Rattle.std.proofs.lemmas.Bool.{eqb-true}
use Rattle.std.proofs.lemmas.List.{nil_from_length}
use Rattle.std.proofs.lemmas.Result.{err_from_is_err_and}
use Rattle.relay_base.specs.DestIds.{are_below}
use Rattle.hash_ring.specs.Entry.{Entry, Ring, node_of, has_shared_place}
use Rattle.hash_ring.specs.declared.ring.Ring as made
use Rattle.hash_ring.specs.declared.fault.RingFault.TheVariants.{Empty, SamePosition, NoServer}
use Rattle.hash_ring.proofs.MakingLemmas.{IsJudged, some_entries, shared_if, on_servers_if, counted, ring_made, judged_empty, judged_shared, judged_serverless, judged_made, judged_refused}
use Rattle.hash_ring.proofs.ring.Ring.from_entries.Goals as goal

-- ---- no entry

none : (c : goal.After-drop-entries) → IsJudged {T = made.Ring} (Err Empty) c.args.entries.items c.args.servers.items
none c =
    judged_empty c.args.entries.items c.args.servers.items
    (nil_from_length c.args.entries.items (sym c.args.entries.ok.0 ∙ eqb-true c.args.entries.len 0 (sym c.is_empty.ensures ∙ c.if-is_empty.true)))

pub returns-then-is_empty-clause-empty : goal.returns-then-is_empty-clause-empty
returns-then-is_empty-clause-empty c = (none c).empty

pub returns-then-is_empty-clause-same_position : goal.returns-then-is_empty-clause-same_position
returns-then-is_empty-clause-same_position c = (none c).same_position

pub returns-then-is_empty-clause-no_server : goal.returns-then-is_empty-clause-no_server
returns-then-is_empty-clause-no_server c = (none c).no_server

-- ---- two entries at one position

shared : (c : goal.After-drop-entries-then-has_equal_neighbours) → IsJudged {T = made.Ring} (Err SamePosition) c.args.entries.items c.args.servers.items
shared c =
    judged_shared c.args.entries.items c.args.servers.items
    (shared_if c.sort_by_place.new.entries.items c.deref-2.result.now c.args.entries.items c.has_equal_neighbours.result true c.deref-2.ensures.value c.sort_by_place.ensures.shared c.has_equal_neighbours.ensures c.if-has_equal_neighbours.true)

pub returns-then-has_equal_neighbours-clause-empty : goal.returns-then-has_equal_neighbours-clause-empty
returns-then-has_equal_neighbours-clause-empty c = (shared c).empty

pub returns-then-has_equal_neighbours-clause-same_position : goal.returns-then-has_equal_neighbours-clause-same_position
returns-then-has_equal_neighbours-clause-same_position c = (shared c).same_position

pub returns-then-has_equal_neighbours-clause-no_server : goal.returns-then-has_equal_neighbours-clause-no_server
returns-then-has_equal_neighbours-clause-no_server c = (shared c).no_server

-- ---- a node without a server

serverless : (c : goal.After-drop-entries-then-not-on_servers) → IsJudged {T = made.Ring} (Err NoServer) c.args.entries.items c.args.servers.items
serverless c =
    judged_serverless c.args.entries.items c.args.servers.items
    (shared_if c.sort_by_place.new.entries.items c.deref-2.result.now c.args.entries.items c.has_equal_neighbours.result false c.deref-2.ensures.value c.sort_by_place.ensures.shared c.has_equal_neighbours.ensures c.if-has_equal_neighbours.false)
    (on_servers_if c.len.result c.deref.result.now c.args.entries.items c.args.servers.items c.have_servers-on_servers.result false (c.len.ensures ∙ c.args.servers.ok.0) c.deref.ensures.value c.have_servers-on_servers.ensures c.if-not-on_servers.true)

pub returns-then-not-on_servers-clause-empty : goal.returns-then-not-on_servers-clause-empty
returns-then-not-on_servers-clause-empty c = (serverless c).empty

pub returns-then-not-on_servers-clause-same_position : goal.returns-then-not-on_servers-clause-same_position
returns-then-not-on_servers-clause-same_position c = (serverless c).same_position

pub returns-then-not-on_servers-clause-no_server : goal.returns-then-not-on_servers-clause-no_server
returns-then-not-on_servers-clause-no_server c = (serverless c).no_server

-- ---- out of memory

node_count_refused : (c : goal.After-drop-entries-in_err-node_count) → IsJudged c.from_residual.result c.args.entries.items c.args.servers.items
node_count_refused c =
    let fault = err_from_is_err_and c.from_residual.result c.from_residual.ensures.1 in
    judged_refused c.from_residual.result fault.0 c.args.entries.items c.args.servers.items fault.1 fault.2
    (some_entries c.args.entries.items c.args.entries.len c.is_empty.result c.args.entries.ok.0 c.is_empty.ensures c.if-is_empty.false)
    (shared_if c.sort_by_place.new.entries.items c.deref-2.result.now c.args.entries.items c.has_equal_neighbours.result false c.deref-2.ensures.value c.sort_by_place.ensures.shared c.has_equal_neighbours.ensures c.if-has_equal_neighbours.false)
    (on_servers_if c.len.result c.deref.result.now c.args.entries.items c.args.servers.items c.have_servers-on_servers.result true (c.len.ensures ∙ c.args.servers.ok.0) c.deref.ensures.value c.have_servers-on_servers.ensures c.if-not-on_servers.false)

pub returns-in_err-node_count-clause-empty : goal.returns-in_err-node_count-clause-empty
returns-in_err-node_count-clause-empty c = (node_count_refused c).empty

pub returns-in_err-node_count-clause-same_position : goal.returns-in_err-node_count-clause-same_position
returns-in_err-node_count-clause-same_position c = (node_count_refused c).same_position

pub returns-in_err-node_count-clause-no_server : goal.returns-in_err-node_count-clause-no_server
returns-in_err-node_count-clause-no_server c = (node_count_refused c).no_server

server_count_refused : (c : goal.After-drop-entries-in_err-server_count) → IsJudged c.from_residual-in_err-server_count.result c.args.entries.items c.args.servers.items
server_count_refused c =
    let fault = err_from_is_err_and c.from_residual-in_err-server_count.result c.from_residual-in_err-server_count.ensures.1 in
    judged_refused c.from_residual-in_err-server_count.result fault.0 c.args.entries.items c.args.servers.items fault.1 fault.2
    (some_entries c.args.entries.items c.args.entries.len c.is_empty.result c.args.entries.ok.0 c.is_empty.ensures c.if-is_empty.false)
    (shared_if c.sort_by_place.new.entries.items c.deref-2.result.now c.args.entries.items c.has_equal_neighbours.result false c.deref-2.ensures.value c.sort_by_place.ensures.shared c.has_equal_neighbours.ensures c.if-has_equal_neighbours.false)
    (on_servers_if c.len.result c.deref.result.now c.args.entries.items c.args.servers.items c.have_servers-on_servers.result true (c.len.ensures ∙ c.args.servers.ok.0) c.deref.ensures.value c.have_servers-on_servers.ensures c.if-not-on_servers.false)

pub returns-in_err-server_count-clause-empty : goal.returns-in_err-server_count-clause-empty
returns-in_err-server_count-clause-empty c = (server_count_refused c).empty

pub returns-in_err-server_count-clause-same_position : goal.returns-in_err-server_count-clause-same_position
returns-in_err-server_count-clause-same_position c = (server_count_refused c).same_position

pub returns-in_err-server_count-clause-no_server : goal.returns-in_err-server_count-clause-no_server
returns-in_err-server_count-clause-no_server c = (server_count_refused c).no_server

-- ---- the ring

some : (c : goal.In_ok-server_count) → c.args.entries.items ≡ [] → ⊥
some c = some_entries c.args.entries.items c.args.entries.len c.is_empty.result c.args.entries.ok.0 c.is_empty.ensures c.if-is_empty.false

apart : (c : goal.In_ok-server_count) → has_shared_place c.args.entries.items ≡ false
apart c =
    shared_if c.sort_by_place.new.entries.items c.deref-2.result.now c.args.entries.items c.has_equal_neighbours.result false c.deref-2.ensures.value c.sort_by_place.ensures.shared c.has_equal_neighbours.ensures c.if-has_equal_neighbours.false

on : (c : goal.In_ok-server_count) → are_below (length c.args.servers.items) (map node_of c.args.entries.items) ≡ true
on c =
    on_servers_if c.len.result c.deref.result.now c.args.entries.items c.args.servers.items c.have_servers-on_servers.result true (c.len.ensures ∙ c.args.servers.ok.0) c.deref.ensures.value c.have_servers-on_servers.ensures c.if-not-on_servers.false

pub invariant_of-result : goal.invariant_of-result
invariant_of-result c =
    let es = c.args.entries.items in
    let sorted = c.sort_by_place.new.entries.items in
    let servers = c.args.servers.items in
    let put = c.sort_by_place.ensures in (
      ring_made es sorted servers (some c) put.len put.rises put.shared (apart c) (put.apart (apart c)) (on c),
      counted false c.in_ok-node_count.node_count c.deref-3.result.now sorted c.deref-4.result.now servers c.deref-3.ensures.value c.deref-4.ensures.value c.in_ok-node_count.ensures,
      counted true c.in_ok-server_count.server_count c.deref-5.result.now sorted c.deref-6.result.now servers c.deref-5.ensures.value c.deref-6.ensures.value c.in_ok-server_count.ensures,
    )

pub returns-clause-ring : goal.returns-clause-ring
returns-clause-ring c = ap (λ (es : List Entry). let ring : Ring = record { entries = es; servers = c.args.servers.items } in ring) (c.sort_by_place.ensures.apart (apart c))

pub returns-clause-empty : goal.returns-clause-empty
returns-clause-empty c = (judged_made _ c.args.entries.items c.args.servers.items (some c) (apart c) (on c)).empty

pub returns-clause-same_position : goal.returns-clause-same_position
returns-clause-same_position c = (judged_made _ c.args.entries.items c.args.servers.items (some c) (apart c) (on c)).same_position

pub returns-clause-no_server : goal.returns-clause-no_server
returns-clause-no_server c = (judged_made _ c.args.entries.items c.args.servers.items (some c) (apart c) (on c)).no_server
