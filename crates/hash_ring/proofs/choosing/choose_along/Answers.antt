use Rattle.std.proofs.Common.{◌≡◌, ◌<◌, List, ◌++◌, map, take, ap, sym, ◌∙◌, get_or, length, vec_items, arith}
use Rattle.std.proofs.lemmas.List.{append-nil, take_all}
use Rattle.relay_base.specs.declared.dest_id.DestId.{DestId}
use Rattle.hash_ring.specs.Entry.{Entry, node_of}
use Rattle.hash_ring.specs.Walk.{taken_by, mark_of}
use Rattle.hash_ring.proofs.TakenLemmas.{is_in}
use Rattle.hash_ring.proofs.ChoiceLemmas.{known_more, new_more, full_choice}
use Rattle.hash_ring.proofs.choosing.choose_along.Goals as goal
use Rattle.hash_ring.proofs.choosing.choose_along.Goals.{then-not-is_passed_over+in_ok-push, else-not-is_passed_over}

abbrev any_entry : Entry
any_entry = (0, record { 0 = 0 })

pub loop-node-preserved : goal.loop-node-preserved
loop-node-preserved c = λ before start.
    let mark = mark_of c.args.servers.now c.args.diverse in
    let chosen = c.loop-node.chosen.items in
    let entries = c.args.entries.now in
    let i = c.loop-node.node-index in
    let so_far = c.loop-node.invariant before start in
    let few : length chosen < c.args.wanted = omega arith in
    let node = node_of (get_or entries i any_entry) in
    let tested : is_in mark node chosen ≡ c.is_passed_over.result = ap (is_in mark node) (sym c.deref.ensures.value) ∙ sym c.is_passed_over.ensures in
    elim c.if-not-is_passed_over.branch [
      | then-not-is_passed_over+in_ok-push w ↦
          ap vec_items w.chosen-is ∙ w.in_ok-push.ensures.items ∙ new_more mark c.args.wanted chosen before entries i any_entry c.loop-node-test.true so_far few (tested ∙ w.if-not-is_passed_over.true)
      | else-not-is_passed_over w ↦
          ap vec_items w.chosen-is ∙ known_more mark c.args.wanted chosen before entries i any_entry c.loop-node-test.true so_far few (tested ∙ w.if-not-is_passed_over.false)
    ]

pub returns-then-len-wanted : goal.returns-then-len-wanted
returns-then-len-wanted c = λ before start.
    full_choice (mark_of c.args.servers.now c.args.diverse) c.args.wanted c.loop-node.chosen.items before c.args.entries.now c.loop-node.node-index (c.loop-node.invariant before start) (omega arith)

pub loop-node-init : goal.loop-node-init
loop-node-init c = λ before start.
    start ∙ ap (λ (nodes : List DestId). take c.args.wanted (taken_by (mark_of c.args.servers.now c.args.diverse) nodes)) (sym (append-nil before))

pub returns-after-loop-node : goal.returns-after-loop-node
returns-after-loop-node c = λ before start.
    c.loop-node.invariant before start
    ∙ ap (λ (es : List Entry). take c.args.wanted (taken_by (mark_of c.args.servers.now c.args.diverse) (before ++ map node_of es)))
    (take_all c.loop-node.node-index c.args.entries.now c.loop-node-test.false)
