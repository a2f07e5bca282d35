use Rattle.std.proofs.Common.{◌≡◌, ◌≤◌, [], map, take, length, ap, ◌∙◌, arith}
use Rattle.std.proofs.lemmas.List.{take_all, length-map}
use Rattle.hash_ring.specs.Entry.{node_of}
use Rattle.hash_ring.specs.Walk.{taken_by, mark_of}
use Rattle.hash_ring.proofs.CountLemmas.{length-taken}
use Rattle.hash_ring.proofs.ChoiceLemmas.{none_chosen}
use Rattle.hash_ring.proofs.ring.count_nodes.Goals as goal

pub returns : goal.returns
returns c =
    let es = c.args.entries.now in
    let mark = mark_of c.args.servers.now c.args.diverse in
    let nodes = taken_by mark (map node_of es) in
    let chosen : c.choose_along.new.chosen.items ≡ take (length es) nodes = c.in_ok-choose_along.ensures [] (c.new-nodes.ensures.items ∙ none_chosen mark (length es)) in
    let few : length nodes ≤ length es = omega (arith, length-taken mark (map node_of es), length-map es node_of) in
    let all : length c.choose_along.new.chosen.items ≡ length nodes = ap length (chosen ∙ take_all (length es) nodes few) in
    omega (arith, all, c.len.ensures, c.choose_along.new.chosen.ok.0)
