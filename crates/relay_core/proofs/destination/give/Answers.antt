use Rattle.std.proofs.Common.{◌≡◌, ◌<◌, ◌-◌, ◌++◌, List, [], ℕ, Vec, Global, map, length, refl, ap, sym, ◌∙◌, arith}
use Rattle.std.proofs.lemmas.Grind.{common_steps}
use Rattle.std.proofs.lemmas.List.{map-set, length-map, get_or-map}
use Rattle.std.proofs.Math.Seq.{map-set_same}
use Rattle.std.specs.Prelude.{slice_set, slice_index_or}
use Rattle.std.specs.Vec.{vec_len}
use Rattle.dest_writer.specs.Writer.{bytes_written}
use Rattle.relay_core.proofs.Connections.{with_more_bytes-set}
use Rattle.relay_core.proofs.Refusals.{on_err}
use Rattle.std.proofs.lemmas.Result.{IfOk-from_err}
use Rattle.relay_core.proofs.destination.give.Goals as goal

pub returns-in_err-reserve-in-Some-clause-writer : goal.returns-in_err-reserve-in-Some-clause-writer
returns-in_err-reserve-in-Some-clause-writer c = IfOk-from_err _ _ c.from_residual.ensures.0

pub returns-in_err-reserve-in-Some-clause-ok : goal.returns-in_err-reserve-in-Some-clause-ok
returns-in_err-reserve-in-Some-clause-ok c = IfOk-from_err _ _ c.from_residual.ensures.0

bytes_of : Vec ℕ Global → List ℕ
bytes_of v = v.items

pub returns-in_err-reserve-in-Some-clause-err :
    goal.returns-in_err-reserve-in-Some-clause-err
unfolding bytes_of
returns-in_err-reserve-in-Some-clause-err c =
    let connections = c.args.connections.now in
    on_err c.from_residual.result _
    (map-set_same bytes_of connections.items (vec_len connections - 1) c.reserve.new.self c.in-Some.last.now
    (c.reserve.ensures.items ∙ ap bytes_of c.in-Some.ensures.value))

pub returns-in_ok-reserve-in-Some-clause-ok :
    goal.returns-in_ok-reserve-in-Some-clause-ok
unfolding bytes_of
returns-in_ok-reserve-in-Some-clause-ok c =
    let connections = c.args.connections.now in
    let bytes = bytes_written c.args.count c.args.writer.now.writer in
    let last = c.in-Some.last.now in
    let lists : List (List ℕ) = map bytes_of connections.items in
    let some : 0 < vec_len connections = grind (arith, common_steps) in
    let count : vec_len connections ≡ length connections.items = grind (arith, common_steps) in
    let lengths : length lists ≡ length connections.items = rw length-map refl in
    let place : vec_len connections - 1 ≡ length lists - 1 = omega (arith, count, lengths) in
    let there : vec_len connections - 1 < length connections.items = omega (arith, some, count) in
    let found : slice_index_or lists (vec_len connections - 1) [] ≡ last.items =
    get_or-map bytes_of connections.items (vec_len connections - 1) last [] there ∙ ap bytes_of (sym c.in-Some.ensures.value) in
    rw (with_more_bytes-set bytes lists (omega (arith, some, count, lengths)), ← place)
    (map-set bytes_of connections.items (vec_len connections - 1) c.move_bytes.new.to
    ∙ ap (λ (x : List ℕ). slice_set lists (vec_len connections - 1) x)
    (c.move_bytes.ensures.bytes ∙ ap (λ (x : List ℕ). x ++ bytes) c.reserve.ensures.items ∙ ap (λ (x : List ℕ). x ++ bytes) (sym found)))
