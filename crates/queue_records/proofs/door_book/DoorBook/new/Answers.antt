use Rattle.std.proofs.Common.{◌∙◌, ◌*◌, ℕ, List, map, length, refl, ap}
use Rattle.std.proofs.lemmas.List.{length-replicate}
use Rattle.std.proofs.lemmas.Result.{IfOk-from_err}
use Rattle.std.specs.Prelude.{slice_index}
use Rattle.queue_records.specs.Made.{offer_of}
use Rattle.queue_records.specs.Offers.{readers_each}
use Rattle.queue_records.proofs.Entering.{sound-fresh, zeros-at}
use Rattle.queue_records.proofs.door_book.DoorBook.new.Goals as goal

pub returns-in_err-made : goal.returns-in_err-made
returns-in_err-made c = IfOk-from_err _ _ c.from_residual.ensures.0

pub returns-in_err-totals : goal.returns-in_err-totals
returns-in_err-totals c = IfOk-from_err _ _ c.from_residual-in_err-totals.ensures.0

pub returns-in_err-drops : goal.returns-in_err-drops
returns-in_err-drops c = IfOk-from_err _ _ c.from_residual-in_err-drops.ensures.0

pub returns-in_err-next : goal.returns-in_err-next
returns-in_err-next c = IfOk-from_err _ _ c.from_residual-in_err-next.ensures.0

pub invariant_of-result : goal.invariant_of-result
invariant_of-result c =
    sound-fresh _ c.args.dests c.in_ok-made.ensures.capacity c.in_ok-made.ensures.items c.requires.receiver c.requires.dests.1
    (c.in_ok-totals.ensures.items_if_clones_equal (λ y is. is)) (c.in_ok-drops.ensures.items_if_clones_equal (λ y is. is)) (c.in_ok-next.ensures.items_if_clones_equal (λ y is. is))

pub returns : goal.returns
returns c =
    let dests = c.args.dests in
    let totals = c.in_ok-totals.ensures.items_if_clones_equal (λ y is. is) in
    let drops = c.in_ok-drops.ensures.items_if_clones_equal (λ y is. is) in
    let next = c.in_ok-next.ensures.items_if_clones_equal (λ y is. is) in
    record {
      of_receiver = refl;
      entries = ap (map offer_of) c.in_ok-made.ensures.items;
      dests = ap length totals ∙ length-replicate dests 0;
      drop_count = ap length drops ∙ length-replicate dests 0;
      totals = λ dest. ap (λ (xs : List ℕ). slice_index xs dest) totals ∙ zeros-at dests dest;
      drops = λ dest. ap (λ (xs : List ℕ). slice_index xs dest) drops ∙ zeros-at dests dest;
      next = λ place. ap (λ (xs : List ℕ). slice_index xs place) next ∙ zeros-at (readers_each * dests) place;
    }
