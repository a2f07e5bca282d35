use Rattle.std.proofs.Common.{◌<◌, length, get_or, sym, ap, ◌∙◌}
use Rattle.std.proofs.lemmas.List.{get_or-map}
use Rattle.live_watch.proofs.agreement.agree.Goals as goal

-- an offer goes elsewhere
pub returns-then-from-dest-clause-differs : goal.returns-then-from-dest-clause-differs
returns-then-from-dest-clause-differs c = λ agrees.
    let within : c.loop-place.place < length c.args.offers.now = rw c.if-offers-dests.false c.loop-place-test.true in
    absurd (c.if-from-dest.true (c.from.ensures
    ∙ sym (get_or-map (λ offer. offer.dest) c.args.offers.now c.loop-place.place _ 0 within)
    ∙ ap (λ all. get_or all c.loop-place.place 0) agrees
    ∙ get_or-map (λ dest. dest.0) c.args.dests.now c.loop-place.place _ 0 c.loop-place-test.true))
