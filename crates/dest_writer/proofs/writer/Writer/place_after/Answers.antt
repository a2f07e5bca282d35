use Rattle.std.proofs.Common.{◌<◌, ◌+◌, List, length, ap, subst, arith}
use Rattle.line_text.specs.Datapoint.{Datapoint}
use Rattle.line_text.specs.Print.{printed_lines}
use Rattle.dest_writer.specs.Place.{line_at, length_of_first, IsPlace}
use Rattle.dest_writer.proofs.PlaceLemmas.{rest-is, within-index, within-offset, shift, shift-place, place-most, length-cut, few-left}
use Rattle.dest_writer.proofs.writer.Writer.place_after.Goals as goal

pub place_behind-requires : goal.place_behind-requires
place_behind-requires c =
    let a = c.self.inside in
    let rest = rest-is a.place.index c.points.result.now a.hand.points c.points.ensures in
    let line = ap (λ (ps : List Datapoint). length (line_at 0 ps)) rest in
    let within = within-offset a.place.index a.place.offset a.hand.points c.self.invariant.within in
    omega arith

pub returns-in_err-place-clause-few : goal.returns-in_err-place-clause-few
returns-in_err-place-clause-few c =
    let a = c.self.inside in
    let rest = rest-is a.place.index c.points.result.now a.hand.points c.points.ensures in
    let few = subst (λ (ps : List Datapoint). length (printed_lines ps) < a.place.offset + c.args.count) rest c.in_err-place.ensures.few in
    rw (c.from_residual.ensures, ← c.self.view_is) (few-left a.place.index a.place.offset c.args.count a.hand.points c.self.invariant.within few)

pub returns-clause-place : goal.returns-clause-place
returns-clause-place c =
    let a = c.self.inside in
    let rest = rest-is a.place.index c.points.result.now a.hand.points c.points.ensures in
    rw (← c.self.view_is) (shift-place a.place.index c.in_ok-place.place a.hand.points (within-index a.place.index a.place.offset a.hand.points c.self.invariant.within)
    (subst (IsPlace c.in_ok-place.place) rest c.in_ok-place.ensures.place))

pub returns-clause-position : goal.returns-clause-position
returns-clause-position c =
    let a = c.self.inside in
    let rest = rest-is a.place.index c.points.result.now a.hand.points c.points.ensures in
    let first = ap (λ (ps : List Datapoint). length_of_first c.in_ok-place.place.index ps) rest in
    let at = c.in_ok-place.ensures.position in
    let both = shift a.place.index c.in_ok-place.place.index a.hand.points in
    rw (← c.self.view_is) (omega arith)

pub returns-clause-within : goal.returns-clause-within
returns-clause-within c =
    let a = c.self.inside in
    let rest = rest-is a.place.index c.points.result.now a.hand.points c.points.ensures in
    let most = place-most c.in_ok-place.place _ c.in_ok-place.ensures.place in
    let many = ap (λ (ps : List Datapoint). length (printed_lines ps)) rest in
    let at = c.in_ok-place.ensures.position in
    let cut = length-cut a.place.index a.hand.points in
    rw (← c.self.view_is) (omega arith)
