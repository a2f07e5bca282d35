use Rattle.std.proofs.Common.{◌∙◌, ◌+◌, ℕ, ap, arith}
use Rattle.dest_writer.specs.Writer.{writer_after_write}
use Rattle.dest_writer.proofs.PlaceLemmas.{some-within, line-inside, line-place, line-behind, line-count}
use Rattle.dest_writer.proofs.writer.Writer.finish_line.Goals as goal

pub go_to-requires-clause-place : goal.go_to-requires-clause-place
go_to-requires-clause-place c =
    let a = c.go_to.inside in
    let some = rw (← c.go_to.view_is) at c.requires in
    let less = some-within a.place.index a.place.offset a.hand.points c.go_to.invariant.within some in
    let inside = line-inside a.place.index a.hand.points (omega arith) in
    rw (← c.go_to.view_is) (line-place (a.place.index + 1) a.hand.points (omega arith))

pub go_to-requires-clause-behind : goal.go_to-requires-clause-behind
go_to-requires-clause-behind c =
    let a = c.go_to.inside in
    let some = rw (← c.go_to.view_is) at c.requires in
    let less = some-within a.place.index a.place.offset a.hand.points c.go_to.invariant.within some in
    rw (← c.go_to.view_is) (line-behind a.place.index a.place.offset a.hand.points less)

pub returns-clause-step : goal.returns-clause-step
returns-clause-step c =
    let a = c.go_to.inside in
    let some = rw (← c.go_to.view_is) at c.requires in
    let less = some-within a.place.index a.place.offset a.hand.points c.go_to.invariant.within some in
    c.go_to-2.ensures.step
    ∙ ap (λ (n : ℕ). writer_after_write n c.args.self.now.writer) (rw (← c.go_to.view_is) (line-count a.place.index a.place.offset a.hand.points less))
