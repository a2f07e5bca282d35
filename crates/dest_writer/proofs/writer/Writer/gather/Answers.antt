use Rattle.std.proofs.Common.{◌∙◌, ◌-◌, List, length, take, drop, ap, refl, arith}
use Rattle.line_text.specs.Datapoint.{Datapoint}
use Rattle.line_text.specs.Print.{printed_lines}
use Rattle.dest_writer.specs.Stored.{writer_in}
use Rattle.dest_writer.proofs.PlaceLemmas.{some-within, gathers, gathers-some}
use Rattle.dest_writer.proofs.writer.Writer.gather.Goals as goal

pub returns-clause-gathered : goal.returns-clause-gathered
returns-clause-gathered c =
    let a = c.self.inside in
    let some = rw (← c.self.view_is) at c.requires.some in
    let less = some-within a.place.index a.place.offset a.hand.points c.self.invariant.within some in
    let more = c.gather.new.self in
    let within = c.gather.ensures.within in
    let many = ap length c.points.ensures in
    let bytes = c.gather.ensures.bytes ∙ ap (λ (ps : List Datapoint). drop a.place.offset (printed_lines (take (more.end - a.place.index) (drop a.place.index ps)))) c.points.ensures in
    rw (← c.self.view_is) (gathers (writer_in a) a.place.index a.place.offset refl less more c.gather.ensures.behind (omega arith) bytes)

pub returns-clause-some : goal.returns-clause-some
returns-clause-some c =
    let a = c.self.inside in
    let some = rw (← c.self.view_is) at c.requires.some in
    let less = some-within a.place.index a.place.offset a.hand.points c.self.invariant.within some in
    let more = c.gather.new.self in
    let bytes = c.gather.ensures.bytes ∙ ap (λ (ps : List Datapoint). drop a.place.offset (printed_lines (take (more.end - a.place.index) (drop a.place.index ps)))) c.points.ensures in
    gathers-some (writer_in a) a.place.index a.place.offset refl less more c.gather.ensures.behind bytes
