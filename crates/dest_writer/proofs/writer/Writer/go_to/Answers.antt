use Rattle.std.proofs.Common.{◌∙◌, sym}
use Rattle.dest_writer.specs.Stored.{writer_in}
use Rattle.dest_writer.specs.Place.{position}
use Rattle.dest_writer.proofs.PlaceLemmas.{place-less, write-position}
use Rattle.dest_writer.proofs.writer.Writer.go_to.Goals as goal

pub returns-else-place-len-clause-step : goal.returns-else-place-len-clause-step
returns-else-place-len-clause-step c =
    let place = rw (← c.self.view_is) at c.requires.place in
    let behind = rw (← c.self.view_is) at c.requires.behind in
    let less = place-less c.args.place c.self.inside.hand.points place (λ e. c.if-place-len.false (e ∙ sym c.len.ensures)) in
    rw (← c.self.view_is) (write-position (writer_in c.self.inside) (position c.args.place c.self.inside.hand.points) behind less)
