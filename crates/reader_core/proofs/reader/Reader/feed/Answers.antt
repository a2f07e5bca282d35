use Rattle.std.proofs.Common.{◌≡◌, [], sym, subst, arith}
use Rattle.std.proofs.lemmas.Grind.{common_steps}
use Rattle.line_text.specs.Connection.{arrivals}
use Rattle.reader_core.specs.Input.{current}
use Rattle.reader_core.specs.Reader.{ReaderModel, Represents}
use Rattle.reader_core.proofs.Representing.{Represents-fed}
use Rattle.reader_core.proofs.reader.Reader.feed.Goals as goal

pub returns-in-Ok-clause-represents : goal.returns-in-Ok-clause-represents
returns-in-Ok-clause-represents c =
    let empty : c.self.inside.waiting.items ≡ [] = grind (arith, common_steps) in
    λ kind input taken represents.
    let kept : ReaderModel = record { scan = c.self.inside.scan; totals = c.self.inside.totals; waiting = c.self.inside.waiting.items } in
    let new : ReaderModel = record { scan = c.take_piece.new.scan; totals = c.with-self-inside.result; waiting = c.take_piece.new.waiting.items } in
    let stood = subst (λ (s : ReaderModel). Represents s kind c.args.plan.now input taken) (sym c.self.view_is) represents in
    Represents-fed kept new kind c.args.plan.now input taken (arrivals c.args.piece.now c.args.moment) c.in-Ok.taken.totals stood empty
    (c.in-Ok.ensures.taken (current input) stood.keeps) c.with-self-inside.ensures
