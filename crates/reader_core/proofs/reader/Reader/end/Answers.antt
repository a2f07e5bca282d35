use Rattle.std.proofs.Common.{sym, subst}
use Rattle.reader_core.specs.Reader.{ReaderModel, Represents}
use Rattle.reader_core.proofs.Representing.{Represents-ended}
use Rattle.reader_core.proofs.reader.Reader.end.Goals as goal

pub returns-clause-represents : goal.returns-clause-represents
returns-clause-represents c = λ kind plan input taken represents.
    let kept : ReaderModel = record { scan = c.self.inside.scan; totals = c.self.inside.totals; waiting = c.self.inside.waiting.items } in
    let stood = subst (λ (s : ReaderModel). Represents s kind plan input taken) (sym c.self.view_is) represents in
    Represents-ended kept c.begin.new.self kind plan input taken stood c.begin.ensures.kind c.begin.ensures.keeps
