use Rattle.std.proofs.Common.{subst, ap, sym, ◌∙◌, ◌++◌}
use Rattle.line_text.specs.Connection.{arrivals}
use Rattle.line_text.specs.Reader.{ReaderModel, Represents, model_after}
use Rattle.line_text.proofs.FeedLemmas.{Represents-closed_after, bad-closed, gained-closed, Represents-open_after, bad-open, gained-open}
use Rattle.line_text.proofs.reader.LineReader.find.Goals as goal

pub returns-then-self-clause-represents : goal.returns-then-self-clause-represents
returns-then-self-clause-represents g c =
    let closed = ap (λ (s : ReaderModel). s.closed) (sym c.self.view_is) ∙ c.if-self.true in
    λ before represents. Represents-closed_after c.args.self.now before _ closed represents

pub returns-then-self-clause-gained : goal.returns-then-self-clause-gained
returns-then-self-clause-gained g c =
    let closed = ap (λ (s : ReaderModel). s.closed) (sym c.self.view_is) ∙ c.if-self.true in
    λ before represents. gained-closed c.args.self.now before _ _ closed represents

pub returns-then-self-clause-bad : goal.returns-then-self-clause-bad
returns-then-self-clause-bad g c =
    let closed = ap (λ (s : ReaderModel). s.closed) (sym c.self.view_is) ∙ c.if-self.true in
    λ before represents. bad-closed c.args.self.now before _ closed represents

pub returns-clause-represents : goal.returns-clause-represents
returns-clause-represents g c =
    let read = c.in-Ok.ensures in
    λ before represents.
    let kept : ReaderModel = record { rest = c.self.inside.rest.items; closed = c.self.inside.closed; bad = c.self.inside.bad_lines } in
    let stood = subst (λ (s : ReaderModel). Represents s before) (sym c.self.view_is) represents in
    subst (λ (s : ReaderModel). Represents (model_after s c.in-Ok.found) (before ++ arrivals c.args.piece.now c.args.moment)) c.self.view_is
    (Represents-open_after kept c.in-Ok.found before c.args.piece.now c.args.moment c.if-self.false stood read.rest read.closed read.bad)

pub returns-clause-gained : goal.returns-clause-gained
returns-clause-gained g c =
    λ before represents.
    let kept : ReaderModel = record { rest = c.self.inside.rest.items; closed = c.self.inside.closed; bad = c.self.inside.bad_lines } in
    let stood = subst (λ (s : ReaderModel). Represents s before) (sym c.self.view_is) represents in
    gained-open kept before c.args.piece.now c.args.moment _ _ c.if-self.false stood c.in-Ok.ensures.gained

pub returns-clause-bad : goal.returns-clause-bad
returns-clause-bad g c =
    λ before represents.
    let kept : ReaderModel = record { rest = c.self.inside.rest.items; closed = c.self.inside.closed; bad = c.self.inside.bad_lines } in
    let stood = subst (λ (s : ReaderModel). Represents s before) (sym c.self.view_is) represents in
    bad-open kept before c.args.piece.now c.args.moment _ c.if-self.false stood c.in-Ok.ensures.bad
