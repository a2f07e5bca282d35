use Rattle.std.proofs.Common.{ℕ, ◌++◌, take, refl, ap}
use Rattle.line_text.specs.Connection.{arrivals}
use Rattle.pass_lines.proofs.PassLemmas.{passed-end, passed-piece, part-so_far, part-piece, gives_no_more-next}
use Rattle.pass_lines.proofs.pass_command.pass_piece.Goals as goal

pub returns-in_err-flush-clause-part : goal.returns-in_err-flush-clause-part
returns-in_err-flush-clause-part g c = λ r w before has. part-so_far c.accepted_grows.ensures r _ w _ _ c.args.moment before has _ c.flush.ensures

pub returns-in_err-count-clause-part : goal.returns-in_err-count-clause-part
returns-in_err-count-clause-part g c = λ r w before has. part-so_far c.accepted_grows.ensures r _ w _ _ c.args.moment before has _ c.flush.ensures

pub returns-then-count-eq0-clause-passes : goal.returns-then-count-eq0-clause-passes
returns-then-count-eq0-clause-passes g c =
    λ r w before has.
    let none = ap (λ (count : ℕ). take count c.read_piece.new.piece) c.if-count-eq0.true in
    (before, passed-end r _ _ w _ _ _ _ c.args.moment before _ has refl c.in_ok-count.ensures.given none c.flush.ensures, tt)

pub returns-then-count-eq0-clause-part : goal.returns-then-count-eq0-clause-part
returns-then-count-eq0-clause-part g c = λ r w before has. part-so_far c.accepted_grows.ensures r _ w _ _ c.args.moment before has _ c.flush.ensures

pub returns-in_err-take-clause-part : goal.returns-in_err-take-clause-part
returns-in_err-take-clause-part g c =
    λ r w before has.
    part-piece c.accepted_grows.ensures r _ w _ _ c.args.moment before has _ _ _ c.split_at.result.0.now _ c.in_ok-count.ensures.given c.split_at.ensures.front c.flush.ensures
    (c.take.ensures.part (arrivals before c.args.moment) has.represents)

pub returns-clause-passes : goal.returns-clause-passes
returns-clause-passes g c =
    λ r w before has.
    let piece = c.split_at.result.0.now in
    let stood = arrivals before c.args.moment in (
      before ++ piece,
      passed-piece r _ _ w _ _ _ _ _ c.args.moment before piece _ has c.in_ok-count.ensures.given c.split_at.ensures.front c.flush.ensures
          (c.in_ok-take.ensures.represents stood has.represents) (c.in_ok-take.ensures.relayed stood has.represents),
      λ long. gives_no_more-next before piece c.args.moment (c.in_ok-take.ensures.ends long stood has.represents),
    )

pub returns-clause-part : goal.returns-clause-part
returns-clause-part g c =
    λ r w before has.
    part-piece c.accepted_grows.ensures r _ w _ _ c.args.moment before has _ _ _ c.split_at.result.0.now _ c.in_ok-count.ensures.given c.split_at.ensures.front c.flush.ensures
    (c.take.ensures.part (arrivals before c.args.moment) has.represents)
