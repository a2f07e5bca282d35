use Rattle.std.proofs.Common.{◌≡◌, ℕ, List, [], ◌++◌, length, take, sym, ap, ◌∙◌, arith}
use Rattle.std.proofs.Math.Seq.{take-length}
use Rattle.line_text.specs.Print.{printed_lines}
use Rattle.handover.specs.Rest.{left_text}
use Rattle.store_lines.specs.DestCarryOver.{text_left}
use Rattle.store_lines.proofs.LeftLemmas.{text-added}
use Rattle.relay_run.proofs.ended_run.add_to.Goals as goal

-- behind a rest
pub returns-in-Some-clause-text : goal.returns-in-Some-clause-text
returns-in-Some-clause-text c =
    let added = c.add.ensures.added in
    let was : left_text c.in-Some.rest ≡ text_left c.args.rest.now = cc in
    (added.0, text-added c.in-Some.rest c.add.new.self c.args.points added.0 c.add.ensures.writer added.1 ∙ ap (λ (t : List ℕ). t ++ printed_lines (take added.0 c.args.points)) was, added.2)

-- where nothing was left before
pub returns-in-Ok-clause-text : goal.returns-in-Ok-clause-text
returns-in-Ok-clause-text c =
    let none : text_left c.args.rest.now ≡ [] = cc in
    let all : take (length c.args.points) c.args.points ≡ c.args.points = take-length c.args.points in
    (length c.args.points, c.in-Ok.ensures ∙ sym (ap (λ (t : List ℕ). t ++ printed_lines (take (length c.args.points) c.args.points)) none ∙ ap printed_lines all), omega arith)
