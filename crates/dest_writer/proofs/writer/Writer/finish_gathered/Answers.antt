use Rattle.std.proofs.Common.{◌∙◌, ◌≡◌, ◌+◌, ◌-◌, ℕ, length, ap, arith}
use Rattle.dest_writer.specs.Place.{length_of_first}
use Rattle.dest_writer.specs.Writer.{writer_after_write}
use Rattle.dest_writer.proofs.PlaceLemmas.{line-place, gathered-length}
use Rattle.dest_writer.proofs.writer.Writer.finish_gathered.Goals as goal

pub go_to-requires-clause-place : goal.go_to-requires-clause-place
go_to-requires-clause-place c = rw (c.end.ensures) (line-place c.args.gathered.now.end c.args.self.now.writer.hand c.requires.within)

pub returns-clause-step : goal.returns-clause-step
returns-clause-step c =
    let w = c.args.self.now.writer in
    let many = gathered-length w c.args.gathered.now c.requires in
    let end = ap (λ (n : ℕ). length_of_first n w.hand) c.end.ensures in
    let count : length_of_first c.end.result w.hand + 0 - w.written ≡ length c.args.gathered.now.bytes = omega arith in
    c.go_to.ensures.step ∙ ap (λ (n : ℕ). writer_after_write n w) count
