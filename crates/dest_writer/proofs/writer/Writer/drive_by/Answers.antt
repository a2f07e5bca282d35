use Rattle.std.proofs.Common.{◌≡◌, ◌==◌, ◌||◌, not, true, false, ◌∙◌, sym, arith}
use Rattle.dest_writer.proofs.DriveLemmas.{driven-over, driven-more, not_over-goes_on, not_over-left}
use Rattle.dest_writer.specs.Drive.{goes_on}
use Rattle.dest_writer.specs.Writer.{left}
use Rattle.dest_writer.proofs.writer.Writer.drive_by.Goals as goal

pub returns-then-is_over-clause-drives : goal.returns-then-is_over-clause-drives
returns-then-is_over-clause-drives g c =
    let i = c.loop.invariant in
    let s = c.write-wrote in
    let over : ((left s.new.writer.writer == 0) || not (goes_on s.new.counts.last)) ≡ true =
    rw (← c.last-outcome.ensures.last) (sym c.is_over.ensures ∙ c.if-is_over.true) in
    rw (c.report-then-is_over.ensures.driven, c.report-then-is_over.ensures.wrote, c.last-outcome.ensures.last)
    (driven-over i.driven s.ensures.once (omega arith) i.some over)

pub loop-preserved : goal.loop-preserved
loop-preserved g c =
    let i = c.loop.invariant in
    let s = c.write-wrote in
    let over : ((left s.new.writer.writer == 0) || not (goes_on s.new.counts.last)) ≡ false =
    rw (← c.last-outcome.ensures.last) (sym c.is_over.ensures ∙ c.if-is_over.false) in
    let most = i.most in
    let short = s.ensures.most in
    record {
      driven = driven-more i.driven s.ensures.once (not_over-goes_on (left s.new.writer.writer) s.new.counts.last over);
      some = not_over-left (left s.new.writer.writer) s.new.counts.last over;
      most = omega arith;
      limit = s.ensures.limit ∙ i.limit;
      fits = s.ensures.fits;
    }
