use Rattle.std.proofs.Common.{◌≡◌, ◌+◌, ◌-◌, length, arith}
use Rattle.std.proofs.lemmas.List.{length-take}
use Rattle.backlog.specs.Lines.{whole_lines}
use Rattle.backlog.proofs.LinesLemmas.{whole-length}
use Rattle.spool.proofs.EndLemmas.{text-passes, text-ends_in}
use Rattle.spool.proofs.held_text.end_of_lines.Goals as goal

pub returns-then-whole-gt0 : goal.returns-then-whole-gt0
returns-then-whole-gt0 g c =
    let part = c.read_whole.new.piece in
    let count = c.min-count.result in
    let end = c.loop-end.end in
    let inv = c.loop-end.invariant in
    let is : end ≡ (end - count) + count = omega (arith, c.min-count.ensures) in
    let long : length part ≡ count = omega (arith, c.read_whole.auto.piece, length-take count c.loop-end.piece, c.min-count.ensures) in
    let whole : c.whole_length-whole.result ≡ length (whole_lines part) = c.whole_length-whole.ensures in
    text-ends_in (g.F.HeldText.text c.args.file.now) part c.args.size (end - count) count end c.saturating_add.result is inv.inside long
    (omega (arith, whole, c.if-whole-gt0.true))
    (omega (arith, c.saturating_add.ensures, whole, whole-length part, long, is, inv.inside, c.ranges.size.fits))
    (c.in_ok-read_whole.ensures (omega (arith, long, c.read_whole.auto.piece, is, inv.inside, c.ranges.size.fits)))
    inv.behind

pub loop-end-preserved : goal.loop-end-preserved
loop-end-preserved g c =
    let part = c.read_whole.new.piece in
    let count = c.min-count.result in
    let end = c.loop-end.end in
    let inv = c.loop-end.invariant in
    let is : end ≡ (end - count) + count = omega (arith, c.min-count.ensures) in
    let long : length part ≡ count = omega (arith, c.read_whole.auto.piece, length-take count c.loop-end.piece, c.min-count.ensures) in
    record {
      inside = omega (arith, inv.inside);
      behind = text-passes (g.F.HeldText.text c.args.file.now) part c.args.size (end - count) count end is inv.inside long
          (omega (arith, c.whole_length-whole.ensures, c.if-whole-gt0.false))
          (c.in_ok-read_whole.ensures (omega (arith, long, c.read_whole.auto.piece, is, inv.inside, c.ranges.size.fits)))
          inv.behind;
    }
