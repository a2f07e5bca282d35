use Rattle.std.proofs.Common.{◌≡◌, ◌≤◌, ◌++◌, length, take, refl, ap, ◌∙◌, arith}
use Rattle.std.proofs.lemmas.Grind.{common_steps}
use Rattle.dest_writer.specs.Writer.{WriterState, writer_after_write}
use Rattle.relay_core.proofs.Moving.{rest-within, rest-leads, rest-bytes, last-leads, last-bytes}
use Rattle.relay_core.proofs.destination.move_bytes.Goals as goal

pub loop-left-preserved : goal.loop-left-preserved
loop-left-preserved c =
    let held = c.loop-left.invariant in
    let law = c.writes_add_up.ensures in
    let w = c.loop-left.writer.writer in
    let y = c.wrote.new.self.writer in
    let count = c.loop-left.left in
    let next = c.min-next.result in
    let bytes = c.next_bytes-bytes.result.now in
    let less : next ≤ count = omega (arith, c.min-next.ensures) in
    let short : next ≤ length bytes = omega (arith, c.min-next.ensures) in
    let step : y ≡ writer_after_write next w = grind (arith, common_steps) in
    let moved : c.extend_from_slice.new.self.items ≡ c.loop-left.to.items ++ take next bytes = grind (arith, common_steps) in
    record {
      up = ap (λ (v : WriterState). v.up) step ∙ held.up;
      within = rest-within law next count w y step less held.within;
      writer = rest-leads law next count w y step less held.within ∙ held.writer;
      bytes = rest-bytes law next count w y step less held.within c.loop-left.to.items bytes _ c.next_bytes-bytes.ensures.next short moved ∙ held.bytes;
      room = grind (arith, common_steps);
      limit = grind (arith, common_steps);
    }

pub loop-left-init : goal.loop-left-init
loop-left-init c =
    record { up = c.requires.up; within = c.requires.left; writer = refl; bytes = refl; room = c.requires.room; limit = refl }

pub returns-then-left-eq0-clause-writer : goal.returns-then-left-eq0-clause-writer
returns-then-left-eq0-clause-writer c =
    let next = c.min-next.result in
    let less : next ≤ c.loop-left.left = omega (arith, c.min-next.ensures) in
    let step : c.wrote.new.self.writer ≡ writer_after_write next c.loop-left.writer.writer = grind (arith, common_steps) in
    last-leads c.writes_add_up.ensures next _ _ _ step less c.loop-left.invariant.within c.if-left-eq0.true ∙ c.loop-left.invariant.writer

pub returns-then-left-eq0-clause-bytes : goal.returns-then-left-eq0-clause-bytes
returns-then-left-eq0-clause-bytes c =
    let next = c.min-next.result in
    let bytes = c.next_bytes-bytes.result.now in
    let less : next ≤ c.loop-left.left = omega (arith, c.min-next.ensures) in
    let short : next ≤ length bytes = omega (arith, c.min-next.ensures) in
    let step : c.wrote.new.self.writer ≡ writer_after_write next c.loop-left.writer.writer = grind (arith, common_steps) in
    let moved : c.extend_from_slice.new.self.items ≡ c.loop-left.to.items ++ take next bytes = grind (arith, common_steps) in
    last-bytes c.writes_add_up.ensures next _ _ _ step less c.loop-left.invariant.within _ bytes _ c.next_bytes-bytes.ensures.next short moved c.if-left-eq0.true ∙ c.loop-left.invariant.bytes
