use Rattle.std.proofs.Common.{◌≡◌, List, Some, length, slice_get, ap, subst, ◌∙◌, arith}
use Rattle.std.proofs.lemmas.List.{length-append}
use Rattle.reader_core.specs.Reader.{ReaderModel}
use Rattle.mio_loops.proofs.LoopLemmas.{fresh-push}
use Rattle.mio_loops.proofs.read_loop.fresh_readers.Goals as goal

pub loop-preserved : goal.loop-preserved
loop-preserved c =
    let held = c.loop.invariant in
    let count = held.count in
    let least = held.room in
    let more = ap length c.push_reserved.ensures.items ∙ length-append c.loop.readers.items _ in
    let room = c.push_reserved.ensures.capacity in
    record {
      count = omega (arith, more, count);
      room = omega (arith, room, least);
      fresh = λ token reader found.
          fresh-push c.args.kind c.loop.readers.items c.new.result held.fresh (record { represents = c.new.ensures.represents; begins = c.new.ensures.open }) token reader
          (subst (λ (rs : List ReaderModel). slice_get rs token ≡ Some reader) c.push_reserved.ensures.items found);
    }
