use Rattle.std.proofs.Common.{◌≡◌, ℕ, ◌+◌, ◌-◌, IfSome, length, take, drop, subst, arith}
use Rattle.std.proofs.lemmas.List.{length-drop, length-take}
use borrow.Rule.Slice.PartMut.{post_of}
use Rattle.spool.proofs.EndLemmas.{put-length, text-read_more}
use Rattle.spool.proofs.held_text.read_whole.Goals as goal

pub loop-preserved : goal.loop-preserved
loop-preserved g c =
    let text = g.F.HeldText.text c.args.file.now in
    let piece = c.loop.piece in
    let part = c.read_some.new.piece in
    let filled = c.loop.filled in
    let count = c.in_ok-filled.field-0 in
    let rest = post_of filled (length piece - filled) piece in
    let held_in = c.loop.invariant in
    let long : length part ≡ length piece - filled = omega (arith, c.read_some.auto.piece, length-drop filled piece, length-take (length piece - filled) (drop filled piece)) in
    let whole = put-length piece part rest filled held_in.inside long in
    record {
      inside = omega (arith, whole, held_in.inside, long, c.in_ok-filled.ensures.count);
      read = λ small.
          let next : c.saturating_add.result ≡ c.args.place + filled = omega (arith, c.saturating_add.ensures, small, whole, held_in.inside) in
          text-read_more text piece part rest c.args.place filled count held_in.inside c.in_ok-filled.ensures.count
          (held_in.read (omega (arith, small, whole)))
          (subst (λ (n : ℕ). IfSome text (λ held. take count part ≡ take count (drop n held))) next c.in_ok-filled.ensures.bytes);
    }
