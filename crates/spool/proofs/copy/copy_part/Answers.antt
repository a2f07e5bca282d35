use Rattle.std.proofs.Common.{◌≡◌, ℕ, ◌+◌, ◌-◌, ◌≤◌, List, ◌++◌, take, drop, Option, Some, None, ap, sym, subst, ◌∙◌, arith}
use Rattle.std.specs.Prelude.{IfSome}
use Rattle.std.proofs.lemmas.List.{append_assoc, drop-drop, length-take, take-append-le}
use Rattle.std.proofs.Math.Seq.{take-add}
use Rattle.std.specs.Io.KnownBytes.{Appends}
use Rattle.spool.specs.Held.{left_of}
use Rattle.spool.proofs.copy.copy_part.Goals as goal

-- one growth, and then another
appends-then : (old mid new : Option (List ℕ)) (a b : List ℕ) → Appends old mid a → Appends mid new b → Appends old new (a ++ b)
appends-then None mid new a b first then_ = first
appends-then (Some xs) None new a b first then_ = absurd first
appends-then (Some xs) (Some ys) None a b first then_ = then_
appends-then (Some xs) (Some ys) (Some zs) a b first then_ = then_ ∙ ap (λ (l : List ℕ). l ++ b) first ∙ append_assoc xs a b

-- what is left up to a place, and then so many bytes from there on
left-then : (held : List ℕ) (start next count : ℕ) → start ≤ next → left_of held start next ++ take count (drop next held) ≡ left_of held start (next + count)
left-then held start next count h =
    let n = next - start in
    ap (λ (m : ℕ). left_of held start next ++ take count (drop m held)) (omega (arith, h))
    ∙ ap (λ (l : List ℕ). left_of held start next ++ take count l) (sym (drop-drop n start held))
    ∙ sym (take-add n count (drop start held))
    ∙ ap (λ (m : ℕ). take m (drop start held)) (omega (arith, h))

copied-more : (t : Option (List ℕ)) (start next count : ℕ) (piece : List ℕ) (old mid new : Option (List ℕ)) → start ≤ next → IfSome t (λ held. Appends old mid (left_of held start next)) → IfSome t (λ held. take count piece ≡ take count (drop next held)) → Appends mid new (take count piece) → IfSome t (λ held. Appends old new (left_of held start (next + count)))
copied-more None start next count piece old mid new h copied read wrote = copied
copied-more (Some held) start next count piece old mid new h copied read wrote =
    let all = appends-then old mid new (left_of held start next) (take count piece) copied wrote in
    subst (λ (l : List ℕ). Appends old new l) (ap (λ (l : List ℕ). left_of held start next ++ l) read ∙ left-then held start next count h) all

pub loop-next-preserved : goal.loop-next-preserved
loop-next-preserved g c =
    let inv = c.loop-next.invariant in
    let count = c.in_ok-count.count in
    let piece = c.read_from.new.piece in
    record {
      least = omega (arith, inv.least);
      most = omega (arith, inv.most, c.loop-next-test.true, c.min-most.ensures, c.in_ok-count.ensures.count, c.in_ok-count.ensures.length, length-take c.min-most.result c.loop-next.piece);
      copied = copied-more (g.F.HeldText.text c.args.file.now) c.args.start c.loop-next.next count piece _ _ _ inv.least inv.copied c.in_ok-count.ensures.bytes
          (subst (λ (l : List ℕ). Appends (g.W.Write.contents c.loop-next.output) (g.W.Write.contents c.write_all.new.self) l) (take-append-le count piece (drop c.min-most.result c.loop-next.piece) c.in_ok-count.ensures.count) c.in_ok-write_all.ensures.bytes);
    }
