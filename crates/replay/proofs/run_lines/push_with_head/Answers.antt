use Rattle.std.proofs.Common.{◌≡◌, ◌≤◌, ℕ, List, [], ◌∷◌, ◌++◌, ◌+◌, ◌==◌, drop, length, slice_index, ap, sym, ◌∙◌, arith}
use Rattle.std.proofs.lemmas.List.{append_assoc, at_drop_more, at_drop_all}
use Rattle.replay.specs.RunText.{head_if, text_lines}
use Rattle.replay.proofs.run_lines.push_with_head.Goals as goal

pub loop-place-preserved : goal.loop-place-preserved
loop-place-preserved c =
    let place = c.loop-place.place in
    let starts = c.loop-place.starts in
    let head = c.args.head.now in
    let bytes = c.args.bytes.now in
    let byte = slice_index bytes place in
    let before = c.loop-place.text.items in
    let first = head_if starts head in
    let behind = drop (place + 1) bytes in
    let rest = text_lines head (byte == 10) behind in
    let next : text_lines head starts (drop place bytes) ≡ first ++ byte ∷ rest =
    at_drop_more (λ l. text_lines head starts l) bytes place 0 c.loop-place-test.true in
    ap (λ (l : List ℕ). l ++ rest) c.in_ok-push_byte.ensures ∙ append_assoc (before ++ first) (byte ∷ []) rest ∙ append_assoc before first (byte ∷ rest)
    ∙ ap (λ (l : List ℕ). before ++ l) (sym next) ∙ c.loop-place.invariant

pub returns : goal.returns
returns c =
    let place = c.loop-place.place in
    let starts = c.loop-place.starts in
    let head = c.args.head.now in
    let bytes = c.args.bytes.now in
    let over = c.loop-place-test.false in
    let past : length bytes ≤ place = omega (arith, over) in
    c.in_ok-end_line.ensures ∙ ap (λ (l : List ℕ). c.loop-place.text.items ++ l) (sym (at_drop_all (λ l. text_lines head starts l) bytes place past))
    ∙ c.loop-place.invariant
