use Rattle.std.proofs.Common.{◌≡◌, ◌+◌, ◌-◌, ◌<◌, ℕ, List, ◌∷◌, [], length, take, drop, sym, ap, ◌∙◌, arith}
use Rattle.std.proofs.lemmas.List.{length-drop, take_all}
use Rattle.std.specs.List.{prefix_len}
use Rattle.line_text.specs.Field.{fields, is_visible}
use Rattle.line_text.proofs.FieldLemmas.{fields-to_end}
use Rattle.line_text.proofs.plain_line.plain_fields.Goals as goal

pub returns : goal.returns
returns c =
    let line = c.args.line.now in
    let name = c.in_ok-name.name in
    let value = c.in_ok-value.value in
    let rest = drop (value + 1) line in
    let long = length-drop (value + 1) line in
    let all : prefix_len is_visible rest ≡ length rest = omega (arith, long, c.visible_end-time.ensures.end, c.visible_end-time.ensures.within, c.if-time-line.false, c.in_ok-value.ensures.within) in
    let some : 0 < length rest = omega (arith, long, all, c.visible_end-time.ensures.end, c.if-time-value.false) in
    let whole = take_all (length line - (value + 1)) rest (omega (arith, long)) in
    let time = fields-to_end rest all some ∙ ap (λ (l : List ℕ). l ∷ []) (sym whole) in
    let first : name - 0 ≡ name = omega arith in
    c.in_ok-name.ensures.field ∙ ap (λ (n : ℕ). take n line ∷ fields (drop (name + 1) line)) first
    ∙ ap (λ (ps : List (List ℕ)). take name line ∷ ps) (c.in_ok-value.ensures.field ∙ ap (λ (ps : List (List ℕ)). take (value - (name + 1)) (drop (name + 1) line) ∷ ps) time)
