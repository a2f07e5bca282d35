use Rattle.std.proofs.Common.{◌≡◌, ◌<◌, ℕ, length, drop, sym, ◌∙◌, ap, arith}
use Rattle.std.proofs.lemmas.Bool.{eqb-true, eqb-false}
use Rattle.std.specs.List.{position_or_len}
use Rattle.relay_base.specs.White.{is_white}
use Rattle.line_text.specs.Field.{fields}
use Rattle.line_text.proofs.FieldLemmas.{fields-drop_white, fields-none, fields-first}
use Rattle.line_text.proofs.field.first_field.Goals as goal

pub returns-then-is_empty : goal.returns-then-is_empty
returns-then-is_empty c =
    let text = c.args.text.now in
    let trimmed = c.split_at.ensures.back ∙ ap (λ (n : ℕ). drop n text) c.white_len.ensures.len in
    let none : length c.split_at-2.result.0.now ≡ 0 = eqb-true _ 0 (sym c.is_empty.ensures ∙ c.if-is_empty.true) in
    let len : c.field_len.result ≡ 0 = omega (arith, c.split_at-2.ensures.front_len) in
    fields-none text (ap (position_or_len is_white) (sym trimmed) ∙ sym c.field_len.ensures.len ∙ len)

pub returns : goal.returns
returns c =
    let text = c.args.text.now in
    let behind = c.split_at.result.1.now in
    let trimmed = c.split_at.ensures.back ∙ ap (λ (n : ℕ). drop n text) c.white_len.ensures.len in
    let some = eqb-false (length c.split_at-2.result.0.now) 0 (sym c.is_empty.ensures ∙ c.if-is_empty.false) in
    let bytes : 0 < position_or_len is_white behind = omega (arith, some, c.split_at-2.ensures.front_len, c.field_len.ensures.len) in
    let first = fields-first behind bytes in
    sym (fields-drop_white text) ∙ ap fields (sym trimmed) ∙ rw (c.split_at-2.ensures.front, c.split_at-2.ensures.back, c.field_len.ensures.len) first
