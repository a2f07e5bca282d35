use Rattle.std.proofs.Common.{◌≡◌, true, ap, sym, ◌∙◌, arith}
use Rattle.std.specs.Char.{is_ascii_digit}
use Rattle.std.specs.List.{list_all}
use Rattle.relay_base.proofs.WholeNumbers.{no_number_read}
use Rattle.relay_base.proofs.whole_number.whole_number_up_to.Goals as goal

pub returns-in_default-2 : goal.returns-in_default-2
returns-in_default-2 c =
    let text = c.args.text.now in
    let all : list_all is_ascii_digit text ≡ true = ap (list_all is_ascii_digit) (sym c.as_bytes.ensures.value) ∙ sym c.has_digits_alone.ensures ∙ c.if-not-has_digits_alone.false in
    no_number_read c.args.greatest (omega (arith, c.ranges.greatest.fits)) text all c.parse.result c.parse.ensures.value.0 c.in_default.field-0 c.in_default.is
