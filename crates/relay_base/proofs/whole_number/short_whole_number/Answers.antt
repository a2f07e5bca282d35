use Rattle.std.proofs.Common.{◌∙◌, arith}
use Rattle.relay_base.proofs.WholeNumbers.{short_number_read}
use Rattle.relay_base.proofs.whole_number.short_whole_number.Goals as goal

pub returns : goal.returns
returns c =
    c.whole_number_up_to.ensures ∙ short_number_read c.args.most c.args.text.now (omega arith) c.requires
