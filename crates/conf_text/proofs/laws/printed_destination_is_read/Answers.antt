use Rattle.conf_text.proofs.Printing.{printed_is_read}
use Rattle.conf_text.proofs.laws.printed_destination_is_read.Goals as goal

pub returns : goal.returns
returns c = printed_is_read
