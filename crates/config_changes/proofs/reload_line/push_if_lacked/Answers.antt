use Rattle.std.proofs.Common.{sym, ◌∙◌, append-nil}
use Rattle.config_changes.proofs.Listed.{listed-lacked, listed-there}
use Rattle.config_changes.proofs.reload_line.push_if_lacked.Goals as goal

pub returns-then-is_lacked : goal.returns-then-is_lacked
returns-then-is_lacked c =
    let lacked = sym c.is_lacked.ensures ∙ c.if-is_lacked.true in
    rw (listed-lacked c.args.other.now c.args.words.now c.args.dest.now lacked) c.push_dest.ensures

pub returns-else-is_lacked : goal.returns-else-is_lacked
returns-else-is_lacked c =
    let there = sym c.is_lacked.ensures ∙ c.if-is_lacked.false in
    rw (listed-there c.args.other.now c.args.words.now c.args.dest.now there) (sym (append-nil _))
