use Rattle.std.proofs.Common.{◌≡◌, ◌++◌, drop, string_bytes, true}
use Rattle.log_lines.specs.LossesLine.{loss_words_of}
use Rattle.log_lines.proofs.losses_line.push_losses_of.Given as goal

-- what is there and what is left give what all reasons give
abbrev pub invariant-loop-reason : goal.invariant-loop-reason
invariant-loop-reason l =
    string_bytes l.text ++ loss_words_of l.unit l.counts l.is_first (drop l.reason-index l.reasons)
    ≡ string_bytes l.initial.text ++ loss_words_of l.unit l.counts true l.reasons
