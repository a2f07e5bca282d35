use Rattle.std.proofs.Common.{ap, get_or, length, rules}
use Rattle.std.proofs.lemmas.List.FromFn.{fill_by_all}
use Rattle.log_lines.specs.Losses.{count_behind, count_of}
use Rattle.log_lines.specs.declared.losses.TheConstants.{LOSS_REASONS}
use Rattle.log_lines.specs.declared.losses.LossReason.TheVariants as reason
use Rattle.log_lines.specs.declared.losses.LossCounts.{LossCounts}
use Rattle.log_lines.proofs.losses.LossCounts.behind.Goals as goal

pub returns : goal.returns
returns c =
    ap {B = LossCounts} (λ b. record { by_reason = b }) (
    fill_by_all (λ k. let why = get_or LOSS_REASONS k reason.Overlong in count_behind why (count_of c.args.earlier.now why) (count_of c.args.self.now why))
    c.loop-place.by_reason (length LOSS_REASONS) 0 c.loop-place.invariant.0 (search rules))
