use Rattle.std.proofs.Common.{◌≡◌, ℕ, ◌<◌, length, get_or}
use Rattle.log_lines.specs.Losses.{count_behind, count_of}
use Rattle.log_lines.specs.declared.losses.TheConstants.{LOSS_REASONS}
use Rattle.log_lines.specs.declared.losses.LossReason.TheVariants as reason
use Rattle.log_lines.proofs.losses.LossCounts.behind.Given as goal

-- the counts before this place are there
abbrev pub invariant-loop-place : goal.invariant-loop-place
invariant-loop-place l =
    (length l.by_reason ≡ length LOSS_REASONS) × ((k : ℕ) → k < l.place → get_or l.by_reason k 0 ≡ (let why = get_or LOSS_REASONS k reason.Overlong in count_behind why (count_of l.earlier why) (count_of l.self why)))
