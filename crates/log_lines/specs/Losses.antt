-- When the log reports what a receiver lost or closed.
use Rattle.std.specs.Prelude.{ℕ, ◌+◌, max, map, get_or, ◌==◌, ◌&&◌, not, Bool, true, false, Some}
use Rattle.std.specs.List.{list_all, list_any}
use Rattle.reader_counts.specs.Counts.{counted}
use Rattle.log_lines.specs.LoggedCounts.{is_minute_over}
use Rattle.log_lines.specs.declared.losses.TheConstants.{LOSS_REASONS}
use Rattle.log_lines.specs.declared.losses.LossCounts.{LossCounts}
use Rattle.log_lines.specs.declared.losses.LoggedLosses.{LoggedLosses}
use Rattle.log_lines.specs.declared.losses.LossReason.{LossReason}
use Rattle.log_lines.specs.declared.losses.LossReason.TheVariants as reason

-- the place of a reason in LOSS_REASONS
abbrev pub place : LossReason → ℕ
place reason.Overlong = 0
place reason.Unfinished = 1
place reason.Idle = 2
place reason.MemoryShort = 3
place reason.Broken = 4
place reason.SystemDrop = 5

-- the count of a reason
abbrev pub count_of : LossCounts → LossReason → ℕ
count_of counts why = get_or counts.by_reason (place why) 0

-- the counts of all reasons
abbrev pub counts_by : (LossReason → ℕ) → LossCounts
counts_by count = record { by_reason = map count LOSS_REASONS }

abbrev pub no_losses : LossCounts
no_losses = counts_by (λ why. 0)

-- two counts are the same
abbrev pub has_same_losses : (one other : LossCounts) → Bool
has_same_losses one other = list_all (λ why. count_of one why == count_of other why) LOSS_REASONS

-- something was lost or closed
abbrev pub has_lost : LossCounts → Bool
has_lost counts = list_any (λ why. not (count_of counts why == 0)) LOSS_REASONS

-- a line is due: the counts are not what the last line says, and that line is a minute old
abbrev pub is_losses_line_due : LoggedLosses → LossCounts → ℕ → Bool
is_losses_line_due logged now millis =
    not (has_same_losses logged.counts now) && is_minute_over logged.at millis

-- what the log has reported then
abbrev pub losses_logged_after : LoggedLosses → LossCounts → ℕ → Bool → LoggedLosses
losses_logged_after logged now millis true = record { counts = now; at = Some millis }
losses_logged_after logged now millis false = logged

-- the count of a reason in a run, behind that of runs that have ended; the system counts its own since the socket was made
abbrev pub count_behind : LossReason → (earlier now : ℕ) → ℕ
count_behind reason.SystemDrop earlier now = max earlier now
count_behind _ earlier now = counted (earlier + now)

-- the losses of a run behind those of runs that have ended
abbrev pub losses_behind : (earlier now : LossCounts) → LossCounts
losses_behind earlier now = counts_by (λ why. count_behind why (count_of earlier why) (count_of now why))
