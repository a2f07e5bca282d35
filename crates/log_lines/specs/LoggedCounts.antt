-- When the log reports what a receiver has counted.
use Rattle.std.specs.Prelude.{ℕ, ◌-◌, ◌==◌, ◌&&◌, not, nat_lt, nat_le, Bool, true, false, Option, None, Some}
use Rattle.log_lines.specs.declared.receiver_counts.ReceiverCounts.{ReceiverCounts}
use Rattle.log_lines.specs.declared.logged_counts.TheConstants.{MOST_CONNECTIONS}
use Rattle.log_lines.specs.declared.logged_counts.LoggedCounts.{LoggedCounts}
use Rattle.log_lines.specs.declared.logged_counts.LoggedRefusals.{LoggedRefusals}
use Rattle.log_lines.specs.declared.logged_counts.RefusalEvent.{RefusalEvent}
use Rattle.log_lines.specs.declared.logged_counts.RefusalEvent.TheVariants as event

-- ---- what was bad

-- two counts are the same in all that was bad
abbrev pub has_same_bad : (one other : ReceiverCounts) → Bool
has_same_bad one other =
    (one.readers.faults.bad_lines == other.readers.faults.bad_lines) && ((one.readers.faults.bad_pickles == other.readers.faults.bad_pickles)
    && ((one.readers.faults.bad_rows == other.readers.faults.bad_rows) && (one.readers.faults.bad_names == other.readers.faults.bad_names)))

-- something was bad
abbrev pub has_bad : ReceiverCounts → Bool
has_bad counts =
    not ((counts.readers.faults.bad_lines == 0) && ((counts.readers.faults.bad_pickles == 0)
    && ((counts.readers.faults.bad_rows == 0) && (counts.readers.faults.bad_names == 0))))

-- a line written at these milliseconds, if any, is a minute old
abbrev pub is_minute_over : Option ℕ → ℕ → Bool
is_minute_over None millis = true
is_minute_over (Some at) millis = nat_le 60000 (millis - at)

-- a line is due: the bad input is not what the last line says, and that line is a minute old
abbrev pub is_line_due : LoggedCounts → ReceiverCounts → ℕ → Bool
is_line_due logged now millis = not (has_same_bad logged.counts now) && is_minute_over logged.at millis

-- what the log has reported then
abbrev pub counts_logged_after : LoggedCounts → ReceiverCounts → ℕ → Bool → LoggedCounts
counts_logged_after logged now millis true = record { counts = now; at = Some millis }
counts_logged_after logged now millis false = logged

-- ---- connections that are refused

-- a receiver has room for a connection
abbrev pub has_room : ReceiverCounts → Bool
has_room now = nat_lt now.connections MOST_CONNECTIONS

-- what the log reports next: by whether it has reported that connections are refused, whether some were since the last
-- look, and whether there is room
abbrev pub refusal_event_of : LoggedRefusals → ReceiverCounts → (is_refusing has_more is_open : Bool) → Option RefusalEvent
refusal_event_of logged now false false is_open = None
refusal_event_of logged now false true is_open = Some event.BeginsToRefuse
refusal_event_of logged now true true is_open = None
refusal_event_of logged now true false false = None
refusal_event_of logged now true false true = Some (event.RefusesNoMore (now.refused - logged.before))

abbrev pub refusal_event : LoggedRefusals → ReceiverCounts → Option RefusalEvent
refusal_event logged now =
    refusal_event_of logged now logged.is_refusing (not (now.refused == logged.refused)) (has_room now)

abbrev pub logged_after_event : LoggedRefusals → ReceiverCounts → Option RefusalEvent → LoggedRefusals
logged_after_event logged now None =
    record { is_refusing = logged.is_refusing; refused = now.refused; before = logged.before }
logged_after_event logged now (Some event.BeginsToRefuse) =
    record { is_refusing = true; refused = now.refused; before = logged.refused }
logged_after_event logged now (Some (event.RefusesNoMore refused)) =
    record { is_refusing = false; refused = now.refused; before = logged.before }

-- what the log has reported after a look
abbrev pub refusals_logged_after : LoggedRefusals → ReceiverCounts → LoggedRefusals
refusals_logged_after logged now = logged_after_event logged now (refusal_event logged now)
