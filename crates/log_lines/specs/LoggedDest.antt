-- What the log reports of a destination.
use Rattle.std.specs.Prelude.{ℕ, ◌≡◌, ◌⊎◌, ◌-◌, Bool, true, false, Option, None, Some}
use Rattle.log_lines.specs.declared.why.Why.{Why}
use Rattle.log_lines.specs.declared.dest_notes.DestStatus.{DestStatus}
use Rattle.log_lines.specs.declared.logged_dest.LoggedDest.{LoggedDest}
use Rattle.log_lines.specs.declared.logged_dest.DestEvent.{DestEvent}
use Rattle.log_lines.specs.declared.logged_dest.DestEvent.TheVariants as event

abbrev pub nothing_logged : LoggedDest
nothing_logged = record {
  is_up = false;
  losses = 0;
  failure = None;
  is_dropping = false;
  dropped = 0;
  before = 0;
}

-- what the log may report of the connection: what holds now, and was not reported; nothing only if all was
abbrev pub IsConnectionEvent : LoggedDest → DestStatus → Option DestEvent → Type 0
IsConnectionEvent logged now None =
    (now.losses ≡ logged.losses) × (now.is_up ≡ true → logged.is_up ≡ true)
    × (now.is_up ≡ false → (now.failure ≡ None) ⊎ (now.failure ≡ logged.failure))
IsConnectionEvent logged now (Some event.Connected) =
    (now.is_up ≡ true) × (logged.is_up ≡ false) × (now.losses ≡ logged.losses)
IsConnectionEvent logged now (Some (event.ConnectedAgain why)) =
    (now.is_up ≡ true) × ¬ (now.losses ≡ logged.losses) × (why ≡ now.loss)
IsConnectionEvent logged now (Some (event.Lost why)) =
    (now.is_up ≡ false) × ¬ (now.losses ≡ logged.losses) × (why ≡ now.loss)
IsConnectionEvent logged now (Some (event.CannotConnect why to)) =
    (now.is_up ≡ false) × (now.failure ≡ Some why) × (to ≡ now.failed_at) × ¬ (now.failure ≡ logged.failure)
IsConnectionEvent logged now (Some event.BeginsToDrop) = ⊥
IsConnectionEvent logged now (Some (event.DropsNoMore dropped)) = ⊥

-- what the log may report of drops, likewise; the end of dropping is reported once the queue has room and nothing was
-- dropped since the last look, with all that was dropped since before it began
abbrev pub IsDropEvent : LoggedDest → DestStatus → Option DestEvent → Type 0
IsDropEvent logged now None =
    (logged.is_dropping ≡ false → now.dropped ≡ logged.dropped)
    × (logged.is_dropping ≡ true → (now.has_room ≡ false) ⊎ ¬ (now.dropped ≡ logged.dropped))
IsDropEvent logged now (Some event.BeginsToDrop) =
    (logged.is_dropping ≡ false) × ¬ (now.dropped ≡ logged.dropped)
IsDropEvent logged now (Some (event.DropsNoMore dropped)) =
    (logged.is_dropping ≡ true) × (now.has_room ≡ true) × (now.dropped ≡ logged.dropped)
    × (dropped ≡ now.dropped - logged.before)
IsDropEvent logged now (Some event.Connected) = ⊥
IsDropEvent logged now (Some (event.ConnectedAgain why)) = ⊥
IsDropEvent logged now (Some (event.Lost why)) = ⊥
IsDropEvent logged now (Some (event.CannotConnect why to)) = ⊥

-- what a look reports: of the connection; of drops if there is nothing to report of that; or nothing
abbrev pub IsDestEvent : LoggedDest → DestStatus → Option DestEvent → Type 0
IsDestEvent logged now None = IsConnectionEvent logged now None × IsDropEvent logged now None
IsDestEvent logged now (Some event) =
    IsConnectionEvent logged now (Some event)
    ⊎ (IsConnectionEvent logged now None × IsDropEvent logged now (Some event))

-- ---- what was reported after a look

abbrev pub with_connection : LoggedDest → DestStatus → Option Why → LoggedDest
with_connection logged now failure = record {
  is_up = now.is_up;
  losses = now.losses;
  failure = failure;
  is_dropping = logged.is_dropping;
  dropped = logged.dropped;
  before = logged.before;
}

abbrev pub with_drops : LoggedDest → DestStatus → Bool → ℕ → LoggedDest
with_drops logged now is_dropping before = record {
  is_up = logged.is_up;
  losses = logged.losses;
  failure = logged.failure;
  is_dropping = is_dropping;
  dropped = now.dropped;
  before = before;
}

abbrev pub dest_logged_after : LoggedDest → DestStatus → Option DestEvent → LoggedDest
dest_logged_after logged now (Some event.Connected) = with_connection logged now None
dest_logged_after logged now (Some (event.ConnectedAgain why)) = with_connection logged now None
dest_logged_after logged now (Some (event.Lost why)) = with_connection logged now None
dest_logged_after logged now (Some (event.CannotConnect why to)) = with_connection logged now (Some why)
dest_logged_after logged now (Some event.BeginsToDrop) = with_drops logged now true logged.dropped
dest_logged_after logged now (Some (event.DropsNoMore dropped)) = with_drops logged now false logged.before
dest_logged_after logged now None = with_drops logged now logged.is_dropping logged.before

-- what the log has reported once it reported all that led to a state
abbrev pub logged_up_to : DestStatus → LoggedDest
logged_up_to now = record {
  is_up = now.is_up;
  losses = now.losses;
  failure = now.failure;
  is_dropping = false;
  dropped = now.dropped;
  before = now.dropped;
}
