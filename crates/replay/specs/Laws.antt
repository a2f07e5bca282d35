-- What two replays print alike.
use Rattle.std.specs.Prelude.{ℕ, ◌≡◌, ◌<◌, List}
use Rattle.conf_text.specs.Destination.{Destination}
use Rattle.dest_queue.specs.Counts.{counts_of}
use Rattle.router.specs.Plan.{Plan}
use Rattle.reader_core.specs.Kinds.{relay_reading}
use Rattle.reader_core.specs.declared.kind.ReaderKind.{ReaderKind}
use Rattle.relay_core.specs.World.{RunEvent}
use Rattle.relay_core.specs.Run.{Run, dest_in}
use Rattle.relay_core.specs.Relay.{run_of}
use Rattle.relay_core.specs.Agreement.{AgreesAt}
use Rattle.admin_report.specs.ReportText.{destination_line}
use Rattle.replay.specs.declared.handed_form.HandedForm.{HandedForm}
use Rattle.replay.specs.RunText.{handed_text}

-- the line of the report of a destination that has this name
abbrev pub report_line : Destination → Run → ℕ → List ℕ
report_line dest run d = destination_line dest (counts_of (dest_in relay_reading run d).queue)

-- the same is printed of a destination: what its connections got, and its line of the report under any name
pub record HasSameText (d : ℕ) (a b : Run) : Type 0 where
  pub handed : (form : HandedForm) → handed_text form a d ≡ handed_text form b d
  pub reported : (dest : Destination) → report_line dest a d ≡ report_line dest b d

-- for any two plans, whatever else differs
abbrev pub SameTextLaw : Type 0
SameTextLaw =
    (plan other : Plan) (size limit other_size other_limit : ℕ)
    (kinds other_kinds : List ReaderKind) (events other_events : List RunEvent)
    → (d : ℕ) → d < plan.destinations → d < other.destinations
    → AgreesAt relay_reading d (run_of plan size limit kinds events)
    (run_of other other_size other_limit other_kinds other_events)
    → HasSameText d (run_of plan size limit kinds events)
    (run_of other other_size other_limit other_kinds other_events)
