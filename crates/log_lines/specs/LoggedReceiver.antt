-- What the log reports of a receiver.
use Rattle.std.specs.Prelude.{◌≡◌, Option, None, Some}
use Rattle.log_lines.specs.declared.receiver_notes.ReceiverState.{ReceiverState}

-- its state, if another state was reported
abbrev pub IsReceiverEvent : (logged now : ReceiverState) → Option ReceiverState → Type 0
IsReceiverEvent logged now None = now ≡ logged
IsReceiverEvent logged now (Some state) = (state ≡ now) × ¬ (now ≡ logged)
