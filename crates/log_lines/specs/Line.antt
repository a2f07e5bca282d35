-- The lines of the log.
use Rattle.std.specs.Prelude.{ℕ, List, Some, None, ◌++◌, codes, decimal}
use Rattle.std.specs.Net.Text.{socket_text}
use Rattle.conf_text.specs.Destination.{Destination, destination_text}
use Rattle.log_lines.specs.Why.{why_text}
use Rattle.log_lines.specs.declared.logged_dest.DestEvent.{DestEvent}
use Rattle.log_lines.specs.declared.logged_dest.DestEvent.TheVariants as event
use Rattle.log_lines.specs.declared.receiver_notes.ReceiverState.{ReceiverState}
use Rattle.log_lines.specs.declared.receiver_notes.ReceiverState.TheVariants as state

abbrev pub dest_words : DestEvent → List ℕ
dest_words event.Connected = codes "connected"
dest_words (event.ConnectedAgain why) = codes "connected again, was lost: " ++ why_text why
dest_words (event.Lost why) = codes "lost: " ++ why_text why
dest_words (event.CannotConnect why None) = codes "cannot connect: " ++ why_text why
dest_words (event.CannotConnect why (Some to)) =
    codes "cannot connect to " ++ (socket_text to ++ (codes ": " ++ why_text why))
dest_words event.BeginsToDrop = codes "queue full, dropping"
dest_words (event.DropsNoMore dropped) = codes "stopped dropping, dropped " ++ decimal dropped

-- the line for an event of a destination
abbrev pub dest_line : Destination → DestEvent → List ℕ
dest_line dest event =
    codes "destination " ++ destination_text dest ++ codes " " ++ dest_words event ++ codes "\n"

abbrev pub receiver_words : ReceiverState → List ℕ
receiver_words state.Open = codes "accepting again"
receiver_words (state.Paused why) = codes "paused: " ++ why_text why
receiver_words (state.Failed why) = codes "failed: " ++ why_text why

-- the line for the state of a receiver of a name
abbrev pub receiver_line : List ℕ → ReceiverState → List ℕ
receiver_line name state =
    codes "receiver " ++ name ++ codes " " ++ receiver_words state ++ codes "\n"
