-- The lines of the log on ends.
use Rattle.std.specs.Prelude.{ℕ, List, ◌++◌, codes, decimal}
use Rattle.conf_text.specs.Destination.{Destination, destination_text}
use Rattle.log_lines.specs.declared.end_lines.DestEnd.{DestEnd}
use Rattle.log_lines.specs.declared.end_lines.DestEnd.TheVariants as end
use Rattle.log_lines.specs.declared.end_lines.RelayEnd.{RelayEnd}
use Rattle.log_lines.specs.declared.end_lines.RelayEnd.TheVariants as relay

abbrev pub dest_end_words : DestEnd → List ℕ
dest_end_words end.FileSent = codes "spool sent"
dest_end_words end.SpoolBegins = codes "spool begins"
dest_end_words end.SpoolFull = codes "spool full"
dest_end_words end.SpoolGoesOn = codes "spool goes on"
dest_end_words end.TakesNothing = codes "not waited for: takes nothing"
dest_end_words end.TooSlow = codes "not waited for: too slow"
dest_end_words end.NoRoom = codes "spool: no room"
dest_end_words end.CannotWrite = codes "spool: cannot write"
dest_end_words (end.Spooled datapoints) =
    codes "stopped, " ++ decimal datapoints ++ codes " datapoints spooled"
dest_end_words (end.Unsent datapoints) =
    codes "stopped, " ++ decimal datapoints ++ codes " datapoints not sent"
dest_end_words (end.GoneSpooled datapoints) =
    codes "gone, " ++ decimal datapoints ++ codes " datapoints spooled"
dest_end_words (end.GoneUnsent datapoints) =
    codes "gone, " ++ decimal datapoints ++ codes " datapoints not sent"

-- the line on the end of what a destination is sent
abbrev pub dest_end_line : Destination → DestEnd → List ℕ
dest_end_line dest end =
    codes "destination " ++ destination_text dest ++ codes " " ++ dest_end_words end ++ codes "\n"

-- the last line, or the last but one
abbrev pub relay_end_line : RelayEnd → List ℕ
relay_end_line (relay.Spooled datapoints) =
    codes "relay stopped, " ++ decimal datapoints ++ codes " datapoints spooled\n"
relay_end_line (relay.Unsent datapoints) =
    codes "relay stopped, " ++ decimal datapoints ++ codes " datapoints not sent\n"
relay_end_line (relay.SpoolFilled percent bytes) =
    codes "relay spool " ++ decimal percent ++ codes " % full, " ++ decimal bytes ++ codes " bytes\n"

-- the line on a receiver that ended out of memory
abbrev pub lost_receiver_line : List ℕ → List ℕ
lost_receiver_line name = codes "receiver " ++ name ++ codes " ended: out of memory\n"

-- the line on such a sender
abbrev pub lost_sender_line : ℕ → List ℕ
lost_sender_line number = codes "sender " ++ decimal number ++ codes " ended: out of memory\n"
