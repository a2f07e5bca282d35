-- What the bytes of an admin connection ask for.
use Rattle.std.specs.Prelude.{ℕ, ◌==◌, Bool, List, Option, None, Some, take, length, nat_le, codes, if◌then◌else◌}
use Rattle.std.specs.List.{position}
use Rattle.std.specs.Str.{bytes_eq}
use Rattle.std.specs.Io.BufRead.{strip_last}
use Rattle.relay_base.specs.Ascii.{newline, carriage_return}
use Rattle.admin_client.specs.ReloadAnswer.{behind}
use Rattle.admin_client.specs.declared.admin_command.AdminCommand.{AdminCommand}
use Rattle.admin_client.specs.declared.admin_command.AdminCommand.TheVariants.{Report, Stop, Reload, Files, Route, Watch}

-- a newline ends the first line
abbrev pub is_newline : ℕ → Bool
is_newline b = b == newline

-- the bytes up to a place, or all if there is none
abbrev pub up_to : Option ℕ → List ℕ → List ℕ
up_to None sent = sent
up_to (Some place) sent = take place sent

-- the bytes up to the first newline, or all if there is none
abbrev pub first_line : List ℕ → List ℕ
first_line sent = up_to (position is_newline sent) sent

-- the text of a command: the first line without one carriage return at its end
abbrev pub command_text : List ℕ → List ℕ
command_text sent = strip_last carriage_return (first_line sent)

-- a name, if it is not too long to be asked for
abbrev pub short_enough : Option (List ℕ) → Option (List ℕ)
short_enough None = None
short_enough (Some name) = if nat_le (length name) 4096 then Some name else None

-- the name in a text that asks where it goes, if it does
abbrev pub routed_by : List ℕ → Option (List ℕ)
routed_by text = short_enough (behind (codes "route ") text)

-- what a text asks of a watch, if it does
abbrev pub watched_by : List ℕ → Option (List ℕ)
watched_by text = short_enough (behind (codes "watch ") text)

-- to ask where a name goes is a command, and so is to ask something of a watch
abbrev pub asking_of : (name asked : Option (List ℕ)) → Option AdminCommand
asking_of (Some name) asked = Some Route
asking_of None (Some asked) = Some Watch
asking_of None None = None

-- the command of a text, if it is one
abbrev pub command_of : List ℕ → Option AdminCommand
command_of text =
    if bytes_eq text (codes "report") then Some Report
    else (if bytes_eq text (codes "stop") then Some Stop
    else (if bytes_eq text (codes "reload") then Some Reload
    else (if bytes_eq text (codes "files") then Some Files
    else asking_of (routed_by text) (watched_by text))))

-- the command that was sent, if it is one
abbrev pub command_in : List ℕ → Option AdminCommand
command_in sent = command_of (command_text sent)

-- the name of which was asked where it goes, if that was sent
abbrev pub routed_name : List ℕ → Option (List ℕ)
routed_name sent = routed_by (command_text sent)

-- what was asked of a watch, if that was sent
abbrev pub asked_of_watch : List ℕ → Option (List ℕ)
asked_of_watch sent = watched_by (command_text sent)
