-- What the bytes of an admin connection ask for, at a port with a key.
use Rattle.std.specs.Prelude.{ℕ, ◌+◌, ◌++◌, List, [], Option, None, Some, drop, codes, if◌then◌else◌}
use Rattle.std.specs.List.{position}
use Rattle.std.specs.Str.{bytes_eq}
use Rattle.admin_client.specs.AdminCommand.{is_newline, command_text, command_in}
use Rattle.admin_client.specs.ReloadAnswer.{behind}
use Rattle.admin_client.specs.declared.admin_command.AdminCommand.{AdminCommand}
use Rattle.admin_client.specs.declared.admin_command.AdminCommand.TheVariants as command
use Rattle.admin_client.specs.declared.admin_key.Asked.{Asked}
use Rattle.admin_client.specs.declared.admin_key.Asked.TheVariants.{Command, Unknown, WithoutKey}

-- what follows a place, or nothing if there is none
abbrev pub after : Option ℕ → List ℕ → List ℕ
after None sent = []
after (Some place) sent = drop (place + 1) sent

-- what follows the first line
abbrev pub after_line : List ℕ → List ℕ
after_line sent = after (position is_newline sent) sent

-- the key in the first line, if there is one
abbrev pub key_given : List ℕ → Option (List ℕ)
key_given sent = behind (codes "key ") (command_text sent)

-- what has the command: what follows the line of a key, if there is one
abbrev pub part_with : Option (List ℕ) → List ℕ → List ℕ
part_with None sent = sent
part_with (Some key) sent = after_line sent

abbrev pub behind_key : List ℕ → List ℕ
behind_key sent = part_with (key_given sent) sent

-- what a command asks for, if it is one
abbrev pub asked_of : Option AdminCommand → Asked
asked_of None = Unknown
asked_of (Some command) = Command command

-- a command without the key that it needs, if it is one
abbrev pub without_key : Option AdminCommand → Asked
without_key None = Unknown
without_key (Some command) = WithoutKey

-- what is asked for at a port with this key, by a connection that gives one, or none
abbrev pub keyed : List ℕ → Option (List ℕ) → List ℕ → Asked
keyed key (Some given) sent =
    if bytes_eq given key then asked_of (command_in (after_line sent)) else WithoutKey
keyed key None sent = without_key (command_in sent)

-- what is asked for at a port with a key, or without one
abbrev pub asked_in : Option (List ℕ) → List ℕ → Asked
asked_in None sent = asked_of (command_in sent)
asked_in (Some key) sent = keyed key (key_given sent) sent

-- the words of a command, behind which the name comes that it asks for, if it does
abbrev pub words_of : AdminCommand → List ℕ
words_of command.Report = codes "report"
words_of command.Stop = codes "stop"
words_of command.Reload = codes "reload"
words_of command.Files = codes "files"
words_of command.Route = codes "route "
words_of command.Watch = codes "watch "

-- the line of a key, if there is one
abbrev pub key_line : Option (List ℕ) → List ℕ
key_line None = []
key_line (Some key) = codes "key " ++ key ++ codes "\n"

-- what a client sends
abbrev pub request_of : Option (List ℕ) → AdminCommand → (name : List ℕ) → List ℕ
request_of key command name = key_line key ++ words_of command ++ name ++ codes "\n"
