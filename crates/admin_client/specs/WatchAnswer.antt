-- What a relay answers to `watch`.
use Rattle.std.specs.Prelude.{ℕ, List, codes, Option, None, Some, if◌then◌else◌}
use Rattle.std.specs.Str.{bytes_eq}
use Rattle.admin_client.specs.ReloadAnswer.{behind}

pub data WatchEnd : Type 0 where
  -- a watch is open: its number, and a newline
  Opened : List ℕ → WatchEnd
  -- what it has gathered: a line of counts, and then its lines
  Gathered : List ℕ → WatchEnd
  -- none is opened: why, and a newline
  Refused : List ℕ → WatchEnd
  -- there is no watch of that number
  Over : WatchEnd

-- a refusal, if there are the words of one
abbrev pub refused_by : Option (List ℕ) → Option WatchEnd
refused_by None = None
refused_by (Some why) = Some (Refused why)

-- what was gathered, if there are the words of that, or else another answer
abbrev pub gathered_or : Option (List ℕ) → Option WatchEnd → Option WatchEnd
gathered_or (Some rest) other = Some (Gathered rest)
gathered_or None other = other

-- a watch that is open, if there are the words of one, or else another answer
abbrev pub opened_or : Option (List ℕ) → Option WatchEnd → Option WatchEnd
opened_or (Some rest) other = Some (Opened rest)
opened_or None other = other

-- what an answer says of what was gathered, or why no watch is opened, if it does
abbrev pub gathered_in : List ℕ → Option WatchEnd
gathered_in answer =
    gathered_or (behind (codes "watched ") answer) (refused_by (behind (codes "refused ") answer))

-- what an answer says, if it is one
abbrev pub watch_end : List ℕ → Option WatchEnd
watch_end answer =
    if bytes_eq answer (codes "over\n") then Some Over
    else opened_or (behind (codes "watching ") answer) (gathered_in answer)
