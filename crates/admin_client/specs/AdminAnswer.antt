-- What a relay answers to a command.
use Rattle.std.specs.Prelude.{ℕ, ◌≡◌, Bool, true, List, Some, codes, nat_eq}
use Rattle.std.specs.List.{ends_with}
use Rattle.std.specs.Str.{bytes_eq}
use Rattle.admin_client.specs.declared.admin_command.AdminCommand.{AdminCommand}
use Rattle.admin_client.specs.declared.admin_command.AdminCommand.TheVariants.{Report, Stop, Reload, Files, Route, Watch}
use Rattle.admin_client.specs.ReloadAnswer.{ReloadEnd, reload_end}
use Rattle.admin_client.specs.FilesAnswer.{FileNames, files_in}
use Rattle.admin_client.specs.RouteAnswer.{RouteEnd, route_end}
use Rattle.admin_client.specs.WatchAnswer.{WatchEnd, watch_end}

-- the answer to `stop`
abbrev pub is_stopping : List ℕ → Bool
is_stopping answer = bytes_eq answer (codes "stopping\n")

-- the last line of an answer has its end
abbrev pub is_whole : List ℕ → Bool
is_whole answer = ends_with nat_eq answer (codes "\n")

-- an answer to a command; of the lines of that to `report` this says nothing
abbrev pub IsAnswerTo : AdminCommand → List ℕ → Type 0
IsAnswerTo Stop answer = is_stopping answer ≡ true
IsAnswerTo Report answer = Unit {0}
IsAnswerTo Reload answer = (end : ReloadEnd) × (reload_end answer ≡ Some end)
IsAnswerTo Files answer = (files : FileNames) × (files_in answer ≡ Some files)
IsAnswerTo Route answer = (end : RouteEnd) × (route_end answer ≡ Some end)
IsAnswerTo Watch answer = (end : WatchEnd) × (watch_end answer ≡ Some end)
