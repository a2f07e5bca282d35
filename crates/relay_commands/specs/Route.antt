-- What `relayd check` and `relayd route` write.
use Rattle.std.specs.Prelude.{ℕ, pos, List, [], ◌++◌, length, flat_map, codes, decimal, slice_get, Option, Some, None, Result, Ok, Err, if◌then◌else◌}
use Rattle.line_text.specs.Datapoint.{Datapoint}
use Rattle.line_text.specs.Name.{is_name}
use Rattle.conf_text.specs.Destination.{Destination, destination_text}
use Rattle.relay_base.specs.declared.dest_id.DestId.{DestId}
use Rattle.router.specs.Plan.{Sent, sent_by}
use Rattle.relay_files.specs.declared.fault.RelayFault.{RelayFault}
use Rattle.relay_files.specs.declared.fault.RelayFault.TheVariants.{BadName}
use Rattle.relay_files.specs.Files.{Files}
use Rattle.relay_files.specs.Configuration.{◌>>=◌, Configuration, configuration_of}

-- ---- `check`

-- `ok n destinations`
abbrev pub ok_line : ℕ → List ℕ
ok_line count = codes "ok " ++ decimal count ++ codes " destinations\n"

abbrev pub check_text : Configuration → List ℕ
check_text c = ok_line (length c.settings.routing.destinations)

-- what `check` writes for files, or their fault
abbrev pub check_answer : Files → Result (List ℕ) RelayFault
check_answer files = configuration_of files >>= λ c. Ok (check_text c)

-- ---- `route`

-- a destination after a space
abbrev pub destination_word : Option Destination → List ℕ
destination_word None = []
destination_word (Some d) = codes " " ++ destination_text d

-- destinations by their indices in DESTINATIONS
abbrev pub destination_words : List Destination → List DestId → List ℕ
destination_words dests ids = flat_map (λ id. destination_word (slice_get dests id.0)) ids

-- the rewritten name and its destinations, or `dropped`
abbrev pub sent_words : List Destination → Option Datapoint → List DestId → List ℕ
sent_words dests None ids = codes "dropped"
sent_words dests (Some point) ids = point.name ++ destination_words dests ids

abbrev pub sent_line : List Destination → Sent → List ℕ
sent_line dests sent = sent_words dests sent.point sent.dests ++ codes "\n"

-- a datapoint with a name; what becomes of it does not depend on the rest
abbrev pub point_named : List ℕ → Datapoint
point_named name = record { name = name; value = pos 0; time = 0 }

abbrev pub route_text : Configuration → List ℕ → List ℕ
route_text c name = sent_line c.settings.routing.destinations (sent_by c.plan (point_named name))

-- what `route` writes for files and a name, or their fault
abbrev pub route_answer : Files → List ℕ → Result (List ℕ) RelayFault
route_answer files name =
    configuration_of files >>= λ c. if is_name name then Ok (route_text c name) else Err BadName
