-- The line of the log on a reload.
use Rattle.std.specs.Prelude.{ℕ, Bool, true, false, List, [], ◌++◌, codes, flat_map, if◌then◌else◌}
use Rattle.conf_text.specs.Destination.{Destination, destination_text}
use Rattle.config_changes.specs.Kept.{lacked_by}
use Rattle.config_changes.specs.declared.ports.ChangedPorts.{ChangedPorts}
use Rattle.config_changes.specs.declared.reload_line.OtherChanges.{OtherChanges}

abbrev pub dest_name : Destination → List ℕ
dest_name dest = codes " destination " ++ destination_text dest

-- a destination, with these words
abbrev pub dest_words : List ℕ → Destination → List ℕ
dest_words words dest = dest_name dest ++ words ++ codes ","

-- the destinations that the other list does not have
abbrev pub listed : (other : List Destination) → List ℕ → List Destination → List ℕ
listed other words dests = flat_map (dest_words words) (lacked_by other dests)

abbrev pub words_if : Bool → List ℕ → List ℕ
words_if is_so words = if is_so then words else []

-- the ports of receivers that changed
abbrev pub port_words : ChangedPorts → List ℕ
port_words ports =
    words_if ports.lines (codes " line port changed,")
    ++ words_if ports.pickles (codes " pickle port changed,")
    ++ words_if ports.datagrams (codes " udp port changed,")

abbrev pub words_of : (rules rewriting : Bool) → List ℕ
words_of true true = codes " rules and rewriting changed\n"
words_of true false = codes " rules changed\n"
words_of false true = codes " rewriting changed\n"
words_of false false = codes " same rules and rewriting\n"

abbrev pub other_words : OtherChanges → List ℕ
other_words others = words_of others.rules others.rewriting

-- what came, what is gone, which ports changed, and what else did
abbrev pub reload_line : (old new : List Destination) → OtherChanges → List ℕ
reload_line old new others =
    codes "relay reloaded:" ++ listed old (codes " added") new
    ++ listed new (codes " gone") old ++ port_words others.ports ++ other_words others
