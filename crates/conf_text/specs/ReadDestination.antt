-- A destination's parts as the code holds them.
use Rattle.std.specs.Prelude.{option_copied}
use Rattle.conf_text.specs.declared.dest.Parts.{Parts}
use Rattle.conf_text.specs.Destination.{Destination}

-- the parts apart from where they are in the text
abbrev pub parts_view : Parts → Destination
parts_view p = record { host = p.host.now; port = p.port; instance = option_copied p.instance }
