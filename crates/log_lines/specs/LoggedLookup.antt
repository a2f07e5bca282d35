-- When the log reports that a host name is being looked up.
use Rattle.std.specs.Prelude.{Bool, true, false, Option, None, Some}
use Rattle.log_lines.specs.declared.logged_lookup.LookupEvent.{LookupEvent}
use Rattle.log_lines.specs.declared.logged_lookup.LookupEvent.TheVariants as event

-- what the log reports, by whether a look-up took long at the last look, and whether one takes long now
abbrev pub lookup_event : (before now : Bool) → Option LookupEvent
lookup_event false false = None
lookup_event false true = Some event.Hangs
lookup_event true false = Some event.Ended
lookup_event true true = None
