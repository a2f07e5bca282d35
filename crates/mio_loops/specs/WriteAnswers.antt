-- How the drives of a turn were answered.
use Rattle.std.specs.Prelude.{Bool, true, false, Option, None, Some}
use Rattle.dest_writer.specs.declared.driven.Driven.{Driven}
use Rattle.dest_writer.specs.declared.driven.Driven.TheVariants.{Idle, Blocked, Again, Failed}

abbrev pub is_blocked : Option Driven → Bool
is_blocked None = false
is_blocked (Some Blocked) = true
is_blocked (Some Idle) = false
is_blocked (Some Again) = false
is_blocked (Some Failed) = false

abbrev pub is_again : Option Driven → Bool
is_again None = false
is_again (Some Again) = true
is_again (Some Idle) = false
is_again (Some Blocked) = false
is_again (Some Failed) = false

abbrev pub has_failed : Option Driven → Bool
has_failed None = false
has_failed (Some Failed) = true
has_failed (Some Idle) = false
has_failed (Some Blocked) = false
has_failed (Some Again) = false
