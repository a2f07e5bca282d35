-- What of a pickle is not read.
use Rattle.std.specs.Prelude.{◌≡◌, ◌<◌, None}
use Rattle.pickle_subset.specs.Opcode.{opcode_of}
use Rattle.pickle_subset.specs.declared.unread.Unread.{Unread}
use Rattle.pickle_subset.specs.declared.unread.Unread.TheVariants as unread

-- a protocol above 5, or a byte that is no opcode of the table
abbrev pub IsUnread : Unread → Type 0
IsUnread (unread.Protocol protocol) = 5 < protocol
IsUnread (unread.Opcode byte protocol) = opcode_of byte ≡ None
