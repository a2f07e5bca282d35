-- The bytes of a name, wherever they are stored.
use Rattle.std.specs.Prelude.{ℕ, List}
use Rattle.std.specs.String.{string_bytes}
use Rattle.line_text.specs.declared.name_bytes.NameBytes.{NameBytes}
use Rattle.line_text.specs.declared.name_bytes.NameBytes.TheVariants as held

abbrev pub bytes_of : NameBytes → List ℕ
bytes_of (held.Short short) = short.bytes
bytes_of (held.Long long) = string_bytes long
