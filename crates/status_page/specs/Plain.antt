-- Texts that need no escape, in JSON, in the labels of metrics and in HTML.
use Rattle.std.specs.Prelude.{ℕ, Bool, ◌||◌, ◌==◌, List, codes, if◌then◌else◌}
use Rattle.std.specs.Char.{is_ascii_alphanumeric, is_ascii_hexdigit}
use Rattle.std.specs.List.{list_all}

-- an ASCII letter, a digit, `.`, `-`, `_` or a space, as in `line 0`, which needs no escape in any of these texts
abbrev pub is_plain_byte : ℕ → Bool
is_plain_byte b = is_ascii_alphanumeric b || b == 46 || b == 45 || b == 95 || b == 32

-- a name of those bytes alone, and `unknown` in place of any other
unfoldable pub plain_text : List ℕ → List ℕ
plain_text name = if list_all is_plain_byte name then name else codes "unknown"

-- a hexadecimal digit, a colon or a dot, as in an IP address
abbrev pub is_address_byte : ℕ → Bool
is_address_byte b = is_ascii_hexdigit b || b == 58 || b == 46

-- an address of those bytes alone, and `unknown` in place of any other
unfoldable pub plain_address : List ℕ → List ℕ
plain_address address = if list_all is_address_byte address then address else codes "unknown"
