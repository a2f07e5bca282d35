-- The name of a metric.
use Rattle.std.specs.Prelude.{ℕ, Bool, not, ◌&&◌, List, length, nat_lt, nat_le, ◌==◌}
use Rattle.std.specs.List.{list_all}
use Rattle.std.specs.Str.{is_utf8}
use Rattle.relay_base.specs.Ascii.{space, delete}

-- the longest name, in bytes
abbrev pub longest_name : ℕ
longest_name = 16384

-- above a space, and not the control byte 127
abbrev pub is_name_byte : ℕ → Bool
is_name_byte b = nat_lt space b && not (b == delete)

-- 1 to 16,384 bytes, without white space and control bytes
abbrev pub has_name_bytes : List ℕ → Bool
has_name_bytes text =
    nat_le 1 (length text) && nat_le (length text) longest_name && list_all is_name_byte text

-- such bytes that are UTF-8
abbrev pub is_name : List ℕ → Bool
is_name text = has_name_bytes text && is_utf8 text
