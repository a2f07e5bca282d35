-- Destinations and their text.
use Rattle.std.specs.Prelude.{◌≡◌, ℕ, ◌≤◌, Bool, true, ◌&&◌, ◌||◌, ◌==◌, List, [], ◌∷◌, ◌++◌, length, map, Option, Some, None, option_map, option_and_then, nat_le, if◌then◌else◌}
use Rattle.std.specs.Char.{is_ascii_alphanumeric}
use Rattle.std.specs.Fmt.{decimal}
use Rattle.std.specs.List.{list_all, slice_split}
use Rattle.relay_base.specs.Ascii.{comma, minus_sign, full_stop, colon, underscore}
use Rattle.relay_base.specs.WholeNumber.{short_whole_number}
use Rattle.relay_base.specs.White.{strip}

-- a place that datapoints are sent to: a host, a port, and an instance if one is named
pub record Destination : Type 0 where
  pub host : List ℕ
  pub port : ℕ
  pub instance : Option (List ℕ)

-- an ASCII letter, a digit, `.`, `-` or `_`
abbrev pub is_label_byte : ℕ → Bool
is_label_byte b = is_ascii_alphanumeric b || b == full_stop || b == minus_sign || b == underscore

-- a host or an instance: 1 to 255 of those
abbrev pub is_label : List ℕ → Bool
is_label text =
    nat_le 1 (length text) && nat_le (length text) 255 && list_all is_label_byte text

-- an instance need not be there
abbrev pub is_instance : Option (List ℕ) → Bool
is_instance None = true
is_instance (Some text) = is_label text

-- a port: 1 to 65,535 in one to five digits
abbrev pub port_of : List ℕ → Option ℕ
port_of text = option_and_then
    (λ n. if nat_le 1 n && nat_le n 65535 then Some n else None)
    (short_whole_number 5 text)

-- the destination of these parts
abbrev pub destination : List ℕ → List ℕ → Option (List ℕ) → Option Destination
destination host port instance =
    if is_label host && is_instance instance
    then option_map (λ n. record { host = host; port = n; instance = instance }) (port_of port)
    else None

-- `host:port` or `host:port:instance`
abbrev pub destination_of_parts : List (List ℕ) → Option Destination
destination_of_parts [] = None
destination_of_parts (host ∷ []) = None
destination_of_parts (host ∷ port ∷ []) = destination host port None
destination_of_parts (host ∷ port ∷ instance ∷ []) = destination host port (Some instance)
destination_of_parts (host ∷ port ∷ instance ∷ more ∷ others) = None

-- the destination that a text writes
unfoldable pub destination_of : List ℕ → Option Destination
destination_of text = destination_of_parts (slice_split (λ b. b == colon) text)

-- the values, if each is there
abbrev pub all_some : {A : Type 0} → List (Option A) → Option (List A)
all_some [] = Some []
all_some (None ∷ os) = None
all_some (Some x ∷ os) = option_map (λ xs. x ∷ xs) (all_some os)

-- the destinations of a list: its items are separated by commas, without white space at their ends
abbrev pub destinations_of : List ℕ → Option (List Destination)
destinations_of text =
    all_some (map (λ item. destination_of (strip item)) (slice_split (λ b. b == comma) text))

-- a destination's parts are in range
pub record IsDestination (d : Destination) : Type 0 where
  pub host : is_label d.host ≡ true
  pub least_port : 1 ≤ d.port
  pub greatest_port : d.port ≤ 65535
  pub instance : is_instance d.instance ≡ true

-- an instance as it is after the port
abbrev pub instance_text : Option (List ℕ) → List ℕ
instance_text None = []
instance_text (Some text) = colon ∷ text

-- how a destination is printed: `host:port` or `host:port:instance`, the port in decimal
abbrev pub destination_text : Destination → List ℕ
destination_text d = d.host ++ (colon ∷ (decimal d.port ++ instance_text d.instance))
