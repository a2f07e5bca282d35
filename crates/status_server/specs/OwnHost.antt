-- The hosts by which a request may name a server at the loopback interface.
use Rattle.std.specs.Prelude.{ℕ, ◌==◌, ◌||◌, ◌+◌, Bool, List, Option, None, Some, take, codes}
use Rattle.std.specs.List.{position}
use Rattle.std.specs.Str.{bytes_eq}

-- a colon begins the port
abbrev pub is_colon : ℕ → Bool
is_colon b = b == 58

-- a bracket ends an address of IPv6
abbrev pub is_bracket : ℕ → Bool
is_bracket b = b == 93

-- the bytes up to a place, or all if there is none
abbrev pub up_to : Option ℕ → List ℕ → List ℕ
up_to None host = host
up_to (Some place) host = take place host

-- the bytes up to a closing bracket and with it, or, if there is none, before the colon
abbrev pub past : Option ℕ → List ℕ → List ℕ
past None host = up_to (position is_colon host) host
past (Some place) host = take (place + 1) host

-- the host without its port
abbrev pub host_name : List ℕ → List ℕ
host_name host = past (position is_bracket host) host

-- the names of a machine for itself
abbrev pub is_local_name : List ℕ → Bool
is_local_name name = bytes_eq name (codes "localhost") || bytes_eq name (codes "127.0.0.1") || bytes_eq name (codes "[::1]")

-- one of those names, or the interface
abbrev pub is_own_host : (interface host : List ℕ) → Bool
is_own_host interface host = is_local_name (host_name host) || bytes_eq (host_name host) interface
