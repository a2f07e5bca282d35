-- Keys of the ring: the positions that they have and the keys of a node's replicas.
use Rattle.std.specs.Prelude.{ℕ, ◌+◌, ◌*◌, List, ◌++◌, Option, Some, None, codes, slice_index}
use Rattle.std.specs.Fmt.{decimal}
use Rattle.md5.specs.Md5.{md5}
use Rattle.conf_text.specs.Destination.{Destination}

-- the number that the first four hexadecimal digits of a digest write: its first two bytes, high byte first
abbrev pub first_digits : List ℕ → ℕ
first_digits digest = 256 * slice_index digest 0 + slice_index digest 1

-- the position of a key: the number of the first four hexadecimal digits of its MD5
abbrev pub position_of : List ℕ → ℕ
position_of key = first_digits (md5 key)

-- how a key names an instance: `'INSTANCE'`, or `None` if a node has none
abbrev pub instance_in_key : Option (List ℕ) → List ℕ
instance_in_key None = codes "None"
instance_in_key (Some instance) = codes "'" ++ instance ++ codes "'"

-- the key of replica i of a node: `('HOST', 'INSTANCE'):i` or `('HOST', None):i`, i in decimal
abbrev pub replica_key : Destination → ℕ → List ℕ
replica_key node i =
    codes "('" ++ node.host ++ codes "', " ++ instance_in_key node.instance
    ++ codes "):" ++ decimal i
