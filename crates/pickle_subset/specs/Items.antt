-- What the values of a pickle are, apart from where they are in memory.
use Rattle.std.specs.Prelude.{List, map, reverse, Option, Some, None}
use Rattle.std.specs.Rc.{rc_value}
use Rattle.std.specs.Ordering.{nat_cmp}
use Rattle.std.specs.FinMap.{FinMap}
use Rattle.numbered_memo.specs.Memo as memos
use Rattle.pickle_subset.specs.declared.value.Scalar.{Scalar}
use Rattle.pickle_subset.specs.declared.value.Scalar.TheVariants as scalars
use Rattle.pickle_subset.specs.declared.value.Pair.{Pair}
use Rattle.pickle_subset.specs.declared.value.Row.{Row}
use Rattle.pickle_subset.specs.declared.value.Item.{Item}
use Rattle.pickle_subset.specs.declared.value.Item.TheVariants.{Mark, Rows, Text, One, Two, Three, PathOf, PairOf}
use Rattle.pickle_subset.specs.declared.value.BareScalar.{BareScalar}
use Rattle.pickle_subset.specs.declared.value.BareScalar.TheVariants as bares
use Rattle.pickle_subset.specs.Value as values

abbrev pub scalar : Scalar → values.Scalar
scalar (scalars.Text text) = values.Text text.now
scalar (scalars.Whole number) = values.Whole number
scalar (scalars.Binary bits) = values.Binary bits
scalar scalars.Other = values.Other

abbrev pub bare : BareScalar → values.Scalar
bare (bares.Whole number) = values.Whole number
bare (bares.Binary bits) = values.Binary bits
bare bares.Other = values.Other

abbrev pub pair : Pair → values.Pair
pair p = record { time = scalar p.time; value = scalar p.value }

abbrev pub row : Row → values.Row
row r = record { path = r.path.now; time = scalar r.time; value = scalar r.value }

-- its time and its value
abbrev pub row_pair : Row → values.Pair
row_pair r = record { time = scalar r.time; value = scalar r.value }

abbrev pub rows : List Row → List values.Row
rows rs = map row rs

abbrev pub item : Item → values.Item
item Mark = values.Marked
item Rows = values.Rows
item (Text p) = values.One (values.Text (rc_value p).text.now)
item (One b) = values.One (bare b)
item (Two p) = values.Two (pair p.now)
item (Three r) = values.Three (row (rc_value r))
item (PathOf r) = values.One (values.Text (rc_value r).path.now)
item (PairOf r) = values.Two (row_pair (rc_value r))

-- the scalar that an item is
abbrev pub scalar_in : values.Item → Option values.Scalar
scalar_in (values.One s) = Some s
scalar_in values.Marked = None
scalar_in values.Rows = None
scalar_in (values.Two p) = None
scalar_in (values.Three r) = None

-- the pair that an item is
abbrev pub pair_of : values.Item → Option values.Pair
pair_of (values.Two p) = Some p
pair_of values.Marked = None
pair_of values.Rows = None
pair_of (values.One s) = None
pair_of (values.Three r) = None

-- the top first
abbrev pub stack : List Item → List values.Item
stack items = reverse (map item items)

-- what is stored under each number
abbrev pub memo : memos.Stored Item → FinMap nat_cmp values.Item
memo stored = memos.memo item stored
