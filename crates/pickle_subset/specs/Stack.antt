-- What instructions do to the stack, the memo and the list of rows.
use Rattle.std.specs.Prelude.{ℕ, Bool, true, false, List, [], ◌∷◌, ◌++◌, Option, Some, None, Result, Ok, Err, ok_or, option_map, if◌then◌else◌}
use Rattle.std.specs.Ordering.{nat_cmp}
use Rattle.std.specs.FinMap.{FinMap, empty, get, insert, len}
use Rattle.pickle_subset.specs.declared.fault.PickleFault.{PickleFault}
use Rattle.pickle_subset.specs.declared.fault.PickleFault.TheVariants.{BadShape, BadMemo}
use Rattle.pickle_subset.specs.Instruction.{◌>>=◌}
use Rattle.pickle_subset.specs.Value.{Text, Row, Item, Marked, Rows, One, Two, Three}
use Rattle.pickle_subset.specs.Table.{Action, Pass, PushMark, PushRows, Push, JoinTwo, JoinMarked, AppendOne, AppendMarked, Store, StoreNext, Fetch}

-- the stack, the top first; what is stored under each number; and the rows of the list
pub record State : Type 0 where
  pub stack : List Item
  pub memo : FinMap nat_cmp Item
  pub rows : List Row

abbrev pub opening : State
opening = record { stack = []; memo = empty; rows = [] }

abbrev pub push : Item → State → Result State PickleFault
push item s = Ok (record s { stack = item ∷ s.stack })

-- ---- the list

-- no opcode removes the list, so the stack is empty only if no list was made before
abbrev pub push_rows : List Item → State → Result State PickleFault
push_rows [] s = Ok (record s { stack = Rows ∷ [] })
push_rows (item ∷ below) s = Err BadShape

-- the rows go to the end of the list, which is on top of the stack that is left
abbrev pub append_rows : List Row → List Item → State → Result State PickleFault
append_rows rows (Rows ∷ below) s = Ok (record s { stack = Rows ∷ below; rows = s.rows ++ rows })
append_rows rows others s = Err BadShape

abbrev pub append_one : List Item → State → Result State PickleFault
append_one (Three row ∷ below) s = append_rows (row ∷ []) below s
append_one others s = Err BadShape

-- with a row behind those that were found
abbrev pub with_row : Row → List Row × List Item → List Row × List Item
with_row row found = (found.0 ++ row ∷ [], found.1)

-- the rows above the topmost mark, in the order in which they were pushed, and what is below it; none if
-- anything other than rows is above it
abbrev pub rows_above : List Item → Option (List Row × List Item)
rows_above [] = None
rows_above (Marked ∷ below) = Some ([], below)
rows_above (Rows ∷ below) = None
rows_above (One scalar ∷ below) = None
rows_above (Two pair ∷ below) = None
rows_above (Three row ∷ below) = option_map (with_row row) (rows_above below)

abbrev pub append_marked : State → Result State PickleFault
append_marked s = do
  found ← ok_or (rows_above s.stack) BadShape
  append_rows found.0 found.1 s

-- ---- tuples

-- two scalars are a time and a value, and a text with such a pair is a row
abbrev pub tuple : Item → Item → Option Item
tuple (One time) (One value) = Some (Two (record { time = time; value = value }))
tuple (One (Text path)) (Two pair) =
    Some (Three (record { path = path; time = pair.time; value = pair.value }))
tuple first second = None

abbrev pub push_tuple : Item → Item → List Item → State → Result State PickleFault
push_tuple first second below s = do
  item ← ok_or (tuple first second) BadShape
  Ok (record s { stack = item ∷ below })

abbrev pub join_two : List Item → State → Result State PickleFault
join_two (second ∷ first ∷ below) s = push_tuple first second below s
join_two others s = Err BadShape

-- a mark is not part of a tuple, so exactly two are above the topmost mark
abbrev pub join_marked : List Item → State → Result State PickleFault
join_marked (second ∷ first ∷ Marked ∷ below) s = push_tuple first second below s
join_marked others s = Err BadShape

-- ---- the memo

-- the top, if there is one that is not a mark
abbrev pub storable_item : List Item → Option Item
storable_item [] = None
storable_item (Marked ∷ below) = None
storable_item (item ∷ below) = Some item

abbrev pub store : ℕ → State → Result State PickleFault
store number s = do
  item ← ok_or (storable_item s.stack) BadMemo
  Ok (record s { memo = insert s.memo number item })

abbrev pub is_list : Item → Bool
is_list Rows = true
is_list other = false

abbrev pub push_stored : Item → State → Result State PickleFault
push_stored item s = if is_list item then Err BadShape else push item s

abbrev pub fetch : ℕ → State → Result State PickleFault
fetch number s = do
  item ← ok_or (get s.memo number) BadMemo
  push_stored item s

-- ---- each action

abbrev pub act : Action → State → Result State PickleFault
act Pass s = Ok s
act PushMark s = push Marked s
act PushRows s = push_rows s.stack s
act (Push scalar) s = push (One scalar) s
act JoinTwo s = join_two s.stack s
act JoinMarked s = join_marked s.stack s
act AppendOne s = append_one s.stack s
act AppendMarked s = append_marked s
act (Store number) s = store number s
act StoreNext s = store (len s.memo) s
act (Fetch number) s = fetch number s

-- at STOP only the list is on the stack
abbrev pub finish : List Item → List Row → Result (List Row) PickleFault
finish (Rows ∷ []) rows = Ok rows
finish others rows = Err BadShape
