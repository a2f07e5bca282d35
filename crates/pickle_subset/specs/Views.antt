-- What the machine, its steps and what bytes begin with are in the code, apart from where they are in memory.
use Rattle.std.specs.Prelude.{◌≡◌, ◌+◌, ◌-◌, ◌≤◌, ◌⊎◌, length, take, drop, ◌++◌, ℕ, List, reverse, Option, Some, None, Result, Ok, Err, Bool, false, [], ◌∷◌}
use Rattle.relay_base.specs.Memory.{Gives}
use Rattle.pickle_subset.specs.declared.fault.PickleFault.{PickleFault}
use Rattle.pickle_subset.specs.declared.fault.PickleFault.TheVariants.{BadShape, NoMemory}
use Rattle.pickle_subset.specs.declared.table.Action.{Action}
use Rattle.pickle_subset.specs.declared.table.Action.TheVariants.{Pass, PushMark, PushRows, Push, JoinTwo, JoinMarked, AppendOne, AppendMarked, Store, StoreNext, Fetch}
use Rattle.pickle_subset.specs.declared.machine.Machine.{Machine}
use Rattle.pickle_subset.specs.declared.frame.Front.{Front}
use Rattle.pickle_subset.specs.declared.frame.Front.TheVariants.{Partial, TooLong, Whole as WholeFrame}
use Rattle.pickle_subset.specs.Value as values
use Rattle.pickle_subset.specs.Frame as frames
use Rattle.pickle_subset.specs.Stack as stacks
use Rattle.pickle_subset.specs.Table as table
pub use Rattle.pickle_subset.specs.Items.{scalar, bare, pair, row, rows, row_pair, item, scalar_in, pair_of, stack, memo}

abbrev pub action_view : Action → table.Action
action_view Pass = table.Pass
action_view PushMark = table.PushMark
action_view PushRows = table.PushRows
action_view (Push s) = table.Push (scalar s)
action_view JoinTwo = table.JoinTwo
action_view JoinMarked = table.JoinMarked
action_view AppendOne = table.AppendOne
action_view AppendMarked = table.AppendMarked
action_view (Store number) = table.Store number
action_view StoreNext = table.StoreNext
action_view (Fetch number) = table.Fetch number

abbrev pub machine : Machine → stacks.State
machine m = record {
  stack = stack m.stack.items;
  memo = memo m.memo;
  rows = rows m.rows.items;
}

-- the machine is what a step gives, or the fault is that of the step, unless memory ran out
abbrev pub Becomes : Result (Unit {0}) PickleFault → Machine → Result stacks.State PickleFault
    → Type 0
Becomes result new stepped = Gives NoMemory (λ _. machine new) result stepped

-- the rows above the topmost mark left the stack, and went to the end of others, the top first
abbrev pub PopsRows : List values.Item → List values.Item → List values.Row → List values.Row
    → Result (Unit {0}) PickleFault → Type 0
PopsRows old new before after (Ok done) =
    (found : List values.Row) × (stacks.rows_above old ≡ Some (found, new))
    × (after ≡ before ++ reverse found)
PopsRows old new before after (Err fault) =
    (fault ≡ NoMemory) ⊎ ((stacks.rows_above old ≡ None) × (fault ≡ BadShape))

-- a pair of two scalars
abbrev pub pair_or_fault : Option values.Scalar → Option values.Scalar → Result values.Item PickleFault
pair_or_fault (Some time) (Some value) = Ok (values.Two (record { time = time; value = value }))
pair_or_fault (Some time) None = Err BadShape
pair_or_fault None value = Err BadShape

-- the list is on top
abbrev pub begins_with_list : List values.Item → Bool
begins_with_list [] = false
begins_with_list (top ∷ below) = stacks.is_list top

-- what bytes that were kept and those of a piece begin with, as the code returns it
abbrev pub BeginsSo : List ℕ → List ℕ → Front → Type 0
BeginsSo kept piece Partial = frames.front (kept ++ piece) ≡ frames.Partial
BeginsSo kept piece TooLong = frames.front (kept ++ piece) ≡ frames.TooLong
BeginsSo kept piece (WholeFrame end rest) =
    (frames.front (kept ++ piece) ≡ frames.Whole)
    × (end.now ≡ take (frames.length_size + frames.length_of (kept ++ piece) - length kept) piece)
    × (rest.now ≡ drop (frames.length_size + frames.length_of (kept ++ piece) - length kept) piece)
    × (frames.length_size ≤ length kept + length end.now)
    × (length end.now + length rest.now ≡ length piece)

-- nothing else is on the stack
abbrev pub is_list_only : List values.Item → Bool
is_list_only [] = false
is_list_only (top ∷ []) = stacks.is_list top
is_list_only (top ∷ other ∷ below) = false
