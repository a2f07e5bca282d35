-- The actions that bytes spell, one after the other, and the actions of a row as Python's picklers usually write it.
use Rattle.std.specs.Prelude.{◌≡◌, ℕ, zero, suc, List, [], ◌∷◌, Result, Ok, Err, if◌then◌else◌}
use Rattle.std.specs.Ordering.{nat_cmp}
use Rattle.std.specs.FinMap.{FinMap, len, insert}
use Rattle.pickle_subset.specs.declared.fault.PickleFault.{PickleFault}
use Rattle.pickle_subset.specs.declared.fault.PickleFault.TheVariants.{UnknownOpcode}
use Rattle.pickle_subset.specs.declared.place.Place.{Place}
use Rattle.pickle_subset.specs.declared.place.Place.TheVariants.{Under, Next}
use Rattle.pickle_subset.specs.declared.value.Pair.{Pair}
use Rattle.pickle_subset.specs.declared.usual_row.UsualRow.{UsualRow}
use Rattle.pickle_subset.specs.Instruction.{◌>>=◌, instruction_at}
use Rattle.pickle_subset.specs.Value.{Text, Row, Item, One, Two, Three}
use Rattle.pickle_subset.specs.Table.{Action, Push, JoinTwo, Store, StoreNext, action}
use Rattle.pickle_subset.specs.Stack.{State, act}
use Rattle.pickle_subset.specs.Pickle.{is_stop}
use Rattle.pickle_subset.specs.Items.{scalar}

-- ---- actions one after the other

-- an action, and the bytes after it
abbrev pub followed_by : List ℕ → Result Action PickleFault → Result (Action × List ℕ) PickleFault
followed_by rest what = what >>= λ a. Ok (a, rest)

-- the first action, and the bytes after it; STOP is none
abbrev pub action_at : List ℕ → Result (Action × List ℕ) PickleFault
action_at bytes = do
  next ← instruction_at bytes
  followed_by next.1
      (if is_stop next.0.opcode then Err UnknownOpcode else action next.0.opcode next.0.argument)

-- this number from the front
abbrev pub actions_at : ℕ → List ℕ → Result (List Action × List ℕ) PickleFault
actions_at zero bytes = Ok ([], bytes)
actions_at (suc n) bytes = do
  first ← action_at bytes
  others ← actions_at n first.1
  Ok (first.0 ∷ others.0, others.1)

-- bytes spell these actions, and then others follow
abbrev pub BeginWith : List Action → List ℕ → List ℕ → Type 0
BeginWith [] others bytes = bytes ≡ others
BeginWith (first ∷ more) others bytes =
    (rest : List ℕ) × ((action_at bytes ≡ Ok (first, rest)) × BeginWith more others rest)

-- each is carried out in turn
abbrev pub acts : List Action → State → Result State PickleFault
acts [] s = Ok s
acts (what ∷ others) s = act what s >>= acts others

-- ---- a place in the memo

abbrev pub place_action : Place → Action
place_action (Under number) = Store number
place_action Next = StoreNext

abbrev pub number_of : Place → FinMap nat_cmp Item → ℕ
number_of (Under number) memo = number
number_of Next memo = len memo

abbrev pub stored_at : Place → Item → FinMap nat_cmp Item → FinMap nat_cmp Item
stored_at place item memo = insert memo (number_of place memo) item

-- ---- a row

-- a time and a value, and the pair of both, which is stored
abbrev pub pair_actions : Pair → Place → List Action
pair_actions p place =
    Push (scalar p.time) ∷ Push (scalar p.value) ∷ JoinTwo ∷ place_action place ∷ []

-- a path, a time and a value; the path, the pair and the row are stored once they are made
abbrev pub row_actions : UsualRow → List Action
row_actions r =
    Push (Text r.path.now) ∷ place_action r.path_place ∷ Push (scalar r.time)
    ∷ Push (scalar r.value)
    ∷ JoinTwo ∷ place_action r.pair_place ∷ JoinTwo ∷ place_action r.row_place ∷ []

-- what is stored of the row that is made
abbrev pub row_stored : UsualRow → Row → FinMap nat_cmp Item → FinMap nat_cmp Item
row_stored r made memo =
    stored_at r.row_place (Three made) (stored_at r.pair_place (Two (record { time = made.time; value = made.value }))
    (stored_at r.path_place (One (Text made.path)) memo))
