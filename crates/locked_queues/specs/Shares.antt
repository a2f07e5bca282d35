-- The totals behind the locks of one set of queues, and the shares of them that seats bear. Each total has a place of
-- its own.
use Rattle.std.specs.Prelude.{◌≡◌, ℕ, zero, suc, ◌+◌, ◌-◌, ◌*◌, ◌^◌, ◌≤◌, ◌==◌, nat_lt, if◌then◌else◌, List, [], ◌∷◌, length, slice_index, sum_by, replicate}
use Rattle.atomic_table.specs.Seated.{TableId}
use Rattle.atomic_table.specs.Table.{State, Step, Me}
use Rattle.locked_queues.specs.declared.shares.View.{View}

-- the number of words in the table of a set: the first eight are no total's, and a queue has three
abbrev pub table_words : ℕ
table_words = 200

-- the places of a queue's totals: of what was offered, dropped and taken
abbrev pub offered_place : ℕ → ℕ
offered_place dest = 8 + 3 * dest

abbrev pub dropped_place : ℕ → ℕ
dropped_place dest = 8 + 3 * dest + 1

abbrev pub taken_place : ℕ → ℕ
taken_place dest = 8 + 3 * dest + 2

abbrev pub no_table : TableId
no_table =
    record {
      words = 0;
      slots = 0;
      views_name = 0;
      atom = 0;
      block = 0;
      offset = 0;
      slot_names = [];
    }

-- a total that a seat knows without keeping it
abbrev pub total_without_keep : ℕ → View → ℕ
total_without_keep i v = if slice_index v.keeps i == 0 then slice_index v.totals i else 0

-- at each place: the totals that keepers know are the sum of all shares, one seat at most keeps the total, and no
-- other knows one
pub record IsShared (views : List View) : Type 0 where
  pub summed : (i : ℕ)
      → sum_by (λ v. slice_index v.totals i) views ≡ sum_by (λ v. slice_index v.shares i) views
  pub one : (i : ℕ) → sum_by (λ v. slice_index v.keeps i) views ≤ 1
  pub kept : (i : ℕ) → sum_by (total_without_keep i) views ≡ 0

abbrev pub Holds : State ℕ View → Type 0
Holds s = IsShared s.views

-- the sum of two lists, place by place
abbrev pub sum_at_each : List ℕ → List ℕ → List ℕ
sum_at_each [] ys = ys
sum_at_each (x ∷ xs) [] = x ∷ xs
sum_at_each (x ∷ xs) (y ∷ ys) = (x + y) ∷ sum_at_each xs ys

-- this much at one place, and nothing before it
abbrev pub at_place : ℕ → ℕ → List ℕ
at_place zero n = n ∷ []
at_place (suc place) n = 0 ∷ at_place place n

abbrev pub nobody : View
nobody = record { keeps = []; totals = []; shares = [] }

-- the seat that keeps the totals of this many places, all 0
abbrev pub keeper_of : ℕ → View
keeper_of places = record { keeps = replicate places 1; totals = []; shares = [] }

-- the last place is kept by another seat from now on
abbrev pub without_last : View → View
without_last v = record v { keeps = replicate (length v.keeps - 1) 1 }

abbrev pub last_alone : View → View
last_alone v = record { keeps = at_place (length v.keeps - 1) 1; totals = []; shares = [] }

-- the shares are passed on
abbrev pub without_shares : View → View
without_shares v = record v { shares = [] }

abbrev pub shares_alone : View → View
shares_alone v = record { keeps = []; totals = []; shares = v.shares }

abbrev pub with_shares_of : View → View → View
with_shares_of v w = record v { shares = sum_at_each v.shares w.shares }

-- more in a total and in a share of it, at once
abbrev pub with_count : ℕ → ℕ → View → View
with_count place n v =
    record {
      keeps = v.keeps;
      totals = sum_at_each v.totals (at_place place n);
      shares = sum_at_each v.shares (at_place place n);
    }

abbrev pub CountsSome : Step ℕ → Me ℕ View → ℕ → Me ℕ View → Type 0
CountsSome s me found w = w.0 ≡ with_count s.word s.first me.0

abbrev pub CountsOne : Step ℕ → Me ℕ View → ℕ → Me ℕ View → Type 0
CountsOne s me found w = w.0 ≡ with_count s.word 1 me.0

-- of all seats of the set at one moment, the shares at a place add up to this sum
pub record AddUp (place total : ℕ) : Type 0 where
  pub views : List View
  pub shared : IsShared views
  pub sum : sum_by (λ v. slice_index v.shares place) views ≡ total

-- the keeper of a total sees that the shares of it add up to it
abbrev pub SeesSum : Step ℕ → Me ℕ View → ℕ → Me ℕ View → Type 0
SeesSum s me found w = (w.0 ≡ me.0) × AddUp s.word (slice_index me.0.totals s.word)

-- a number, at most the greatest count
abbrev pub cap_at_u64 : ℕ → ℕ
cap_at_u64 n = if nat_lt (2 ^ 64 - 1) n then 2 ^ 64 - 1 else n

-- the first seat of a table of this size keeps all totals, which are 0
pub record IsSoundBlank (table seat : TableId) (first : View) : Type 0 where
  pub words : table.words ≡ table_words
  pub same : seat ≡ table
  pub keeps : first ≡ keeper_of table_words
