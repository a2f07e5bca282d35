-- One turn of a write loop: that of each destination, one after another.
use Rattle.std.specs.Prelude.{ℕ, ◌≡◌, ◌+◌, Bool, not, ◌||◌, if◌then◌else◌, List, [], ◌∷◌, Option, None, Some}
use Rattle.line_text.specs.Datapoint.{Datapoint}
use Rattle.dest_writer.specs.Counting.{stream_of, counts_of}
use Rattle.dest_writer.specs.declared.counting.Counting.{Counting}
use Rattle.dest_writer.specs.declared.driven.Driven.{Driven}
use Rattle.queue_records.specs.Takes.{TakesMade}
use Rattle.mio_loops.specs.OutgoingState.{OutgoingState}
use Rattle.mio_loops.specs.WriteAnswers.{is_blocked, is_again}
use Rattle.mio_loops.specs.WriterSteps.{WriterSide}
use Rattle.mio_loops.specs.WriteServe.{Moved, IsServed, is_failed}

-- ---- who is served

module _ {W : Type 0} where
  -- each destination is in the again list unless its last drive was answered `Blocked`: also one that has nothing
  -- to write, and a new one
  abbrev pub is_in_again_list : OutgoingState W → Bool
  is_in_again_list o = not (is_blocked o.last)

  -- its last drive ended after as many writes as one may make, with bytes left
  abbrev pub goes_on : OutgoingState W → Bool
  goes_on o = is_again o.last

  -- the connection that a turn serves: that of a destination which is ready or is in the again list
  abbrev pub connection_due : Bool → OutgoingState W → Option (Counting W)
  connection_due ready o = if ready || is_in_again_list o then o.sink else None

-- ---- one destination

module _ {W : Type 0} (contents : W → Option (List ℕ)) where
  -- a destination's writer with the supply's record and the bytes of this connection
  abbrev pub side_of : OutgoingState W → TakesMade → Counting W → WriterSide
  side_of o made sink =
      record { writer = o.writer; log = o.log; made = made; reported = contents (stream_of sink) }

module _ {W : Type 0} (contents : W → Option (List ℕ))
    (may_hand : TakesMade → ℕ → ℕ → List Datapoint → Type 0) where
  -- the connection was served, with this answer of its drive
  pub record WasServed (dest : ℕ) (held : Counting W) (driven : Driven) (old new : OutgoingState W)
      (before after : TakesMade) : Type 0 where
    pub moved : Moved
    -- the connection after the drive
    pub sink : Counting W
    pub served : IsServed may_hand dest old.limit moved driven (side_of contents old before held)
        (side_of contents new after sink) (counts_of held) (counts_of sink)
    -- it leaves only if it failed
    pub stays : new.sink ≡ (if is_failed driven then None else Some sink)
    pub last : new.last ≡ Some driven
    pub limit : new.limit ≡ old.limit

-- a destination before and after a turn, and how its drive was answered, if it was served
pub record TurnAt (W : Type 0) : Type 0 where
  pub old : OutgoingState W
  pub new : OutgoingState W
  pub answer : Option Driven

module _ {W : Type 0} (contents : W → Option (List ℕ))
    (may_hand : TakesMade → ℕ → ℕ → List Datapoint → Type 0) where
  -- the connection that is due was served, and without one nothing changed
  pub record IsTurn (dest : ℕ) (ready : Bool) (t : TurnAt W) (before after : TakesMade) : Type 0
    where
      pub served : (held : Counting W) → connection_due ready t.old ≡ Some held
          → (driven : Driven) × (t.answer ≡ Some driven)
          × WasServed contents may_hand dest held driven t.old t.new before after
      pub passed : connection_due ready t.old ≡ None
          → (t.answer ≡ None) × (t.new ≡ t.old) × (after ≡ before)

  -- ---- all destinations

  -- the turns from this destination on, one after another; the supply records on from each to the next
  abbrev pub AreTurns : (ℕ → Bool) → ℕ → List (TurnAt W) → TakesMade → TakesMade → Type 0
  AreTurns ready dest [] before after = after ≡ before
  AreTurns ready dest (t ∷ ts) before after =
      (between : TakesMade) × (IsTurn dest (ready dest) t before between)
      × (AreTurns ready (dest + 1) ts between after)
