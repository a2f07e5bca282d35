-- The whole relay as events happen: each reader's input and how many offers it has made, and each
-- destination.
use Rattle.std.specs.Prelude.{ℕ, ◌+◌, Bool, true, false, not, ◌&&◌, nat_lt, if◌then◌else◌, List, [], ◌∷◌, length, map, drop, replicate, slice_index_or, slice_set, flat_map, Option, Some, None}
use Rattle.line_text.specs.Datapoint.{Datapoint}
use Rattle.line_text.specs.Connection.{arrivals}
use Rattle.reader_core.specs.Input.{Stream, has_connections, fresh_input, current, input_after_piece, input_after_end}
use Rattle.reader_core.specs.Reading.{Reading, accepted_of}
use Rattle.reader_core.specs.Configuration.{Configuration, Dispatch, sends, points_for}
use Rattle.relay_core.specs.Destination.{Destination, Act, Offered, Taken, Connected, Written, Lost, fresh_destination, may_act, dest_after}
use Rattle.reader_core.specs.declared.kind.ReaderKind.{ReaderKind}
use Rattle.reader_core.specs.declared.kind.ReaderKind.TheVariants.{Line}

pub record ReaderState : Type 0 where
  pub kind : ReaderKind
  pub input : List Stream
  -- how many offers it has made
  pub made : ℕ

pub record WorldState : Type 0 where
  pub readers : List ReaderState
  pub destinations : List Destination

pub data RunEvent : Type 0 where
  -- a reader is fed a piece
  Piece : (reader : ℕ) (bytes : List ℕ) (moment : ℕ) → RunEvent
  -- a reader's connection ends
  End : (reader : ℕ) → RunEvent
  -- a reader makes the first offer that waits
  Offer : (reader : ℕ) → RunEvent
  -- a destination's writer takes a batch
  Take : (dest : ℕ) → RunEvent
  -- a destination has a connection
  Up : (dest : ℕ) → RunEvent
  -- the connection took this number of bytes
  Wrote : (dest : ℕ) (count : ℕ) → RunEvent
  -- the connection is lost
  Down : (dest : ℕ) → RunEvent

-- ---- the beginning

abbrev pub fresh_reader : ReaderKind → ReaderState
fresh_reader kind = record { kind = kind; input = fresh_input kind; made = 0 }

abbrev pub fresh_world : Configuration → List ReaderKind → WorldState
fresh_world c kinds =
    record {
      readers = map fresh_reader kinds;
      destinations = replicate c.destinations (fresh_destination (length kinds));
    }

-- the reader and the destination with that number; if there is none, one with nothing in it
abbrev pub reader_at : WorldState → ℕ → ReaderState
reader_at w r = slice_index_or w.readers r (record { kind = Line; input = []; made = 0 })

abbrev pub dest_at : WorldState → ℕ → Destination
dest_at w d = slice_index_or w.destinations d (fresh_destination 0)

-- ---- what a reader does

abbrev pub reader_after_piece : Stream → ReaderState → ReaderState
reader_after_piece piece r = record r { input = input_after_piece r.kind piece r.input }

abbrev pub reader_after_end : ReaderState → ReaderState
reader_after_end r = record r { input = input_after_end r.kind r.input }

abbrev pub reader_after_offer : ReaderState → ReaderState
reader_after_offer r = record r { made = r.made + 1 }

-- an act at a destination
pub record ActAt : Type 0 where
  pub dest : ℕ
  pub act : Act

abbrev pub first_step : ℕ → List Dispatch → Option ActAt
first_step r [] = None
first_step r (sent ∷ others) = Some (record { dest = sent.dest; act = Offered r sent.point })

abbrev pub is_nothing : List Dispatch → Bool
is_nothing [] = true
is_nothing (sent ∷ others) = false

module _ (reading : Reading) (c : Configuration) where
  -- all that the accepted datapoints of the reader's input become, in order
  abbrev pub offers_of : ReaderState → List Dispatch
  offers_of r = flat_map (sends c) (accepted_of reading r.kind r.input)

  -- the offers that the reader has not made yet
  abbrev pub waiting_of : ReaderState → List Dispatch
  waiting_of r = drop r.made (offers_of r)

  -- what the reader has for a destination
  abbrev pub points_of : ℕ → ReaderState → List Datapoint
  points_of d r = points_for c d (accepted_of reading r.kind r.input)

  -- whether its connection is closed; a datagram reader has none
  abbrev pub is_closed : ReaderState → Bool
  is_closed r = has_connections r.kind && reading.closes r.kind (current r.input)

  -- ---- which events are allowed

  -- what an event is at a destination: an offer is of the first that waits
  abbrev pub step_of : WorldState → RunEvent → Option ActAt
  step_of w (Piece r bytes moment) = None
  step_of w (End r) = None
  step_of w (Offer r) = first_step r (waiting_of (reader_at w r))
  step_of w (Take d) = Some (record { dest = d; act = Taken })
  step_of w (Up d) = Some (record { dest = d; act = Connected })
  step_of w (Wrote d count) = Some (record { dest = d; act = Written count })
  step_of w (Down d) = Some (record { dest = d; act = Lost })

  -- the destination exists, and the act may happen there
  abbrev pub may_step : WorldState → Option ActAt → Bool
  may_step w None = false
  may_step w (Some step) =
      nat_lt step.dest (length w.destinations) && may_act (dest_at w step.dest) step.act

  -- a piece if the connection is open and nothing waits, and an offer if one waits
  abbrev pub is_allowed : WorldState → RunEvent → Bool
  is_allowed w (Piece r bytes moment) =
      nat_lt r (length w.readers) && not (is_closed (reader_at w r))
      && is_nothing (waiting_of (reader_at w r))
  is_allowed w (End r) = nat_lt r (length w.readers)
  is_allowed w (Offer r) = not (is_nothing (waiting_of (reader_at w r)))
  is_allowed w event = may_step w (step_of w event)

  -- ---- what an allowed event leaves

  abbrev pub readers_after : WorldState → RunEvent → List ReaderState
  readers_after w (Piece r bytes moment) =
      slice_set w.readers r (reader_after_piece (arrivals bytes moment) (reader_at w r))
  readers_after w (End r) = slice_set w.readers r (reader_after_end (reader_at w r))
  readers_after w (Offer r) = slice_set w.readers r (reader_after_offer (reader_at w r))
  readers_after w event = w.readers

  abbrev pub destinations_after : WorldState → Option ActAt → List Destination
  destinations_after w None = w.destinations
  destinations_after w (Some step) =
      slice_set w.destinations step.dest (dest_after c.size c.limit (dest_at w step.dest) step.act)

  abbrev pub world_after : WorldState → RunEvent → WorldState
  world_after w event =
      record {
        readers = readers_after w event;
        destinations = destinations_after w (step_of w event);
      }

  -- an event that is not allowed is not part of a run
  abbrev pub after : WorldState → RunEvent → WorldState
  after w event = if is_allowed w event then world_after w event else w

  abbrev pub after_all : WorldState → List RunEvent → WorldState
  after_all w [] = w
  after_all w (event ∷ events) = after_all (after w event) events
