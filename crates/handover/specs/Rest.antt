-- What an ended run left for a destination, and what a connection gets of it.
use Rattle.std.specs.Prelude.{◌≡◌, ◌≤◌, ℕ, if◌then◌else◌, Bool, List, [], ◌++◌, Option}
use Rattle.std.specs.Io.KnownBytes.{Appends}
use Rattle.line_text.specs.Datapoint.{Datapoint}
use Rattle.line_text.specs.Print.{printed_lines}
use Rattle.dest_queue.specs.PointsInHand.{PointsInHand}
use Rattle.dest_writer.specs.Writer.{WriterState, SizedWriter, bytes_left, writer_after_down}
use Rattle.dest_writer.specs.declared.counting.Counting.{Counting}

-- what an ended run left for a destination
pub record RestLeft : Type 0 where
  -- the writer of that run: its hand, how much of the hand's text was taken, and whether there is a connection
  pub writer : WriterState
  -- what was queued behind the hand
  pub queued : List Datapoint

-- what connections lack of it: of the hand's text, from the very byte on, and then the lines of what was queued
abbrev pub left_text : RestLeft → List ℕ
left_text rest = bytes_left rest.writer ++ printed_lines rest.queued

pub record RestState (W : Type 0) : Type 0 where
  -- the writer of that run: its hand, how much of the hand's text was taken, and whether there is a connection
  pub writer : WriterState
  -- what was queued behind the hand
  pub queued : List Datapoint
  -- the connection that it goes out on, if there is one, and whether that takes no more before it is ready
  pub sink : Option (Counting W)
  pub blocked : Bool

-- the writer's limit, and the hand that is lent for a batch
pub record IsSoundRest (limit : ℕ) (sized : SizedWriter) (lent : PointsInHand) : Type 0 where
  pub least : 1 ≤ limit
  pub fits : sized.limit ≡ limit
  pub empty : lent.points ≡ []
  pub room : limit ≤ lent.room

-- a writer whose connection, if it had one, is gone: a line that was cut goes out again whole
abbrev pub without_connection : WriterState → WriterState
without_connection writer = if writer.up then writer_after_down writer else writer

module _ {W : Type 0} where
  -- what the connection gets: what it lacks of the hand's text, from the very byte on, and then the lines of what was queued
  abbrev pub rest_text : RestState W → List ℕ
  rest_text rest = bytes_left rest.writer ++ printed_lines rest.queued

-- an output took a first part of a text, and this is left of it
pub record TookFirst (text left : List ℕ) (before after : Option (List ℕ)) : Type 0 where
  pub taken : List ℕ
  pub cut : text ≡ taken ++ left
  pub output : Appends before after taken
