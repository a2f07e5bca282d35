-- What the fields of a `Writer` mean, and what holds of them.
use Rattle.std.specs.Prelude.{◌≡◌, ◌⊎◌, ◌≤◌, ◌<◌, ◌*◌, ◌-◌, ◌^◌, [], length}
use Rattle.line_text.specs.Print.{longest_printed}
use Rattle.dest_writer.specs.Place.{position, line_at}
use Rattle.dest_writer.specs.Writer.{WriterState, SizedWriter}
use Rattle.dest_writer.specs.declared.writer.Writer.TheInside.{Inside}

abbrev pub writer_in : Inside → WriterState
writer_in a =
    record { hand = a.hand.points; written = position a.place a.hand.points; up = a.up }

abbrev pub sized_writer_of : Inside → SizedWriter
sized_writer_of a = record { limit = a.limit; writer = writer_in a }

pub record IsSound (a : Inside) : Type 0 where
  -- the place is before a byte of its line, unless the hand is empty
  pub within : (a.place.offset < length (line_at a.place.index a.hand.points))
      ⊎ ((a.hand.points ≡ []) × (a.place.index ≡ 0) × (a.place.offset ≡ 0))
  -- the hand has no more points than the limit, and room for that many
  pub fits : length a.hand.points ≤ a.limit
  pub room : a.limit ≤ a.hand.room
  -- the bytes of the longest text of this many points can be counted
  pub lengths : a.limit * longest_printed ≤ 2 ^ 64 - 1
