-- The laws of the writer's definitions.
use Rattle.std.specs.Prelude.{◌≡◌, ◌≤◌, ℕ, ◌+◌, ◌++◌, drop}
use Rattle.dest_writer.specs.Writer.{WriterState, left, bytes_left, bytes_written, writer_after_write}

-- after a write the bytes behind it are left
abbrev pub LeavesTheRestLaw : Type 0
LeavesTheRestLaw =
    (count : ℕ) (w : WriterState) → count ≤ left w
    → bytes_left (writer_after_write count w) ≡ drop count (bytes_left w)

-- two writes, one after another, are one write of as many bytes as both
pub record AddsUp (first second : ℕ) (w : WriterState) : Type 0 where
  pub step : writer_after_write second (writer_after_write first w)
      ≡ writer_after_write (first + second) w
  pub bytes : bytes_written first w ++ bytes_written second (writer_after_write first w)
      ≡ bytes_written (first + second) w

abbrev pub WritesAddUpLaw : Type 0
WritesAddUpLaw =
    (first second : ℕ) (w : WriterState) → first + second ≤ left w → AddsUp first second w
