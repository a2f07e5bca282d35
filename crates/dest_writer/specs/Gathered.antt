-- The lines that one write offers.
use Rattle.std.specs.Prelude.{◌≡◌, ◌⊎◌, ◌≤◌, ◌<◌, ℕ, ◌+◌, ◌-◌, Bool, nat_le, List, [], length, take, drop}
use Rattle.std.specs.Vec.{vec_capacity, vec_len}
use Rattle.line_text.specs.Print.{longest_printed}
use Rattle.dest_writer.specs.Place.{length_of_first}
use Rattle.dest_writer.specs.Writer.{WriterState, bytes_left}
use Rattle.dest_writer.specs.declared.gather_buf.GatherBuf.TheInside.{Inside}

-- what is gathered
pub record GatheredBytes : Type 0 where
  -- the bytes that are still to be offered
  pub bytes : List ℕ
  -- how many datapoints of the hand, the first ones, have their last byte before the end of these
  pub end : ℕ
  -- whether there is no room for one more line
  pub full : Bool

-- the bytes that are gathered, if there are some, are the next of the hand's text, up to the end
-- of a line
pub record IsGathered (w : WriterState) (g : GatheredBytes) : Type 0 where
  pub within : g.end ≤ length w.hand
  pub behind : w.written ≤ length_of_first g.end w.hand
  pub bytes : g.bytes ≡ take (length_of_first g.end w.hand - w.written) (bytes_left w)

abbrev pub IsEmptyOrGathered : WriterState → GatheredBytes → Type 0
IsEmptyOrGathered w g = (g.bytes ≡ []) ⊎ IsGathered w g

-- ---- what the fields of a `GatherBuf` mean, and what holds of them

-- lines are gathered up to a number of bytes, and then the last one to its end
abbrev pub enough_gathered : ℕ
enough_gathered = 65536

-- the most bytes that are gathered
abbrev pub most_gathered : ℕ
most_gathered = enough_gathered + longest_printed

abbrev pub gathered_in : Inside → GatheredBytes
gathered_in a =
    record {
      bytes = drop a.taken a.bytes.items;
      end = a.end;
      full = nat_le enough_gathered (vec_len a.bytes);
    }

pub record IsSoundBuf (a : Inside) : Type 0 where
  pub within : a.taken ≤ vec_len a.bytes
  pub most : vec_len a.bytes ≤ most_gathered
  pub room : most_gathered ≤ vec_capacity a.bytes
