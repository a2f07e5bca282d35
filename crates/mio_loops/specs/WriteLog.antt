-- The log of a writer: its steps, in order, while there is room for them.
use Rattle.std.specs.Prelude.{◌≡◌, ◌≤◌, false, length, map}
use Rattle.std.specs.Vec.{vec_capacity}
use Rattle.dest_writer.specs.Log.{LogEntry, UpEntry, TakeEntry, WroteEntry, DownEntry}
use Rattle.mio_loops.specs.declared.write_log.WriterEntry.{WriterEntry}
use Rattle.mio_loops.specs.declared.write_log.WriterEntry.TheVariants.{Up, Take, Wrote, Down}
use Rattle.mio_loops.specs.InputLog.{most_entries}
use Rattle.mio_loops.specs.WriterLog.{WriterLog}
use Rattle.mio_loops.specs.declared.write_log.WriteLog.TheInside.{Inside}

-- an entry of the code is seen as the word of a log
abbrev pub entry_of : WriterEntry → LogEntry
entry_of Up = UpEntry
entry_of (Take limit taken) = TakeEntry limit taken
entry_of (Wrote count) = WroteEntry count
entry_of Down = DownEntry

-- ---- what the fields of a `WriteLog` mean, and what holds of them

abbrev pub writer_log_of : Inside → WriterLog
writer_log_of l = record { entries = map entry_of l.entries.items; sealed = l.sealed }

pub record IsSoundLog (l : Inside) : Type 0 where
  -- the room for all entries is there from the start, except in a log that never takes one
  pub room : l.sealed ≡ false → most_entries ≤ vec_capacity l.entries
  pub few : length l.entries.items ≤ most_entries
