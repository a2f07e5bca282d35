-- What the fields of an `OutletBook` mean, and what holds of them.
use Rattle.std.specs.Prelude.{◌≤◌, length, map}
use Rattle.std.specs.Vec.{vec_capacity}
use Rattle.queue_records.specs.Offers.{most_entries}
use Rattle.queue_records.specs.Takes.{TakesMade}
use Rattle.queue_records.specs.TakenBatch.{take_of}
use Rattle.queue_records.specs.declared.outlet_book.OutletBook.TheInside.{Inside}

abbrev pub takes_made_of : Inside → TakesMade
takes_made_of b = record { entries = map take_of b.takes.items; totals = b.totals.items }

pub record IsSoundOutletBook (b : Inside) : Type 0 where
  -- the room for all entries is there from the start
  pub room : most_entries ≤ vec_capacity b.takes
  pub few : length b.takes.items ≤ most_entries
  pub dests : length b.totals.items ≤ 64
