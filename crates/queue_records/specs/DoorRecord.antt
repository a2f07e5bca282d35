-- What a closed door and a closed outlet report.
use Rattle.std.specs.Prelude.{◌≡◌, length, map}
use Rattle.queue_records.specs.Offers.{OffersMade}
use Rattle.queue_records.specs.Takes.{TakesMade}
use Rattle.queue_records.specs.Made.{offer_of}
use Rattle.queue_records.specs.TakenBatch.{take_of}
use Rattle.queue_records.specs.declared.door_record.DoorRecord.{DoorRecord}
use Rattle.queue_records.specs.declared.outlet_record.OutletRecord.{OutletRecord}

-- the record has what the door recorded
pub record HasOffersOf (m : OffersMade) (r : DoorRecord) : Type 0 where
  pub count : r.dests ≡ length m.totals
  pub made : map offer_of r.made.items ≡ m.entries
  pub totals : r.totals.items ≡ m.totals
  pub drops : r.drops.items ≡ m.drops

-- the record has what the outlet recorded
pub record HasTakesOf (m : TakesMade) (r : OutletRecord) : Type 0 where
  pub count : r.dests ≡ length m.totals
  pub takes : map take_of r.takes.items ≡ m.entries
  pub totals : r.totals.items ≡ m.totals
