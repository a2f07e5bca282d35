-- What an entry of a door's record says.
use Rattle.std.specs.Arc.{arc_value}
use Rattle.queue_records.specs.Offers.{OfferMade}
use Rattle.queue_records.specs.declared.made.Made.{Made}

-- a shared datapoint is seen as the datapoint
abbrev pub offer_of : Made → OfferMade
offer_of m =
    record {
      reader = m.reader;
      dest = m.dest.0;
      number = m.number;
      point = arc_value m.point;
      kept = m.kept;
    }
