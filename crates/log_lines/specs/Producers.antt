-- What came from one address or several.
use Rattle.std.specs.Prelude.{◌+◌}
use Rattle.reader_counts.specs.Counts.{counted}
use Rattle.log_lines.specs.declared.producers.ProducerCounts.{ProducerCounts}

abbrev pub nothing_sent : ProducerCounts
nothing_sent = record { datapoints = 0; bytes = 0; bad = 0 }

-- this and more
abbrev pub sent_after : ProducerCounts → ProducerCounts → ProducerCounts
sent_after counts more =
    record {
      datapoints = counted (counts.datapoints + more.datapoints);
      bytes = counted (counts.bytes + more.bytes);
      bad = counted (counts.bad + more.bad);
    }
