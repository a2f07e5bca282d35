-- The status as JSON.
use Rattle.std.specs.Prelude.{ℕ, Bool, true, false, List, [], ◌∷◌, ◌++◌, Option, None, Some, codes, decimal, string_bytes}
use Rattle.std.specs.List.{flat_map}
use Rattle.conf_text.specs.Destination.{destination_text}
use Rattle.dest_queue.specs.declared.counts.Counts.{Counts}
use Rattle.log_lines.specs.Why.{why_text}
use Rattle.log_lines.specs.declared.why.Why.{Why}
use Rattle.log_lines.specs.declared.receiver_counts.ReceiverCounts.{ReceiverCounts}
use Rattle.log_lines.specs.declared.receiver_notes.ReceiverState.{ReceiverState}
use Rattle.log_lines.specs.declared.receiver_notes.ReceiverState.TheVariants as state
use Rattle.log_lines.specs.Losses.{count_of}
use Rattle.log_lines.specs.declared.losses.TheConstants.{LOSS_REASONS}
use Rattle.log_lines.specs.declared.losses.LossCounts.{LossCounts}
use Rattle.log_lines.specs.declared.losses.LossReason.{LossReason}
use Rattle.log_lines.specs.declared.producers.ProducerCounts.{ProducerCounts}
use Rattle.status_page.specs.declared.headline.Headline.{Headline}
use Rattle.status_page.specs.declared.snapshot.ConnectionCounts.{ConnectionCounts}
use Rattle.status_page.specs.declared.snapshot.DestSnapshot.{DestSnapshot}
use Rattle.status_page.specs.declared.snapshot.OtherProducers.{OtherProducers}
use Rattle.status_page.specs.declared.snapshot.ProducerSnapshot.{ProducerSnapshot}
use Rattle.status_page.specs.declared.snapshot.Rates.{Rates}
use Rattle.status_page.specs.declared.snapshot.ReceiverSnapshot.{ReceiverSnapshot}
use Rattle.status_page.specs.declared.snapshot.Sample.{Sample}
use Rattle.status_page.specs.declared.snapshot.Snapshot.{Snapshot}
use Rattle.status_page.specs.declared.snapshot.SpoolSnapshot.{SpoolSnapshot}
use Rattle.status_page.specs.Headline.{headline, state_name}
use Rattle.status_page.specs.LossWords.{loss_name}
use Rattle.status_page.specs.Plain.{plain_text, plain_address}

-- a member whose value is a number, behind others
unfoldable pub member : (key : List ℕ) → ℕ → List ℕ
member key n = codes ",\"" ++ key ++ codes "\":" ++ decimal n

-- an item behind another
unfoldable pub next_one : {A : Type 0} → (A → List ℕ) → A → List ℕ
next_one json a = codes "," ++ json a

-- items with commas between them
unfoldable pub listed : {A : Type 0} → (A → List ℕ) → List A → List ℕ
listed json [] = []
listed json (a ∷ others) = json a ++ flat_map (next_one json) others

unfoldable pub truth_json : Bool → List ℕ
truth_json true = codes "true"
truth_json false = codes "false"

unfoldable pub error_json : Option Why → List ℕ
error_json None = codes "null"
error_json (Some why) = codes "\"" ++ why_text why ++ codes "\""

unfoldable pub state_error : ReceiverState → List ℕ
state_error state.Open = codes "null"
state_error (state.Paused why) = codes "\"" ++ why_text why ++ codes "\""
state_error (state.Failed why) = codes "\"" ++ why_text why ++ codes "\""

-- what a queue has counted
unfoldable pub counts_json : Counts → List ℕ
counts_json c =
    member (codes "queued") c.queued ++ member (codes "offered") c.offered ++ member (codes "kept") c.kept
    ++ member (codes "dropped") c.dropped ++ member (codes "taken") c.taken

-- what it counted in each second of the last sample
unfoldable pub rates_json : Rates → List ℕ
rates_json r =
    member (codes "offered_per_second") r.received ++ member (codes "written_per_second") r.written
    ++ member (codes "dropped_per_second") r.dropped

-- whether a destination is connected, and since how many seconds
unfoldable pub connection_json : DestSnapshot → List ℕ
connection_json d =
    codes ",\"connected\":" ++ (truth_json d.is_up ++ member (codes "since_seconds") d.since)

unfoldable pub dest_name : DestSnapshot → List ℕ
dest_name d = codes "{\"destination\":\"" ++ destination_text d.dest ++ codes "\""

unfoldable pub last_error_json : Option Why → List ℕ
last_error_json error = codes ",\"last_error\":" ++ error_json error

-- a destination's numbers
unfoldable pub dest_numbers : DestSnapshot → List ℕ
dest_numbers d = connection_json d ++ (counts_json d.counts ++ rates_json d.rates)

-- how often it was connected, and what went wrong
unfoldable pub connection_counts_json : ConnectionCounts → List ℕ
connection_counts_json c =
    member (codes "connections") c.made
    ++ (member (codes "connection_losses") c.lost
    ++ (member (codes "losses_last_minute") c.lost_lately
    ++ (member (codes "failed_tries") c.failed_tries)))

-- what its connections took, and how late that is
unfoldable pub progress_json : DestSnapshot → List ℕ
progress_json d =
    member (codes "writes") d.writes.writes
    ++ (member (codes "written_bytes") d.writes.bytes
    ++ (member (codes "last_write_timestamp_seconds") d.written_at
    ++ (member (codes "stalled_seconds") d.stalled
    ++ (member (codes "oldest_queued_milliseconds") d.oldest))))

-- whether its files take no more
unfoldable pub full_json : Bool → List ℕ
full_json is_full = codes ",\"spool_full\":" ++ truth_json is_full

-- what waits in its file, how fast that goes out, and whether more has room
unfoldable pub spool_json : SpoolSnapshot → List ℕ
spool_json s =
    member (codes "spool_datapoints") s.datapoints
    ++ (member (codes "spool_bytes") s.bytes
    ++ (member (codes "spool_age_seconds") s.age
    ++ (member (codes "spool_datapoints_per_second") s.rate
    ++ (member (codes "spool_room_bytes") s.room
    ++ full_json s.is_full))))

-- a destination
unfoldable pub dest_json : DestSnapshot → List ℕ
dest_json d =
    dest_name d ++ (dest_numbers d ++ (last_error_json d.last_error
    ++ (connection_counts_json d.connections ++ (progress_json d ++ (spool_json d.spool ++ codes "}")))))

unfoldable pub receiver_name : ReceiverSnapshot → List ℕ
receiver_name r = codes "{\"receiver\":\"" ++ (plain_text (string_bytes r.name) ++ codes "\"")

unfoldable pub state_word : ReceiverState → List ℕ
state_word state.Open = codes "open"
state_word (state.Paused why) = codes "paused"
state_word (state.Failed why) = codes "failed"

-- a receiver's state, and what made it so
unfoldable pub state_json : ReceiverState → List ℕ
state_json s = codes ",\"state\":\"" ++ (state_word s ++ (codes "\",\"last_error\":" ++ state_error s))

-- what a receiver accepted
unfoldable pub accepted_json : ReceiverCounts → List ℕ
accepted_json c = member (codes "connections") c.connections ++ member (codes "datapoints") c.readers.datapoints

-- what it could not use
unfoldable pub bad_json : ReceiverCounts → List ℕ
bad_json c =
    member (codes "bad_lines") c.readers.faults.bad_lines ++ member (codes "bad_pickles") c.readers.faults.bad_pickles
    ++ member (codes "bad_rows") c.readers.faults.bad_rows ++ member (codes "bad_names") c.readers.faults.bad_names

-- what a receiver has counted
unfoldable pub received_json : ReceiverCounts → List ℕ
received_json c =
    accepted_json c ++ (bad_json c ++ (member (codes "emptied_names") c.emptied ++ member (codes "refused") c.refused))

-- what it lost or closed for a reason
unfoldable pub loss_json : LossCounts → LossReason → List ℕ
loss_json c why = member (loss_name why) (count_of c why)

-- what it lost or closed, by the reason
unfoldable pub losses_json : LossCounts → List ℕ
losses_json c = flat_map (loss_json c) LOSS_REASONS

-- how many connections it has taken, and what it counted in each second
unfoldable pub receiver_rates_json : ReceiverSnapshot → List ℕ
receiver_rates_json r =
    member (codes "accepted_connections") r.taken
    ++ (member (codes "datapoints_per_second") r.rate
    ++ (member (codes "bad_per_second") r.bad_rate))

-- a receiver
unfoldable pub receiver_json : ReceiverSnapshot → List ℕ
receiver_json r =
    receiver_name r ++ (state_json r.state ++ (received_json r.counts
    ++ (losses_json r.losses ++ (receiver_rates_json r ++ codes "}"))))

unfoldable pub producer_address : List ℕ → List ℕ
producer_address address = codes "{\"address\":\"" ++ (address ++ codes "\"")

-- what came from producers in each second
unfoldable pub producer_rates_json : ProducerCounts → List ℕ
producer_rates_json c =
    member (codes "datapoints_per_second") c.datapoints
    ++ (member (codes "bytes_per_second") c.bytes
    ++ (member (codes "bad_per_second") c.bad))

-- a producer
unfoldable pub producer_json : ProducerSnapshot → List ℕ
producer_json p =
    producer_address (plain_address (string_bytes p.address))
    ++ (producer_rates_json p.rates
    ++ (member (codes "connections") p.connections
    ++ (member (codes "connected_seconds") p.age ++ codes "}")))

unfoldable pub sample_json : Sample → List ℕ
sample_json s =
    codes "{\"received\":" ++ decimal s.received ++ member (codes "written") s.written
    ++ member (codes "dropped") s.dropped ++ member (codes "milliseconds") s.millis ++ codes "}"

unfoldable pub version_json : List ℕ → List ℕ
version_json version = codes "{\"version\":\"" ++ (version ++ codes "\"")

-- the uptime and the size of a queue
unfoldable pub sizes_json : Snapshot → List ℕ
sizes_json s = member (codes "uptime_seconds") s.uptime ++ member (codes "queue_size") s.queue_size

-- a checksum of the files that the relay was started with
unfoldable pub configuration_json : List ℕ → List ℕ
configuration_json sum = codes ",\"configuration\":\"" ++ (sum ++ codes "\"")

unfoldable pub host_json : List ℕ → List ℕ
host_json host = codes ",\"host\":\"" ++ (host ++ codes "\"")

-- what the status says first
unfoldable pub headline_json : Headline → List ℕ
headline_json it = codes ",\"state\":\"" ++ (state_name it ++ codes "\"")

-- what all receivers and queues count
unfoldable pub totals_json : Snapshot → List ℕ
totals_json s =
    member (codes "received_per_second") s.rates.received ++ member (codes "written_per_second") s.rates.written
    ++ member (codes "dropped_per_second") s.rates.dropped ++ member (codes "queued") s.queued
    ++ member (codes "seconds_without_input") s.silence

-- the version, the uptime, the size of a queue, and what holds for all
unfoldable pub head_json : Snapshot → List ℕ
head_json s =
    version_json (plain_text (string_bytes s.version))
    ++ (sizes_json s ++ (host_json (plain_text (string_bytes s.host)) ++ (headline_json (headline s) ++ totals_json s)))

unfoldable pub dest_list : List DestSnapshot → List ℕ
dest_list dests = codes ",\"destinations\":[" ++ (listed dest_json dests ++ codes "]")

unfoldable pub receiver_list : List ReceiverSnapshot → List ℕ
receiver_list receivers = codes ",\"receivers\":[" ++ (listed receiver_json receivers ++ codes "]")

unfoldable pub producer_list : List ProducerSnapshot → List ℕ
producer_list producers = codes ",\"producers\":[" ++ (listed producer_json producers ++ codes "]")

unfoldable pub other_addresses : ℕ → List ℕ
other_addresses n = codes ",\"other_producers\":{\"addresses\":" ++ decimal n

-- the producers that are not listed
unfoldable pub other_producers_json : OtherProducers → List ℕ
other_producers_json others =
    other_addresses others.addresses ++ (producer_rates_json others.rates ++ codes "}")

unfoldable pub sample_list : List Sample → List ℕ
sample_list samples = codes ",\"samples\":[" ++ (listed sample_json samples ++ codes "]")

-- the whole text: one object and a newline
unfoldable pub status_json : Snapshot → List ℕ
status_json s =
    head_json s ++ (dest_list s.dests.items ++ (receiver_list s.receivers.items
    ++ (member (codes "sample_seconds") s.sample_seconds ++ (sample_list s.samples.items
    ++ (configuration_json (plain_text (string_bytes s.configuration))
    ++ (producer_list s.producers.items ++ (other_producers_json s.other_producers ++ codes "}\n")))))))
