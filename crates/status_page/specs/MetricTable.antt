-- Which metrics there are, and what each shows of a snapshot.
use Rattle.std.specs.Prelude.{ℕ, Bool, true, false, List, [], ◌∷◌, codes}
use Rattle.log_lines.specs.declared.receiver_notes.ReceiverState.{ReceiverState}
use Rattle.log_lines.specs.declared.receiver_notes.ReceiverState.TheVariants as state
use Rattle.log_lines.specs.Losses.{count_of}
use Rattle.status_page.specs.declared.metric_table.DestMetric.{DestMetric}
use Rattle.status_page.specs.declared.metric_table.DestMetric.TheVariants as dest
use Rattle.status_page.specs.declared.metric_table.Metric.{Metric}
use Rattle.status_page.specs.declared.metric_table.MetricKind.{MetricKind}
use Rattle.status_page.specs.declared.metric_table.MetricKind.TheVariants as kind
use Rattle.status_page.specs.declared.metric_table.ReceiverMetric.{ReceiverMetric}
use Rattle.status_page.specs.declared.metric_table.ReceiverMetric.TheVariants as receiver
use Rattle.status_page.specs.declared.metric_table.RelayMetric.{RelayMetric}
use Rattle.status_page.specs.declared.metric_table.RelayMetric.TheVariants as relay
use Rattle.status_page.specs.declared.metric_table.Shown.{Shown}
use Rattle.status_page.specs.declared.metric_table.Shown.TheVariants as shown
use Rattle.status_page.specs.declared.snapshot.DestSnapshot.{DestSnapshot}
use Rattle.status_page.specs.declared.snapshot.ReceiverSnapshot.{ReceiverSnapshot}
use Rattle.status_page.specs.declared.snapshot.Snapshot.{Snapshot}

-- a metric: its name, its explanation, how it changes, and what it shows
pub record MetricRow : Type 0 where
  pub name : List ℕ
  pub help : List ℕ
  pub kind : MetricKind
  pub shows : Shown

-- what a metric of the code's table says
abbrev pub row_of : Metric → MetricRow
row_of metric =
    record { name = metric.name.now; help = metric.help.now; kind = metric.kind; shows = metric.shows }

abbrev pub row : (name help : List ℕ) → MetricKind → Shown → MetricRow
row name help kind shows = record { name = name; help = help; kind = kind; shows = shows }

-- all metrics, in the order of the text
unfoldable pub metric_rows : List MetricRow
metric_rows =
    row (codes "relayd_build_info") (codes "The version of the program, and a checksum of the files that it was started with.") kind.Gauge shown.Build
    ∷ row (codes "relayd_stopping") (codes "Whether the relay is about to end: it receives nothing any more, and sends what is queued.") kind.Gauge (shown.Relay relay.Stopping)
    ∷ row (codes "relayd_last_datapoint_timestamp_seconds") (codes "When a receiver last accepted a datapoint, in seconds since 1970; the start if none came.") kind.Gauge (shown.Relay relay.InputAt)
    ∷ row (codes "relayd_uptime_seconds") (codes "Old name: for how many seconds the relay has run; see process_start_time_seconds.") kind.Gauge (shown.Relay relay.Uptime)
    ∷ row (codes "relayd_destination_queue_size") (codes "Old name: how many datapoints each queue holds at most; see relayd_destination_queue_capacity.") kind.Gauge (shown.Relay relay.QueueSize)
    ∷ row (codes "process_start_time_seconds") (codes "When the process started, in seconds since 1970.") kind.Gauge (shown.Relay relay.Started)
    ∷ row (codes "process_cpu_seconds_total") (codes "The processor's time that it has taken.") kind.Counter (shown.Relay relay.Processor)
    ∷ row (codes "process_resident_memory_bytes") (codes "Its memory that is resident.") kind.Gauge (shown.Relay relay.Resident)
    ∷ row (codes "process_open_fds") (codes "The descriptors that it has open.") kind.Gauge (shown.Relay relay.Descriptors)
    ∷ row (codes "process_max_fds") (codes "The descriptors that it may have open.") kind.Gauge (shown.Relay relay.MostDescriptors)
    ∷ row (codes "relayd_destination_up") (codes "Whether the destination has a connection.") kind.Gauge (shown.Dests dest.Up)
    ∷ row (codes "relayd_destination_state_changed_timestamp_seconds") (codes "When it was connected, or was first seen without a connection, in seconds since 1970.") kind.Gauge (shown.Dests dest.Changed)
    ∷ row (codes "relayd_destination_connections_total") (codes "The connections that were made.") kind.Counter (shown.Dests dest.Made)
    ∷ row (codes "relayd_destination_connection_losses_total") (codes "The connections that were lost.") kind.Counter (shown.Dests dest.Lost)
    ∷ row (codes "relayd_destination_failed_tries_total") (codes "The tries to connect that failed.") kind.Counter (shown.Dests dest.FailedTries)
    ∷ row (codes "relayd_destination_queued") (codes "The datapoints in its queue.") kind.Gauge (shown.Dests dest.Queued)
    ∷ row (codes "relayd_destination_queue_capacity") (codes "How many datapoints its queue holds at most.") kind.Gauge (shown.Dests dest.Capacity)
    ∷ row (codes "relayd_destination_oldest_queued_seconds") (codes "For how long at most the oldest datapoint in its queue has been there; 0 if there is none.") kind.Gauge (shown.Dests dest.Oldest)
    ∷ row (codes "relayd_destination_stalled_seconds") (codes "For how long its queue has had datapoints and has given none to a connection.") kind.Gauge (shown.Dests dest.Stalled)
    ∷ row (codes "relayd_destination_offered_total") (codes "The datapoints that its queue was offered.") kind.Counter (shown.Dests dest.Offered)
    ∷ row (codes "relayd_destination_kept_total") (codes "The datapoints that its queue kept.") kind.Counter (shown.Dests dest.Kept)
    ∷ row (codes "relayd_destination_dropped_total") (codes "The datapoints that its queue dropped, since it was full.") kind.Counter (shown.Dests dest.Dropped)
    ∷ row (codes "relayd_destination_taken_total") (codes "The datapoints that a sender took out of its queue.") kind.Counter (shown.Dests dest.Taken)
    ∷ row (codes "relayd_destination_last_write_timestamp_seconds") (codes "When its queue last gave datapoints to a connection, in seconds since 1970; 0 if it never did.") kind.Gauge (shown.Dests dest.WrittenAt)
    ∷ row (codes "relayd_destination_writes_total") (codes "The writes that its connections took: a batch, or a part of one.") kind.Counter (shown.Dests dest.Writes)
    ∷ row (codes "relayd_destination_written_bytes_total") (codes "The bytes that its connections took.") kind.Counter (shown.Dests dest.WrittenBytes)
    ∷ row (codes "relayd_destination_spool_datapoints") (codes "The datapoints that wait in its file.") kind.Gauge (shown.Dests dest.SpoolDatapoints)
    ∷ row (codes "relayd_destination_spool_bytes") (codes "Their bytes.") kind.Gauge (shown.Dests dest.SpoolBytes)
    ∷ row (codes "relayd_destination_spool_age_seconds") (codes "How long ago its file was last written; 0 if nothing waits there.") kind.Gauge (shown.Dests dest.SpoolAge)
    ∷ row (codes "relayd_destination_spool_datapoints_per_second") (codes "The datapoints of its file that connections took in each second of the last sample.") kind.Gauge (shown.Dests dest.SpoolRate)
    ∷ row (codes "relayd_destination_spool_room_bytes") (codes "How many bytes more its files may have while the relay runs.") kind.Gauge (shown.Dests dest.SpoolRoom)
    ∷ row (codes "relayd_destination_spool_full") (codes "Whether its files take no more for now.") kind.Gauge (shown.Dests dest.SpoolFull)
    ∷ row (codes "relayd_destination_since_seconds") (codes "Old name: for how many seconds it has had a connection, or has had none; see relayd_destination_state_changed_timestamp_seconds.") kind.Gauge (shown.Dests dest.Since)
    ∷ row (codes "relayd_receiver_up") (codes "Whether the receiver takes what producers send.") kind.Gauge (shown.Receivers receiver.Up)
    ∷ row (codes "relayd_receiver_connections") (codes "The connections that are open now.") kind.Gauge (shown.Receivers receiver.Connections)
    ∷ row (codes "relayd_receiver_accepted_connections_total") (codes "The connections that it has taken.") kind.Counter (shown.Receivers receiver.Taken)
    ∷ row (codes "relayd_receiver_refused_connections_total") (codes "The connections that it refused.") kind.Counter (shown.Receivers receiver.Refused)
    ∷ row (codes "relayd_receiver_datapoints_total") (codes "The datapoints that it accepted.") kind.Counter (shown.Receivers receiver.Datapoints)
    ∷ row (codes "relayd_receiver_emptied_names_total") (codes "The accepted datapoints that rewriting dropped on purpose: it emptied their names.") kind.Counter (shown.Receivers receiver.EmptiedNames)
    ∷ row (codes "relayd_receiver_rejected_total") (codes "What it could not use: lines, pickles, rows of pickles, and names that rewriting made invalid.") kind.Counter shown.Rejections
    ∷ row (codes "relayd_receiver_lost_total") (codes "The connections that it closed and the datagrams that were lost, by the reason.") kind.Counter shown.Losses
    ∷ row (codes "relayd_receiver_bad_lines_total") (codes "Old name of relayd_receiver_rejected_total with reason line.") kind.Counter (shown.Receivers receiver.BadLines)
    ∷ row (codes "relayd_receiver_bad_pickles_total") (codes "Old name of relayd_receiver_rejected_total with reason pickle.") kind.Counter (shown.Receivers receiver.BadPickles)
    ∷ row (codes "relayd_receiver_bad_rows_total") (codes "Old name of relayd_receiver_rejected_total with reason row.") kind.Counter (shown.Receivers receiver.BadRows)
    ∷ row (codes "relayd_receiver_bad_names_total") (codes "Old name of relayd_receiver_rejected_total with reason name.") kind.Counter (shown.Receivers receiver.BadNames)
    ∷ []

abbrev pub truth_number : Bool → ℕ
truth_number true = 1
truth_number false = 0

-- what a metric says of the relay, and what the system counts of the process
abbrev pub relay_value : RelayMetric → Snapshot → ℕ
relay_value relay.Stopping s = truth_number s.is_stopping
relay_value relay.InputAt s = s.input_at
relay_value relay.Uptime s = s.uptime
relay_value relay.QueueSize s = s.queue_size
relay_value relay.Started s = s.started
relay_value relay.Processor s = s.process.processor
relay_value relay.Resident s = s.process.resident
relay_value relay.Descriptors s = s.process.descriptors
relay_value relay.MostDescriptors s = s.process.most_descriptors

-- what a metric says of a destination
abbrev pub dest_value : DestMetric → DestSnapshot → ℕ
dest_value dest.Up d = truth_number d.is_up
dest_value dest.Changed d = d.changed_at
dest_value dest.Made d = d.connections.made
dest_value dest.Lost d = d.connections.lost
dest_value dest.FailedTries d = d.connections.failed_tries
dest_value dest.Queued d = d.counts.queued
dest_value dest.Capacity d = d.size
dest_value dest.Oldest d = d.oldest
dest_value dest.Stalled d = d.stalled
dest_value dest.Offered d = d.counts.offered
dest_value dest.Kept d = d.counts.kept
dest_value dest.Dropped d = d.counts.dropped
dest_value dest.Taken d = d.counts.taken
dest_value dest.WrittenAt d = d.written_at
dest_value dest.Writes d = d.writes.writes
dest_value dest.WrittenBytes d = d.writes.bytes
dest_value dest.SpoolDatapoints d = d.spool.datapoints
dest_value dest.SpoolBytes d = d.spool.bytes
dest_value dest.SpoolAge d = d.spool.age
dest_value dest.SpoolRate d = d.spool.rate
dest_value dest.SpoolRoom d = d.spool.room
dest_value dest.SpoolFull d = truth_number d.spool.is_full
dest_value dest.Since d = d.since

-- 1 if it receives, 0 if not
abbrev pub open_number : ReceiverState → ℕ
open_number state.Open = 1
open_number (state.Paused why) = 0
open_number (state.Failed why) = 0

-- what a metric says of a receiver
abbrev pub receiver_value : ReceiverMetric → ReceiverSnapshot → ℕ
receiver_value receiver.Up r = open_number r.state
receiver_value receiver.Connections r = r.counts.connections
receiver_value receiver.Taken r = r.taken
receiver_value receiver.Refused r = r.counts.refused
receiver_value receiver.Datapoints r = r.counts.readers.datapoints
receiver_value receiver.BadLines r = r.counts.readers.faults.bad_lines
receiver_value receiver.BadPickles r = r.counts.readers.faults.bad_pickles
receiver_value receiver.BadRows r = r.counts.readers.faults.bad_rows
receiver_value receiver.BadNames r = r.counts.readers.faults.bad_names
receiver_value receiver.EmptiedNames r = r.counts.emptied
receiver_value (receiver.Lost why) r = count_of r.losses why
