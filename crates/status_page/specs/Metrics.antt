-- The status as metrics, in Prometheus' text format.
use Rattle.std.specs.Prelude.{ℕ, List, ◌++◌, codes, decimal, string_bytes}
use Rattle.std.specs.List.{flat_map}
use Rattle.conf_text.specs.Destination.{destination_text}
use Rattle.log_lines.specs.declared.losses.TheConstants.{LOSS_REASONS}
use Rattle.log_lines.specs.declared.losses.LossReason.{LossReason}
use Rattle.status_page.specs.declared.metric_table.DestMetric.{DestMetric}
use Rattle.status_page.specs.declared.metric_table.DestMetric.TheVariants as dest
use Rattle.status_page.specs.declared.metric_table.MetricKind.{MetricKind}
use Rattle.status_page.specs.declared.metric_table.MetricKind.TheVariants as kind
use Rattle.status_page.specs.declared.metric_table.Shown.{Shown}
use Rattle.status_page.specs.declared.metric_table.Shown.TheVariants as shown
use Rattle.status_page.specs.declared.metric_table.ReceiverMetric.{ReceiverMetric}
use Rattle.status_page.specs.declared.metric_table.ReceiverMetric.TheVariants as receiver
use Rattle.status_page.specs.declared.metric_table.RelayMetric.{RelayMetric}
use Rattle.status_page.specs.declared.metric_table.RelayMetric.TheVariants as relay
use Rattle.status_page.specs.declared.snapshot.DestSnapshot.{DestSnapshot}
use Rattle.status_page.specs.declared.snapshot.ReceiverSnapshot.{ReceiverSnapshot}
use Rattle.status_page.specs.declared.snapshot.Snapshot.{Snapshot}
use Rattle.status_page.specs.LossWords.{loss_name}
use Rattle.status_page.specs.MetricTable.{MetricRow, metric_rows, relay_value, dest_value, receiver_value}
use Rattle.status_page.specs.Plain.{plain_text}

abbrev pub kind_word : MetricKind → List ℕ
kind_word kind.Counter = codes "counter"
kind_word kind.Gauge = codes "gauge"

unfoldable pub help_line : (name help : List ℕ) → List ℕ
help_line name help = codes "# HELP " ++ name ++ codes " " ++ help ++ codes "\n"

unfoldable pub type_line : (name kind : List ℕ) → List ℕ
type_line name kind = codes "# TYPE " ++ name ++ codes " " ++ kind ++ codes "\n"

-- the lines that explain a metric: its help and its type
unfoldable pub metric_head : MetricRow → List ℕ
metric_head row = help_line row.name row.help ++ type_line row.name (kind_word row.kind)

-- a number at the end of a line, with a power of ten or none
unfoldable pub value_line : ℕ → (scale : List ℕ) → List ℕ
value_line n scale = decimal n ++ (scale ++ codes "\n")

-- the power of ten of its number: hundredths of a second, or none
abbrev pub relay_scale : RelayMetric → List ℕ
relay_scale relay.Processor = codes "e-2"
relay_scale _ = codes ""

-- a metric of the relay
unfoldable pub relay_sample : (name : List ℕ) → RelayMetric → Snapshot → List ℕ
relay_sample name metric s = name ++ (codes " " ++ value_line (relay_value metric s) (relay_scale metric))

-- the version and the configuration, as labels
unfoldable pub build_labels : (version configuration : List ℕ) → List ℕ
build_labels version configuration =
    codes "{version=\"" ++ (version ++ (codes "\",configuration=\"" ++ (configuration ++ codes "\"} 1\n")))

unfoldable pub build_sample : (name : List ℕ) → Snapshot → List ℕ
build_sample name s = name ++ build_labels (plain_text (string_bytes s.version)) (plain_text (string_bytes s.configuration))

-- the power of ten of its numbers: thousandths of a second, or none
abbrev pub dest_scale : DestMetric → List ℕ
dest_scale dest.Oldest = codes "e-3"
dest_scale _ = codes ""

-- the destination of a metric, as a label
unfoldable pub dest_label : DestSnapshot → List ℕ
dest_label d = codes "{destination=\"" ++ destination_text d.dest ++ codes "\"} "

-- a metric of one destination
unfoldable pub dest_sample : (name : List ℕ) → DestMetric → DestSnapshot → List ℕ
dest_sample name metric d = name ++ (dest_label d ++ value_line (dest_value metric d) (dest_scale metric))

-- of which receiver a metric is
unfoldable pub receiver_label : ReceiverSnapshot → List ℕ
receiver_label r = codes "{receiver=\"" ++ (plain_text (string_bytes r.name) ++ codes "\"} ")

-- a metric of one receiver
unfoldable pub receiver_sample : (name : List ℕ) → ReceiverMetric → ReceiverSnapshot → List ℕ
receiver_sample name metric r = name ++ (receiver_label r ++ value_line (receiver_value metric r) (codes ""))

unfoldable pub receiver_part : List ℕ → List ℕ
receiver_part name = codes "{receiver=\"" ++ (name ++ codes "\"")

unfoldable pub reason_part : List ℕ → List ℕ
reason_part reason = codes ",reason=\"" ++ (reason ++ codes "\"} ")

-- of which receiver a metric is, and for which reason
unfoldable pub reason_label : (receiver reason : List ℕ) → List ℕ
reason_label receiver reason = receiver_part receiver ++ reason_part reason

-- a metric of one receiver for one reason
unfoldable pub reason_sample : (name : List ℕ) → ReceiverMetric → (reason : List ℕ) → ReceiverSnapshot → List ℕ
reason_sample name metric reason r =
    name ++ (reason_label (plain_text (string_bytes r.name)) reason ++ value_line (receiver_value metric r) (codes ""))

-- a metric of each receiver for one reason
abbrev pub reason_samples : (name : List ℕ) → ReceiverMetric → (reason : List ℕ) → List ReceiverSnapshot → List ℕ
reason_samples name metric reason receivers = flat_map (reason_sample name metric reason) receivers

-- what each receiver could not use, by the reason
unfoldable pub rejection_samples : (name : List ℕ) → List ReceiverSnapshot → List ℕ
rejection_samples name receivers =
    reason_samples name receiver.BadLines (codes "line") receivers
    ++ (reason_samples name receiver.BadPickles (codes "pickle") receivers
    ++ (reason_samples name receiver.BadRows (codes "row") receivers
    ++ reason_samples name receiver.BadNames (codes "name") receivers))

-- what each receiver closed or lost for a reason
unfoldable pub loss_samples : (name : List ℕ) → List ReceiverSnapshot → LossReason → List ℕ
loss_samples name receivers why = reason_samples name (receiver.Lost why) (loss_name why) receivers

-- the numbers of a metric, with its labels
abbrev pub samples : (name : List ℕ) → Shown → Snapshot → List ℕ
samples name shown.Build s = build_sample name s
samples name (shown.Relay metric) s = relay_sample name metric s
samples name (shown.Dests metric) s = flat_map (dest_sample name metric) s.dests.items
samples name (shown.Receivers metric) s = flat_map (receiver_sample name metric) s.receivers.items
samples name shown.Rejections s = rejection_samples name s.receivers.items
samples name shown.Losses s = flat_map (loss_samples name s.receivers.items) LOSS_REASONS

-- a metric
unfoldable pub metric_text : Snapshot → MetricRow → List ℕ
metric_text s row = metric_head row ++ samples row.name row.shows s

-- the whole text
unfoldable pub status_metrics : Snapshot → List ℕ
status_metrics s = flat_map (metric_text s) metric_rows
