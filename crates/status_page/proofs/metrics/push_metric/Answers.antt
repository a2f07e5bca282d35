use Rattle.std.specs.String.{string_bytes}
use Rattle.status_page.specs.MetricTable.{row_of}
use Rattle.status_page.specs.Metrics.{metric_head, metric_text}
use Rattle.status_page.proofs.Lists.{also}
use Rattle.status_page.proofs.metrics.push_metric.Goals as goal

pub returns : goal.returns
unfolding metric_text
returns c =
    also c.push_samples.result (string_bytes c.args.text.now) (metric_head (row_of c.args.metric.now)) _ _ _ c.in_ok-push_head.ensures (
    c.push_samples.ensures)
