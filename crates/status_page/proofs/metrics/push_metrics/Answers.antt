use Rattle.status_page.specs.MetricTable.{metric_rows}
use Rattle.status_page.specs.Metrics.{status_metrics}
use Rattle.status_page.proofs.metrics.push_metrics.Goals as goal

pub returns : goal.returns
unfolding status_metrics metric_rows
returns c = c.push_each.ensures
