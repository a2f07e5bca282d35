use Rattle.std.specs.Prelude.{codes}
use Rattle.std.specs.String.{string_bytes}
use Rattle.status_page.specs.Metrics.{reason_samples, rejection_samples}
use Rattle.status_page.specs.declared.metric_table.ReceiverMetric.TheVariants as receiver
use Rattle.status_page.proofs.Lists.{also}
use Rattle.status_page.proofs.receiver_metrics.push_rejection_samples.Goals as goal

pub returns : goal.returns
unfolding rejection_samples
returns c =
    also c.push_reason_samples-4.result (string_bytes c.args.text.now) (reason_samples c.args.name.now receiver.BadLines (codes "line") c.args.receivers.now) _ _ _ c.in_ok-push_reason_samples.ensures (
    also c.push_reason_samples-4.result (string_bytes c.push_reason_samples.new.text) (reason_samples c.args.name.now receiver.BadPickles (codes "pickle") c.args.receivers.now) _ _ _ c.in_ok-push_reason_samples-2.ensures (
    also c.push_reason_samples-4.result (string_bytes c.push_reason_samples-2.new.text) (reason_samples c.args.name.now receiver.BadRows (codes "row") c.args.receivers.now) _ _ _ c.in_ok-push_reason_samples-3.ensures (
    c.push_reason_samples-4.ensures)))
