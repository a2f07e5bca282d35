use Rattle.std.proofs.Common.{◌++◌, ap, ◌∙◌}
use Rattle.std.proofs.lemmas.Result.{on_ok_weaker}
use Rattle.std.specs.String.{string_bytes}
use Rattle.status_page.specs.MetricTable.{dest_value}
use Rattle.status_page.specs.Metrics.{value_line, dest_label, dest_sample}
use Rattle.status_page.proofs.Lists.{also}
use Rattle.status_page.proofs.dest_metrics.push_dest_sample.Goals as goal

pub returns : goal.returns
unfolding dest_sample
returns c =
    also c.push_value.result (string_bytes c.args.text.now) (c.args.name.now) _ _ _ c.in_ok-push_str.ensures.bytes (
    also c.push_value.result (string_bytes c.push_str.new.self) (dest_label c.args.dest.now) _ _ _ c.in_ok-push_dest_label.ensures (
    on_ok_weaker c.push_value.result (λ h. h ∙ (ap (λ x. string_bytes c.push_dest_label.new.text ++ value_line x c.dest_scale.result.now) c.dest_value.ensures ∙ ap (λ x. string_bytes c.push_dest_label.new.text ++ value_line (dest_value c.args.metric c.args.dest.now) x) c.dest_scale.ensures)) c.push_value.ensures))
