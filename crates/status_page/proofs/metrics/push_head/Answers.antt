use Rattle.std.proofs.Common.{◌++◌, ap, ◌∙◌}
use Rattle.std.proofs.lemmas.Result.{on_ok_weaker}
use Rattle.std.specs.String.{string_bytes}
use Rattle.status_page.specs.Metrics.{help_line, type_line, metric_head}
use Rattle.status_page.proofs.Lists.{also}
use Rattle.status_page.proofs.metrics.push_head.Goals as goal

pub returns : goal.returns
unfolding metric_head
returns c =
    also c.push_type.result (string_bytes c.args.text.now) (help_line c.args.metric.now.name.now c.args.metric.now.help.now) _ _ _ c.in_ok-push_help.ensures (
    on_ok_weaker c.push_type.result (λ h. h ∙ ap (λ x. string_bytes c.push_help.new.text ++ type_line c.args.metric.now.name.now x) c.kind_word.ensures) c.push_type.ensures)
