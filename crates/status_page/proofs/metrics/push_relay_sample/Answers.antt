use Rattle.std.proofs.Common.{◌++◌, ap, ◌∙◌}
use Rattle.std.proofs.lemmas.Result.{on_ok_weaker}
use Rattle.std.specs.Prelude.{codes}
use Rattle.std.specs.String.{string_bytes}
use Rattle.status_page.specs.MetricTable.{relay_value}
use Rattle.status_page.specs.Metrics.{value_line, relay_sample}
use Rattle.status_page.proofs.Lists.{also}
use Rattle.status_page.proofs.metrics.push_relay_sample.Goals as goal

pub returns : goal.returns
unfolding relay_sample
returns c =
    also c.push_value.result (string_bytes c.args.text.now) (c.args.name.now) _ _ _ c.in_ok-push_str.ensures.bytes (
    also c.push_value.result (string_bytes c.push_str.new.self) (codes " ") _ _ _ c.in_ok-push_str-2.ensures.bytes (
    on_ok_weaker c.push_value.result (λ h. h ∙ (ap (λ x. string_bytes c.push_str-2.new.self ++ value_line x c.relay_scale.result.now) c.relay_value.ensures ∙ ap (λ x. string_bytes c.push_str-2.new.self ++ value_line (relay_value c.args.metric c.args.now.now) x) c.relay_scale.ensures)) c.push_value.ensures))
