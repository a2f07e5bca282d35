use Rattle.std.proofs.Common.{◌++◌, ap, ◌∙◌}
use Rattle.std.proofs.lemmas.Result.{on_ok_weaker}
use Rattle.std.specs.Prelude.{codes}
use Rattle.std.specs.String.{string_bytes}
use Rattle.status_page.specs.Metrics.{value_line, receiver_label, receiver_sample}
use Rattle.status_page.proofs.Lists.{also}
use Rattle.status_page.proofs.receiver_metrics.push_receiver_sample.Goals as goal

pub returns : goal.returns
unfolding receiver_sample
returns c =
    also c.push_value.result (string_bytes c.args.text.now) (c.args.name.now) _ _ _ c.in_ok-push_str.ensures.bytes (
    also c.push_value.result (string_bytes c.push_str.new.self) (receiver_label c.args.receiver.now) _ _ _ c.in_ok-push_receiver_label.ensures (
    on_ok_weaker c.push_value.result (λ h. h ∙ ap (λ x. string_bytes c.push_receiver_label.new.text ++ value_line x (codes "")) c.receiver_value.ensures) c.push_value.ensures))
