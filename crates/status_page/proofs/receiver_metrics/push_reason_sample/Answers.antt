use Rattle.std.proofs.Common.{◌++◌, ap, ◌∙◌}
use Rattle.std.proofs.lemmas.Result.{on_ok_weaker}
use Rattle.std.specs.Prelude.{codes}
use Rattle.std.specs.String.{string_bytes}
use Rattle.status_page.specs.Plain.{plain_text}
use Rattle.status_page.specs.Metrics.{value_line, reason_label, reason_sample}
use Rattle.status_page.proofs.Lists.{also}
use Rattle.status_page.proofs.receiver_metrics.push_reason_sample.Goals as goal

pub returns : goal.returns
unfolding reason_sample
returns c =
    also c.push_value.result (string_bytes c.args.text.now) (c.args.name.now) _ _ _ c.in_ok-push_str.ensures.bytes (
    also c.push_value.result (string_bytes c.push_str.new.self) (reason_label (plain_text (string_bytes c.args.receiver.now.name)) c.args.reason.now) _ _ _ (c.in_ok-push_reason_label.ensures ∙ ap (λ x. string_bytes c.push_str.new.self ++ reason_label x c.args.reason.now) (c.plain.ensures ∙ ap plain_text c.as_str.ensures.value)) (
    on_ok_weaker c.push_value.result (λ h. h ∙ ap (λ x. string_bytes c.push_reason_label.new.text ++ value_line x (codes "")) c.receiver_value.ensures) c.push_value.ensures))
