use Rattle.std.proofs.Common.{◌++◌, ap, ◌∙◌}
use Rattle.std.proofs.lemmas.Result.{on_ok_weaker}
use Rattle.std.specs.String.{string_bytes}
use Rattle.status_page.specs.Plain.{plain_text}
use Rattle.status_page.specs.Metrics.{build_labels, build_sample}
use Rattle.status_page.proofs.Lists.{also}
use Rattle.status_page.proofs.metrics.push_build.Goals as goal

pub returns : goal.returns
unfolding build_sample
returns c =
    also c.push_build_labels.result (string_bytes c.args.text.now) c.args.name.now _ _ _ c.in_ok-push_str.ensures.bytes (
    on_ok_weaker c.push_build_labels.result (λ h. h
    ∙ ap (λ x. string_bytes c.push_str.new.self ++ build_labels x c.plain-2.result.now) (c.plain.ensures ∙ ap plain_text c.as_str.ensures.value)
    ∙ ap (λ x. string_bytes c.push_str.new.self ++ build_labels (plain_text (string_bytes c.args.now.now.version)) x) (c.plain-2.ensures ∙ ap plain_text c.as_str-2.ensures.value))
    c.push_build_labels.ensures)
