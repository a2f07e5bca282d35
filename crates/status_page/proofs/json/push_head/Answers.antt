use Rattle.std.proofs.Common.{◌++◌, ap, ◌∙◌}
use Rattle.std.specs.String.{string_bytes}
use Rattle.status_page.specs.Plain.{plain_text}
use Rattle.status_page.specs.Headline.{headline}
use Rattle.status_page.specs.Json.{sizes_json, host_json, headline_json, head_json, version_json}
use Rattle.status_page.proofs.Lists.{also}
use Rattle.status_page.proofs.json.push_head.Goals as goal

pub returns : goal.returns
unfolding head_json
returns c =
    also c.push_totals.result (string_bytes c.args.text.now) (version_json (plain_text (string_bytes c.args.now.now.version))) _ _ _ (c.in_ok-push_version.ensures ∙ ap (λ x. string_bytes c.args.text.now ++ version_json x) (c.plain.ensures ∙ ap plain_text c.as_str.ensures.value)) (
    also c.push_totals.result (string_bytes c.push_version.new.text) (sizes_json c.args.now.now) _ _ _ c.in_ok-push_sizes.ensures (
    also c.push_totals.result (string_bytes c.push_sizes.new.text) (host_json (plain_text (string_bytes c.args.now.now.host))) _ _ _ (c.in_ok-push_host.ensures ∙ ap (λ x. string_bytes c.push_sizes.new.text ++ host_json x) (c.plain-2.ensures ∙ ap plain_text c.as_str-2.ensures.value)) (
    also c.push_totals.result (string_bytes c.push_host.new.text) (headline_json (headline c.args.now.now)) _ _ _ (c.in_ok-push_headline.ensures ∙ ap (λ x. string_bytes c.push_host.new.text ++ headline_json x) c.headline_of.ensures) (
    c.push_totals.ensures))))
