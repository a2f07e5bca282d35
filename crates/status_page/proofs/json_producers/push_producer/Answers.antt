use Rattle.std.proofs.Common.{◌++◌, ap, ◌∙◌}
use Rattle.std.specs.Prelude.{codes}
use Rattle.std.specs.String.{string_bytes}
use Rattle.status_page.specs.Plain.{plain_address}
use Rattle.status_page.specs.Json.{member, producer_address, producer_rates_json, producer_json}
use Rattle.status_page.proofs.Lists.{also, last}
use Rattle.status_page.proofs.json_producers.push_producer.Goals as goal

pub returns : goal.returns
unfolding producer_json
returns c =
    also c.push_str.result (string_bytes c.args.text.now) (producer_address (plain_address (string_bytes c.args.producer.now.address))) _ _ _ (c.in_ok-push_address.ensures ∙ ap (λ x. string_bytes c.args.text.now ++ producer_address x) (c.plain_address.ensures ∙ ap plain_address c.as_str.ensures.value)) (
    also c.push_str.result (string_bytes c.push_address.new.text) (producer_rates_json c.args.producer.now.rates) _ _ _ c.in_ok-push_rates.ensures (
    also c.push_str.result (string_bytes c.push_rates.new.text) (member (codes "connections") c.args.producer.now.connections) _ _ _ c.in_ok-push_member.ensures (
    also c.push_str.result (string_bytes c.push_member.new.text) (member (codes "connected_seconds") c.args.producer.now.age) _ _ _ c.in_ok-push_member-2.ensures (
    last c.push_str.result (string_bytes c.push_member-2.new.text) (codes "}") _ c.push_str.ensures.bytes))))
