use Rattle.std.specs.Prelude.{codes}
use Rattle.std.specs.String.{string_bytes}
use Rattle.status_page.specs.Json.{other_addresses, producer_rates_json, other_producers_json}
use Rattle.status_page.proofs.Lists.{also, last}
use Rattle.status_page.proofs.json_producers.push_other_producers.Goals as goal

pub returns : goal.returns
unfolding other_producers_json
returns c =
    also c.push_str.result (string_bytes c.args.text.now) (other_addresses c.args.others.addresses) _ _ _ c.in_ok-push_other_addresses.ensures (
    also c.push_str.result (string_bytes c.push_other_addresses.new.text) (producer_rates_json c.args.others.rates) _ _ _ c.in_ok-push_rates.ensures (
    last c.push_str.result (string_bytes c.push_rates.new.text) (codes "}") _ c.push_str.ensures.bytes))
