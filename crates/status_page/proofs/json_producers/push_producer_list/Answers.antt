use Rattle.std.specs.Prelude.{codes}
use Rattle.std.specs.String.{string_bytes}
use Rattle.status_page.specs.Json.{listed, producer_json, producer_list}
use Rattle.status_page.proofs.Lists.{also, last}
use Rattle.status_page.proofs.json_producers.push_producer_list.Goals as goal

pub returns : goal.returns
unfolding producer_list
returns c =
    also c.push_str-2.result (string_bytes c.args.text.now) (codes ",\"producers\":[") _ _ _ c.in_ok-push_str.ensures.bytes (
    also c.push_str-2.result (string_bytes c.push_str.new.self) (listed producer_json c.args.producers.now) _ _ _ c.in_ok-push_producers.ensures (
    last c.push_str-2.result (string_bytes c.push_producers.new.text) (codes "]") _ c.push_str-2.ensures.bytes))
