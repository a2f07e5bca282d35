use Rattle.std.specs.Prelude.{codes}
use Rattle.std.specs.String.{string_bytes}
use Rattle.status_page.specs.Json.{listed, receiver_json, receiver_list}
use Rattle.status_page.proofs.Lists.{also, last}
use Rattle.status_page.proofs.json.push_receiver_list.Goals as goal

pub returns : goal.returns
unfolding receiver_list
returns c =
    also c.push_str-2.result (string_bytes c.args.text.now) (codes ",\"receivers\":[") _ _ _ c.in_ok-push_str.ensures.bytes (
    also c.push_str-2.result (string_bytes c.push_str.new.self) (listed receiver_json c.args.receivers.now) _ _ _ c.in_ok-push_receivers.ensures (
    last c.push_str-2.result (string_bytes c.push_receivers.new.text) (codes "]") _ c.push_str-2.ensures.bytes))
