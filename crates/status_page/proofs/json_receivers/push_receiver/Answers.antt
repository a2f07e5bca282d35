use Rattle.std.specs.Prelude.{codes}
use Rattle.std.specs.String.{string_bytes}
use Rattle.status_page.specs.Json.{state_json, received_json, losses_json, receiver_rates_json, receiver_name, receiver_json}
use Rattle.status_page.proofs.Lists.{also, last}
use Rattle.status_page.proofs.json_receivers.push_receiver.Goals as goal

pub returns : goal.returns
unfolding receiver_json
returns c =
    also c.push_str.result (string_bytes c.args.text.now) (receiver_name c.args.receiver.now) _ _ _ c.in_ok-push_receiver_name.ensures (
    also c.push_str.result (string_bytes c.push_receiver_name.new.text) (state_json c.args.receiver.now.state) _ _ _ c.in_ok-push_state.ensures (
    also c.push_str.result (string_bytes c.push_state.new.text) (received_json c.args.receiver.now.counts) _ _ _ c.in_ok-push_received.ensures (
    also c.push_str.result (string_bytes c.push_received.new.text) (losses_json c.args.receiver.now.losses) _ _ _ c.in_ok-push_losses.ensures (
    also c.push_str.result (string_bytes c.push_losses.new.text) (receiver_rates_json c.args.receiver.now) _ _ _ c.in_ok-push_receiver_rates.ensures (
    last c.push_str.result (string_bytes c.push_receiver_rates.new.text) (codes "}") _ c.push_str.ensures.bytes)))))
