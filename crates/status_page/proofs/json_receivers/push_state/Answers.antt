use Rattle.std.specs.Prelude.{codes}
use Rattle.std.specs.String.{string_bytes}
use Rattle.status_page.specs.Json.{state_word, state_json}
use Rattle.status_page.proofs.Lists.{also}
use Rattle.status_page.proofs.json_receivers.push_state.Goals as goal

pub returns : goal.returns
unfolding state_json
returns c =
    also c.push_state_error.result (string_bytes c.args.text.now) (codes ",\"state\":\"") _ _ _ c.in_ok-push_str.ensures.bytes (
    also c.push_state_error.result (string_bytes c.push_str.new.self) (state_word c.args.state) _ _ _ c.in_ok-push_state_word.ensures (
    also c.push_state_error.result (string_bytes c.push_state_word.new.text) (codes "\",\"last_error\":") _ _ _ c.in_ok-push_str-2.ensures.bytes (
    c.push_state_error.ensures)))
