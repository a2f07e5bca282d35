use Rattle.std.specs.Prelude.{codes}
use Rattle.std.specs.String.{string_bytes}
use Rattle.status_page.specs.Json.{connection_json, truth_json}
use Rattle.status_page.proofs.Lists.{also}
use Rattle.status_page.proofs.json_dests.push_connection.Goals as goal

pub returns : goal.returns
unfolding connection_json
returns c =
    also c.push_member.result (string_bytes c.args.text.now) (codes ",\"connected\":") _ _ _ c.in_ok-push_str.ensures.bytes (
    also c.push_member.result (string_bytes c.push_str.new.self) (truth_json c.args.dest.now.is_up) _ _ _ c.in_ok-push_truth.ensures (
    c.push_member.ensures))
