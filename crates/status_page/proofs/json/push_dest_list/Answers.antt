use Rattle.std.specs.Prelude.{codes}
use Rattle.std.specs.String.{string_bytes}
use Rattle.status_page.specs.Json.{listed, dest_json, dest_list}
use Rattle.status_page.proofs.Lists.{also, last}
use Rattle.status_page.proofs.json.push_dest_list.Goals as goal

pub returns : goal.returns
unfolding dest_list
returns c =
    also c.push_str-2.result (string_bytes c.args.text.now) (codes ",\"destinations\":[") _ _ _ c.in_ok-push_str.ensures.bytes (
    also c.push_str-2.result (string_bytes c.push_str.new.self) (listed dest_json c.args.dests.now) _ _ _ c.in_ok-push_dests.ensures (
    last c.push_str-2.result (string_bytes c.push_dests.new.text) (codes "]") _ c.push_str-2.ensures.bytes))
