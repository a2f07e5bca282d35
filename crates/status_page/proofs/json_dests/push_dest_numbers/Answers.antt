use Rattle.std.specs.String.{string_bytes}
use Rattle.status_page.specs.Json.{counts_json, connection_json, dest_numbers}
use Rattle.status_page.proofs.Lists.{also}
use Rattle.status_page.proofs.json_dests.push_dest_numbers.Goals as goal

pub returns : goal.returns
unfolding dest_numbers
returns c =
    also c.push_rates.result (string_bytes c.args.text.now) (connection_json c.args.dest.now) _ _ _ c.in_ok-push_connection.ensures (
    also c.push_rates.result (string_bytes c.push_connection.new.text) (counts_json c.args.dest.now.counts) _ _ _ c.in_ok-push_counts.ensures (
    c.push_rates.ensures))
