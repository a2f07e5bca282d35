use Rattle.std.specs.Prelude.{codes}
use Rattle.std.specs.String.{string_bytes}
use Rattle.status_page.specs.Json.{dest_name, dest_numbers, last_error_json, connection_counts_json, progress_json, spool_json, dest_json}
use Rattle.status_page.proofs.Lists.{also, last}
use Rattle.status_page.proofs.json_dests.push_dest.Goals as goal

pub returns : goal.returns
unfolding dest_json
returns c =
    also c.push_str.result (string_bytes c.args.text.now) (dest_name c.args.dest.now) _ _ _ c.in_ok-push_dest_name.ensures (
    also c.push_str.result (string_bytes c.push_dest_name.new.text) (dest_numbers c.args.dest.now) _ _ _ c.in_ok-push_dest_numbers.ensures (
    also c.push_str.result (string_bytes c.push_dest_numbers.new.text) (last_error_json c.args.dest.now.last_error) _ _ _ c.in_ok-push_last_error.ensures (
    also c.push_str.result (string_bytes c.push_last_error.new.text) (connection_counts_json c.args.dest.now.connections) _ _ _ c.in_ok-push_connection_counts.ensures (
    also c.push_str.result (string_bytes c.push_connection_counts.new.text) (progress_json c.args.dest.now) _ _ _ c.in_ok-push_progress.ensures (
    also c.push_str.result (string_bytes c.push_progress.new.text) (spool_json c.args.dest.now.spool) _ _ _ c.in_ok-push_spool.ensures (
    last c.push_str.result (string_bytes c.push_spool.new.text) (codes "}") _ c.push_str.ensures.bytes))))))
