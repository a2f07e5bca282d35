use Rattle.std.specs.Prelude.{codes}
use Rattle.std.specs.String.{string_bytes}
use Rattle.status_page.specs.Json.{member, connection_counts_json}
use Rattle.status_page.proofs.Lists.{also}
use Rattle.status_page.proofs.json_dests.push_connection_counts.Goals as goal

pub returns : goal.returns
unfolding connection_counts_json
returns c =
    also c.push_member-4.result (string_bytes c.args.text.now) (member (codes "connections") c.args.counts.now.made) _ _ _ c.in_ok-push_member.ensures (
    also c.push_member-4.result (string_bytes c.push_member.new.text) (member (codes "connection_losses") c.args.counts.now.lost) _ _ _ c.in_ok-push_member-2.ensures (
    also c.push_member-4.result (string_bytes c.push_member-2.new.text) (member (codes "losses_last_minute") c.args.counts.now.lost_lately) _ _ _ c.in_ok-push_member-3.ensures (
    c.push_member-4.ensures)))
