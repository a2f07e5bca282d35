use Rattle.std.specs.Prelude.{codes}
use Rattle.std.specs.String.{string_bytes}
use Rattle.status_page.specs.Json.{member, spool_json}
use Rattle.status_page.proofs.Lists.{also}
use Rattle.status_page.proofs.json_dests.push_spool.Goals as goal

pub returns : goal.returns
unfolding spool_json
returns c =
    also c.push_full.result (string_bytes c.args.text.now) (member (codes "spool_datapoints") c.args.spool.now.datapoints) _ _ _ c.in_ok-push_member.ensures (
    also c.push_full.result (string_bytes c.push_member.new.text) (member (codes "spool_bytes") c.args.spool.now.bytes) _ _ _ c.in_ok-push_member-2.ensures (
    also c.push_full.result (string_bytes c.push_member-2.new.text) (member (codes "spool_age_seconds") c.args.spool.now.age) _ _ _ c.in_ok-push_member-3.ensures (
    also c.push_full.result (string_bytes c.push_member-3.new.text) (member (codes "spool_datapoints_per_second") c.args.spool.now.rate) _ _ _ c.in_ok-push_member-4.ensures (
    also c.push_full.result (string_bytes c.push_member-4.new.text) (member (codes "spool_room_bytes") c.args.spool.now.room) _ _ _ c.in_ok-push_member-5.ensures (
    c.push_full.ensures)))))
