use Rattle.std.specs.Prelude.{codes}
use Rattle.std.specs.String.{string_bytes}
use Rattle.status_page.specs.Json.{member, progress_json}
use Rattle.status_page.proofs.Lists.{also}
use Rattle.status_page.proofs.json_dests.push_progress.Goals as goal

pub returns : goal.returns
unfolding progress_json
returns c =
    also c.push_member-5.result (string_bytes c.args.text.now) (member (codes "writes") c.args.dest.now.writes.writes) _ _ _ c.in_ok-push_member.ensures (
    also c.push_member-5.result (string_bytes c.push_member.new.text) (member (codes "written_bytes") c.args.dest.now.writes.bytes) _ _ _ c.in_ok-push_member-2.ensures (
    also c.push_member-5.result (string_bytes c.push_member-2.new.text) (member (codes "last_write_timestamp_seconds") c.args.dest.now.written_at) _ _ _ c.in_ok-push_member-3.ensures (
    also c.push_member-5.result (string_bytes c.push_member-3.new.text) (member (codes "stalled_seconds") c.args.dest.now.stalled) _ _ _ c.in_ok-push_member-4.ensures (
    c.push_member-5.ensures))))
