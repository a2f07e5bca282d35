use Rattle.std.specs.Prelude.{codes}
use Rattle.std.specs.String.{string_bytes}
use Rattle.status_page.specs.Json.{member, sizes_json}
use Rattle.status_page.proofs.Lists.{also}
use Rattle.status_page.proofs.json.push_sizes.Goals as goal

pub returns : goal.returns
unfolding sizes_json
returns c =
    also c.push_member-2.result (string_bytes c.args.text.now) (member (codes "uptime_seconds") c.args.now.now.uptime) _ _ _ c.in_ok-push_member.ensures (
    c.push_member-2.ensures)
