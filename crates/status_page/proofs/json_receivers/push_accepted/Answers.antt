use Rattle.std.specs.Prelude.{codes}
use Rattle.std.specs.String.{string_bytes}
use Rattle.status_page.specs.Json.{member, accepted_json}
use Rattle.status_page.proofs.Lists.{also}
use Rattle.status_page.proofs.json_receivers.push_accepted.Goals as goal

pub returns : goal.returns
unfolding accepted_json
returns c =
    also c.push_member-2.result (string_bytes c.args.text.now) (member (codes "connections") c.args.counts.now.connections) _ _ _ c.in_ok-push_member.ensures (
    c.push_member-2.ensures)
