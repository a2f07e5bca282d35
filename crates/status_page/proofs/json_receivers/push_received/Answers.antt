use Rattle.std.specs.Prelude.{codes}
use Rattle.std.specs.String.{string_bytes}
use Rattle.status_page.specs.Json.{member, bad_json, accepted_json, received_json}
use Rattle.status_page.proofs.Lists.{also}
use Rattle.status_page.proofs.json_receivers.push_received.Goals as goal

pub returns : goal.returns
unfolding received_json
returns c =
    also c.push_member-2.result (string_bytes c.args.text.now) (accepted_json c.args.counts.now) _ _ _ c.in_ok-push_accepted.ensures (
    also c.push_member-2.result (string_bytes c.push_accepted.new.text) (bad_json c.args.counts.now) _ _ _ c.in_ok-push_bad.ensures (
    also c.push_member-2.result (string_bytes c.push_bad.new.text) (member (codes "emptied_names") c.args.counts.now.emptied) _ _ _ c.in_ok-push_member.ensures (
    c.push_member-2.ensures)))
