use Rattle.std.specs.Prelude.{codes}
use Rattle.std.specs.String.{string_bytes}
use Rattle.status_page.specs.Json.{member, producer_rates_json}
use Rattle.status_page.proofs.Lists.{also}
use Rattle.status_page.proofs.json_producers.push_rates.Goals as goal

pub returns : goal.returns
unfolding producer_rates_json
returns c =
    also c.push_member-3.result (string_bytes c.args.text.now) (member (codes "datapoints_per_second") c.args.rates.datapoints) _ _ _ c.in_ok-push_member.ensures (
    also c.push_member-3.result (string_bytes c.push_member.new.text) (member (codes "bytes_per_second") c.args.rates.bytes) _ _ _ c.in_ok-push_member-2.ensures (
    c.push_member-3.ensures))
