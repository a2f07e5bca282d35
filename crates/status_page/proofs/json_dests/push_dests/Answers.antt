use Rattle.std.specs.String.{string_bytes}
use Rattle.status_page.specs.Json.{dest_json}
use Rattle.status_page.proofs.Listed.{none_listed, some_listed}
use Rattle.status_page.proofs.json_dests.push_dests.Goals as goal

pub returns-in_default : goal.returns-in_default
returns-in_default c =
    none_listed dest_json (string_bytes c.args.text.now) c.args.dests.now c.in_default.ensures.cases

pub returns : goal.returns
returns c =
    some_listed c.push_other_dests.result dest_json (string_bytes c.args.text.now) (string_bytes c.push_dest.new.text) _ c.args.dests.now c.in-Some.first.now c.in-Some.others.now c.in-Some.ensures.cases.0 c.in_ok-push_dest.ensures c.push_other_dests.ensures
