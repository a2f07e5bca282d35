use Rattle.std.specs.String.{string_bytes}
use Rattle.status_page.specs.Json.{receiver_json}
use Rattle.status_page.proofs.Listed.{none_listed, some_listed}
use Rattle.status_page.proofs.json_receivers.push_receivers.Goals as goal

pub returns-in_default : goal.returns-in_default
returns-in_default c =
    none_listed receiver_json (string_bytes c.args.text.now) c.args.receivers.now c.in_default.ensures.cases

pub returns : goal.returns
returns c =
    some_listed c.push_other_receivers.result receiver_json (string_bytes c.args.text.now) (string_bytes c.push_receiver.new.text) _ c.args.receivers.now c.in-Some.first.now c.in-Some.others.now c.in-Some.ensures.cases.0 c.in_ok-push_receiver.ensures c.push_other_receivers.ensures
