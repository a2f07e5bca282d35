use Rattle.std.specs.String.{string_bytes}
use Rattle.status_page.specs.Json.{producer_json}
use Rattle.status_page.proofs.Listed.{none_listed, some_listed}
use Rattle.status_page.proofs.json_producers.push_producers.Goals as goal

pub returns-in_default : goal.returns-in_default
returns-in_default c =
    none_listed producer_json (string_bytes c.args.text.now) c.args.producers.now c.in_default.ensures.cases

pub returns : goal.returns
returns c =
    some_listed c.push_more_producers.result producer_json (string_bytes c.args.text.now) (string_bytes c.push_producer.new.text) _ c.args.producers.now c.in-Some.first.now c.in-Some.others.now c.in-Some.ensures.cases.0 c.in_ok-push_producer.ensures c.push_more_producers.ensures
