use Rattle.std.specs.Prelude.{codes}
use Rattle.std.specs.String.{string_bytes}
use Rattle.status_page.specs.Json.{listed, sample_json, sample_list}
use Rattle.status_page.proofs.Lists.{also, last}
use Rattle.status_page.proofs.json.push_sample_list.Goals as goal

pub returns : goal.returns
unfolding sample_list
returns c =
    also c.push_str-2.result (string_bytes c.args.text.now) (codes ",\"samples\":[") _ _ _ c.in_ok-push_str.ensures.bytes (
    also c.push_str-2.result (string_bytes c.push_str.new.self) (listed sample_json c.args.samples.now) _ _ _ c.in_ok-push_samples.ensures (
    last c.push_str-2.result (string_bytes c.push_samples.new.text) (codes "]") _ c.push_str-2.ensures.bytes))
