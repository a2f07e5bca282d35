use Rattle.std.specs.Prelude.{codes}
use Rattle.std.specs.String.{string_bytes}
use Rattle.status_page.specs.Json.{last_error_json}
use Rattle.status_page.proofs.Lists.{also}
use Rattle.status_page.proofs.json_dests.push_last_error.Goals as goal

pub returns : goal.returns
unfolding last_error_json
returns c =
    also c.push_error.result (string_bytes c.args.text.now) (codes ",\"last_error\":") _ _ _ c.in_ok-push_str.ensures.bytes (
    c.push_error.ensures)
