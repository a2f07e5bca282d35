use Rattle.std.specs.String.{string_bytes}
use Rattle.status_page.specs.Metrics.{receiver_part, reason_label}
use Rattle.status_page.proofs.Lists.{also}
use Rattle.status_page.proofs.receiver_metrics.push_reason_label.Goals as goal

pub returns : goal.returns
unfolding reason_label
returns c =
    also c.push_reason_part.result (string_bytes c.args.text.now) (receiver_part c.args.receiver.now) _ _ _ c.in_ok-push_receiver_part.ensures (
    c.push_reason_part.ensures)
