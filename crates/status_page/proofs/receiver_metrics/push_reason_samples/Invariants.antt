use Rattle.std.proofs.Common.{◌≡◌, ◌++◌, take, flat_map, string_bytes}
use Rattle.status_page.specs.Metrics.{reason_sample}
use Rattle.status_page.proofs.receiver_metrics.push_reason_samples.Given as goal

-- the receivers before this one are there
abbrev pub invariant-loop-receiver : goal.invariant-loop-receiver
invariant-loop-receiver l = string_bytes l.text ≡ string_bytes l.initial.text ++ flat_map (reason_sample l.name l.metric l.reason) (take l.receiver-index l.receivers)
