use Rattle.std.proofs.Common.{◌≡◌, ◌++◌, take, flat_map, string_bytes}
use Rattle.status_page.specs.Metrics.{loss_samples}
use Rattle.status_page.proofs.receiver_metrics.push_loss_samples.Given as goal

-- the reasons before this one are there
abbrev pub invariant-loop-reason : goal.invariant-loop-reason
invariant-loop-reason l = string_bytes l.text ≡ string_bytes l.initial.text ++ flat_map (loss_samples l.name l.receivers) (take l.reason-index l.reasons)
