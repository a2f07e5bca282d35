use Rattle.std.proofs.Common.{◌≡◌, ◌++◌, take, flat_map, string_bytes}
use Rattle.log_lines.specs.declared.losses.TheConstants.{LOSS_REASONS}
use Rattle.status_page.specs.Json.{loss_json}
use Rattle.status_page.proofs.json_receivers.push_losses.Given as goal

-- the reasons before this one are there
abbrev pub invariant-loop-reason : goal.invariant-loop-reason
invariant-loop-reason l = string_bytes l.text ≡ string_bytes l.initial.text ++ flat_map (loss_json l.losses) (take l.reason-index LOSS_REASONS)
