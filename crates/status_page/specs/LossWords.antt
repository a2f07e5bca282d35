-- What the reasons of a loss are called.
use Rattle.std.specs.Prelude.{ℕ, List, codes}
use Rattle.log_lines.specs.declared.losses.LossReason.{LossReason}
use Rattle.log_lines.specs.declared.losses.LossReason.TheVariants as reason

-- the name of a reason, in the metrics and in JSON
unfoldable pub loss_name : LossReason → List ℕ
loss_name reason.Overlong = codes "overlong"
loss_name reason.Unfinished = codes "unfinished"
loss_name reason.Idle = codes "idle"
loss_name reason.MemoryShort = codes "memory_short"
loss_name reason.Broken = codes "broken"
loss_name reason.SystemDrop = codes "system_drop"
