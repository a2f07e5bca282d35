-- What a comparison answers.
use Rattle.std.specs.Prelude.{ℕ, List, map}
use Rattle.dest_queue.specs.RecordedStep.{RecordedStep}
use Rattle.queue_records.specs.Records.{AreOrderLists}
use Rattle.queue_records.specs.declared.door_record.DoorRecord.{DoorRecord}
use Rattle.queue_records.specs.declared.outlet_record.OutletRecord.{OutletRecord}
use Rattle.queue_records.specs.declared.order_lists.OrderLists.{OrderLists}
use Rattle.queue_records.specs.declared.order_lists.OrderLists.TheVariants.{Agree, Differ}

-- if histories and records agree, the lists are those of their steps
abbrev pub IfAgree : ℕ → List (List RecordedStep) → List DoorRecord → List OutletRecord
    → OrderLists → Type 0
IfAgree readers histories doors outlets (Agree lists) =
    AreOrderLists readers histories doors outlets (map (λ list. list.items) lists.items)
IfAgree readers histories doors outlets (Differ difference) = Unit {0}
