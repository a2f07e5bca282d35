-- What the records of doors and outlets say was done.
use Rattle.std.specs.Prelude.{ℕ, ◌≡◌, List, ◌++◌, map}
use Rattle.dest_queue.specs.RecordedStep.{RecordedStep}
use Rattle.common_orders.specs.CommonOrder.{IsCommonOrder}
use Rattle.queue_records.specs.Made.{offer_of}
use Rattle.queue_records.specs.TakenBatch.{take_of}
use Rattle.dest_queue.specs.Numbered.{history_numbers}
use Rattle.queue_records.specs.Numbered.{StepAt, step_of_offer, step_of_take, AreStepsOf}
use Rattle.queue_records.specs.declared.door_record.DoorRecord.{DoorRecord}
use Rattle.queue_records.specs.declared.outlet_record.OutletRecord.{OutletRecord}

abbrev pub steps_of_door : DoorRecord → List StepAt
steps_of_door r = map (λ made. step_of_offer (offer_of made)) r.made.items

abbrev pub steps_of_outlet : OutletRecord → List StepAt
steps_of_outlet r = map (λ taken. step_of_take (take_of taken)) r.takes.items

-- door by door, then outlet by outlet
abbrev pub steps_of_records : List DoorRecord → List OutletRecord → List (List StepAt)
steps_of_records doors outlets = map steps_of_door doors ++ map steps_of_outlet outlets

-- the lists of numbers are those of the histories' steps and those of the records', which are the same steps
pub record AreOrderLists (readers : ℕ) (histories : List (List RecordedStep))
    (doors : List DoorRecord) (outlets : List OutletRecord) (lists : List (List ℕ)) : Type 0 where
  pub numbers : List (List ℕ)
  pub steps : AreStepsOf readers histories (steps_of_records doors outlets) numbers
  pub all : lists ≡ history_numbers 0 histories ++ numbers

-- histories and records of a set with this number of readers settle by this order: it is a common order of the histories'
-- steps and of each record's
pub record SettlesBy (readers : ℕ) (histories : List (List RecordedStep)) (doors : List DoorRecord)
    (outlets : List OutletRecord) (order : List ℕ) : Type 0 where
  pub lists : List (List ℕ)
  pub are : AreOrderLists readers histories doors outlets lists
  pub common : IsCommonOrder lists order
