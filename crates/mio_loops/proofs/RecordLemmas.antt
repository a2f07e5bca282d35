-- What a reader was fed and offered is its record.
use Rattle.std.proofs.Common.{◌≡◌, ◌≤◌, ℕ, List, [], ◌∷◌, ◌++◌, length, sym, ap, ◌∙◌, arith}
use Rattle.std.proofs.lemmas.List.{length-append}
use Rattle.dest_queue.specs.RecordedStep.{RecordedStep, Offered, Took}
use Rattle.reader_core.specs.Configuration.{Dispatch, sends}
use Rattle.reader_core.specs.Entries.{input_after_entries}
use Rattle.reader_core.specs.Input.{fresh_input}
use Rattle.reader_core.specs.Kinds.{relay_reading}
use Rattle.reader_core.specs.Offers.{offers_of_point}
use Rattle.reader_core.specs.PlanConfiguration.{PlanSends, configuration_of}
use Rattle.reader_core.specs.Reading.{accepted_of}
use Rattle.reader_core.specs.Record.{dispatches_of, all_dispatches}
use Rattle.dest_queue.specs.Numbered.{NumberedStep}
use Rattle.mio_loops.specs.ReadLaws.{RecordLaw}
use Rattle.mio_loops.proofs.ReadingLemmas.{before-more, flat_map-same}

-- a step is one offer at most
one-dispatch : (dest : ℕ) (step : RecordedStep) → length (dispatches_of dest step) ≤ 1
one-dispatch dest (Offered reader number point kept) = omega arith
one-dispatch dest (Took limit taken) = omega arith

few-dispatches : (steps : List NumberedStep) → length (all_dispatches steps) ≤ length steps
few-dispatches [] = omega arith
few-dispatches (x ∷ steps) =
    let first = one-dispatch x.dest x.step in
    let few = few-dispatches steps in
    let all = length-append (dispatches_of x.dest x.step) (all_dispatches steps) in
    omega (arith, first, few, all)

pub is-record : PlanSends → RecordLaw
is-record law plan size limit kind entries made old new steps represents goes same =
    let c = configuration_of plan size limit in
    let input = input_after_entries kind entries (fresh_input kind) in
    let read = goes kind (fresh_input kind) [] represents in
    let few = few-dispatches steps in
    let count : length (all_dispatches steps) ≡ length made = ap length same in
    let within : length made ≤ length steps = omega (arith, few, count) in
    record {
      stays_open = read.stays_open size limit;
      lacking = new.waiting;
      offers =
          flat_map-same (sends c) (offers_of_point plan) (law plan size limit) (accepted_of relay_reading kind input)
          ∙ read.represents.waiting ∙ ap (λ (ds : List Dispatch). ds ++ new.waiting) (sym same);
      of_last = before-more c kind (length made) (length steps) entries (fresh_input kind) within (read.made_before size limit);
    }
