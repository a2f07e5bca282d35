-- What a stored step records.
use Rattle.dest_queue.specs.declared.step.Step.{Step}
use Rattle.dest_queue.specs.declared.step.Step.TheVariants.{Offer, Take}
use Rattle.dest_queue.specs.RecordedStep.{RecordedStep, Offered, Took}

abbrev pub recorded_of : Step → RecordedStep
recorded_of (Offer reader kept number point) = Offered reader number point kept
recorded_of (Take limit taken) = Took limit taken
