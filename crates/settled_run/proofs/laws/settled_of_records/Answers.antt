use Rattle.settled_run.specs.Settled.{logged_in}
use Rattle.settled_run.proofs.Together.{agrees, counts}
use Rattle.settled_run.proofs.laws.settled_of_records.Goals as goal

pub returns-clause-run : goal.returns-clause-run
returns-clause-run c = λ plan size limit x queues ran.
    c.one_run.ensures plan size limit (logged_in size x queues) x.order (agrees plan size limit x queues ran)

pub returns-clause-counts : goal.returns-clause-counts
returns-clause-counts c = λ plan size limit x queues ran.
    counts plan size limit x queues ran
    (c.one_run.ensures plan size limit (logged_in size x queues) x.order (agrees plan size limit x queues ran))
