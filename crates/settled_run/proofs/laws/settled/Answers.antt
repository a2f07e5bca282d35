use Rattle.settled_run.specs.Settled.{logged_in, events_left}
use Rattle.settled_run.proofs.BytesWoven.{bytes_of_run}
use Rattle.settled_run.proofs.ThreadsPromised.{settled_by}
use Rattle.settled_run.proofs.laws.settled.Goals as goal

pub returns-clause-run : goal.returns-clause-run
returns-clause-run c = λ plan size limit x queues promises.
    c.settled_of_records.ensures.run plan size limit x queues
    (settled_by c.route_stays_below.ensures c.is_record.ensures c.unsealed_is_written.ensures c.unsealed_has_takes.ensures plan size limit x queues promises)

pub returns-clause-counts : goal.returns-clause-counts
returns-clause-counts c = λ plan size limit x queues promises.
    c.settled_of_records.ensures.counts plan size limit x queues
    (settled_by c.route_stays_below.ensures c.is_record.ensures c.unsealed_is_written.ensures c.unsealed_has_takes.ensures plan size limit x queues promises)

pub returns-clause-passes_on : goal.returns-clause-passes_on
returns-clause-passes_on c = λ plan size limit x queues promises.
    c.prefix.ensures plan size limit (logged_in size x queues).kinds (events_left plan size limit x queues)

pub returns-clause-isolated : goal.returns-clause-isolated
returns-clause-isolated c = λ plan other size limit other_size other_limit x y queues other_queues promises other_promises d within other_within agrees.
    c.isolated.ensures plan other size limit other_size other_limit (logged_in size x queues).kinds (logged_in other_size y other_queues).kinds
    (events_left plan size limit x queues) (events_left other other_size other_limit y other_queues) d within other_within agrees

pub returns-clause-bytes : goal.returns-clause-bytes
returns-clause-bytes c = λ plan size limit x queues promises.
    bytes_of_run c.unsealed_has_all.ensures plan size limit x queues promises
    (c.settled_of_records.ensures.run plan size limit x queues
    (settled_by c.route_stays_below.ensures c.is_record.ensures c.unsealed_is_written.ensures c.unsealed_has_takes.ensures plan size limit x queues promises))
