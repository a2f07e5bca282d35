use Rattle.run_threads.proofs.ServedLemmas.{kept-both}
use Rattle.run_threads.proofs.ending.end_threads.Goals as goal

-- what receivers and senders left was kept, or memory ran out
pub returns : goal.returns
returns g c =
    rw (c.served_if-served-2.ensures, c.served_if-served.ensures) (kept-both c.args.served c.end_receivers-receivers.result.1 c.join_all-senders.result.1)
