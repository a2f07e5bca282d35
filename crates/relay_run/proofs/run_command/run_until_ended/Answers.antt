use Rattle.std.proofs.lemmas.Result.{IfOk-weaker, IfErr-weaker, on_ok_weaker}
use Rattle.std.proofs.Common.{map}
use Rattle.run_threads.proofs.ServedLemmas.{Served-whole}
use Rattle.relay_run.proofs.RunEndings.{fails-unwritten, fails-served}
use Rattle.relay_run.proofs.run_command.run_until_ended.Goals as goal

-- it did not begin
pub returns-in-Err-clause-err : goal.returns-in-Err-clause-err
returns-in-Err-clause-err g c = fails-unwritten _ _ _ c.in-Err.ensures

pub returns-clause-ok : goal.returns-clause-ok
returns-clause-ok g c =
    on_ok_weaker c.records_of.result (λ is. Served-whole _ _ _ _ c.run_all_threads-ends.ensures is) c.records_of.ensures.served

pub returns-clause-fault : goal.returns-clause-fault
returns-clause-fault g c =
    IfOk-weaker c.records_of.result _ _ (λ records is. (map (λ end. end.fault) c.run_all_threads-ends.result.receivers.items, map (λ end. end.fault) c.run_all_threads-ends.result.senders.items, is)) c.records_of.ensures.fault

pub returns-clause-err : goal.returns-clause-err
returns-clause-err g c =
    IfErr-weaker c.records_of.result _ _ (λ fault is. fails-served _ _ _ _ fault c.run_all_threads-ends.ensures is) c.records_of.ensures.err
