-- What the threads promise is what they did.
use Rattle.std.proofs.Common.{◌≡◌, ◌<◌, ℕ, true, length, sym, ap, ◌∙◌, subst, arith}
use Rattle.router.specs.Laws.{RouteStaysBelow}
use Rattle.router.specs.Plan.{Plan, stays_below}
use Rattle.mio_loops.specs.ReadLaws.{RecordLaw}
use Rattle.senders.specs.Laws.{UnsealedIsWrittenLaw, UnsealedHasTakesLaw}
use Rattle.settled_run.specs.Settled.{HaveRun, QueuesSettled}
use Rattle.settled_run.specs.SettledParts.{RelayLeft, owner_in}
use Rattle.settled_run.specs.SettledThreads.{ThreadsPromise}
use Rattle.settled_run.proofs.Elements.{there}
use Rattle.settled_run.proofs.WholeDoors.{ran_readers}
use Rattle.settled_run.proofs.WholeOutlets.{ran_writer}

pub settled_by : RouteStaysBelow → RecordLaw → UnsealedIsWrittenLaw → UnsealedHasTakesLaw
    → (plan : Plan) (size limit : ℕ) (x : RelayLeft) → QueuesSettled size x → ThreadsPromise plan size limit x → HaveRun plan size limit x
settled_by stays is_record is_written has_takes plan size limit x queues promises =
    record {
      dests = promises.dests;
      plans = promises.plans;
      readers = λ k r at.
          let same : plan ≡ r.plan = sym (promises.plans k r at) in
          ran_readers size x queues promises.receivers stays is_record limit k r at (promises.dests ∙ ap (λ p. p.destinations) same)
          (subst (λ p. stays_below p.destinations p.routing ≡ true) same promises.routes);
      writers = λ d within.
          let some = promises.some_sender in
          let owner : owner_in x d < length x.senders = omega arith in
          let own = there x.senders (owner_in x d) owner in
          ran_writer size limit x queues promises.senders d within own.0 own.1 is_written has_takes (promises.handed d within own.0 own.1);
    }
