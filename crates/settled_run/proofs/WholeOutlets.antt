-- If the queues have settled, no take was left out of an outlet's record, so a writer's takes are its entries.
use Rattle.std.proofs.Common.{◌≡◌, ◌<◌, ◌≤◌, ◌+◌, ℕ, zero, suc, List, [], ◌∷◌, ◌++◌, length, map, refl, sym, ap, ◌∙◌, subst, inl, inr, arith}
use Rattle.std.specs.Prelude.{◌==◌, nat_lt, slice_get, slice_index, slice_index_or, Some, sum_by}
use Rattle.std.proofs.lemmas.Bool.Decides.{nat_tests}
use Rattle.std.proofs.lemmas.List.{append-nil}
use Rattle.std.proofs.lemmas.List.Sums.{sum_by-cons}
use Rattle.dest_queue.specs.Queue.{empty_queue, most_steps}
use Rattle.dest_queue.specs.RecordedStep.{RecordedStep}
use Rattle.dest_writer.specs.Writer.{fresh_writer}
use Rattle.dest_writer.specs.Log.{AreWritten, takes_in_log}
use Rattle.relay_core.specs.Logged.{batches}
use Rattle.relay_core.specs.Weave.{takes_in_history}
use Rattle.queue_records.specs.Takes.{TakeMade}
use Rattle.mio_loops.specs.WriterLog.{WriterLog}
use Rattle.mio_loops.specs.WriterSteps.{WriterStep, UpStep, TakeStep, WroteStep, DownStep}
use Rattle.senders.specs.Laws.{batches_of, takes_of, UnsealedIsWrittenLaw, UnsealedHasTakesLaw}
use Rattle.senders.specs.Steps.{DestStep, steps_at}
use Rattle.settled_run.specs.Settled.{HaveLimit, QueuesSettled, RanWriter}
use Rattle.settled_run.specs.SettledParts.{SenderLeft, RelayLeft, outlets_of, readers_in, owner_in, log_in, takes_in}
use Rattle.settled_run.specs.SettledThreads.{SenderPromises}
use Rattle.settled_run.proofs.Elements.{some_is, none_is_not, there, mapped_at, got_mapped}
use Rattle.settled_run.proofs.NumberedHistories.{begun_at}
use Rattle.settled_run.proofs.NumberedRecords.{either}
use Rattle.settled_run.proofs.QueuesMet.{recorded_takes, takes_met}
use Rattle.settled_run.proofs.TakesRecorded.{batches_at, batches_at-append, points_in, points_in-append, take_made, takes_made, taken, takes_of_steps, limits_of_steps, takes_reported, points_handed}

-- ---- a take that was recorded returned something

AllSome : List TakeMade → Type 0
AllSome [] = Unit {0}
AllSome (t ∷ ts) = (0 < t.taken) × AllSome ts

some_append : (xs ys : List TakeMade) → AllSome xs → AllSome ys → AllSome (xs ++ ys)
unfolding AllSome
some_append [] ys front back = back
some_append (x ∷ xs) ys front back = (front.0, some_append xs ys front.1 back)

some_back : (xs ys : List TakeMade) → AllSome (xs ++ ys) → AllSome ys
unfolding AllSome
some_back [] ys all = all
some_back (x ∷ xs) ys all = some_back xs ys all.1

some_made_by : (dest : ℕ) (step : WriterStep) → AllSome (take_made dest step)
unfolding AllSome
some_made_by dest UpStep = tt
some_made_by dest (TakeStep limit points) = elim (either (nat_lt 0 (length points))) [
  | inl some ↦ rw some (grind (arith, nat_tests, some), tt)
  | inr none ↦ rw none tt
]
some_made_by dest (WroteStep count) = tt
some_made_by dest DownStep = tt

some_made : (steps : List DestStep) → AllSome (takes_made steps)
unfolding AllSome
some_made [] = tt
some_made (s ∷ steps) = some_append (take_made s.dest s.step) (takes_made steps) (some_made_by s.dest s.step) (some_made steps)

none_left : (d : ℕ) (ts : List TakeMade) → AllSome ts → points_in (batches_at d ts) ≡ 0 → batches_at d ts ≡ []
unfolding AllSome
none_left d [] some none = refl
none_left d (t ∷ ts) some none = elim (either (t.dest == d)) [
  | inl h ↦
      let points : points_in (batches_at d (t ∷ ts)) ≡ t.taken + points_in (batches_at d ts) = rw h refl in
      absurd (omega (arith, points, none, some.0))
  | inr h ↦
      let rest : points_in (batches_at d ts) ≡ 0 = rw h at none in
      rw h (none_left d ts some.1 rest)
]

one_of_sum : {A : Type 0} (f : A → ℕ) (xs : List A) (i : ℕ) (a : A) → slice_get xs i ≡ Some a → f a ≤ sum_by f xs
one_of_sum f [] i a at = absurd (none_is_not a at)
one_of_sum f (b ∷ xs) (suc i) a at = omega (arith, sum_by-cons f b xs, one_of_sum f xs i a at)
one_of_sum f (b ∷ xs) zero a at =
    let own : f b ≤ sum_by f (b ∷ xs) = omega (arith, sum_by-cons f b xs) in
    subst (λ c. f c ≤ sum_by f (b ∷ xs)) (some_is b a at) own

-- ---- a writer

module _ (size limit : ℕ) (x : RelayLeft) (q : QueuesSettled size x)
    (promises : (k : ℕ) (s : SenderLeft) → slice_get x.senders k ≡ Some s → SenderPromises (length x.histories) limit s) where
  module _ (d : ℕ) (within : d < length x.histories) (s : SenderLeft) (at : slice_get x.senders (owner_in x d) ≡ Some s) where
    abbrev promise : SenderPromises (length x.histories) limit s
    promise = promises (owner_in x d) s at

    abbrev steps : List WriterStep
    steps = steps_at d promise.ran.steps

    abbrev history : List RecordedStep
    history = slice_index_or x.histories d []

    -- the takes that the outlet recorded are the history's
    takes_of_outlet : takes_in d s.outlet ≡ takes_in_history history
    takes_of_outlet =
        sym (mapped_at (λ y. takes_in d y.outlet) x.senders (owner_in x d) s [] at)
        ∙ (sym (recorded_takes size x q d) ∙ takes_met size x q d within)

    pub log_there : (log : WriterLog) × (slice_get s.logs d ≡ Some log)
    log_there = there s.logs d (subst (λ n. d < n) (sym promise.ran.count) within)

    -- and those that the writer made
    takes_of_writer : takes_of steps ≡ takes_in d s.outlet
    takes_of_writer =
        let made = taken promise.ran.steps promise.before promise.after promise.ran.made in
        let entries : promise.after.entries ≡ made.front = made.entries ∙ ap (λ es. es ++ made.front) promise.fresh.entries in
        let outlet : takes_in d s.outlet ≡ batches_at d made.front =
        takes_reported d s.outlet.takes.items ∙ (ap (batches_at d) promise.reported.takes ∙ ap (batches_at d) entries) in
        let own = begun_at size (readers_in x) x.counts x.histories q.begun q.unsealed d within in
        let handed = points_handed size (empty_queue (readers_in x)) own.begun.end history own.begun.replays refl refl in
        let is : own.own.taken ≡ own.begun.end.taken = ap (λ c. c.taken) own.begun.counted in
        let sums = (q.sums d own.own own.at).taken in
        let total : slice_index s.outlet.totals.items d ≡ slice_index promise.after.totals d = ap (λ ns. slice_index ns d) promise.reported.totals in
        let one = one_of_sum (λ r. slice_index r.totals.items d) (outlets_of x) (owner_in x d) s.outlet (got_mapped (λ y. y.outlet) x.senders (owner_in x d) s at) in
        let few : slice_index promise.after.totals d ≤ most_steps = omega (arith, total, one, sums, is, handed.1, own.begun.short) in
        let counted = made.totals d (subst (λ n. d < n) (sym promise.fresh.dests) within) few in
        let parts : batches_at d (takes_made promise.ran.steps) ≡ batches_at d made.front ++ batches_at d made.back =
        ap (batches_at d) made.all ∙ batches_at-append d made.front made.back in
        let points = ap points_in (sym takes_of_outlet ∙ outlet) in
        let none : points_in (batches_at d made.back) ≡ 0 =
        omega (
          arith,
          total,
          one,
          sums,
          is,
          handed.0,
          counted,
          promise.fresh.totals d,
          ap points_in parts,
          points_in-append (batches_at d made.front) (batches_at d made.back),
          points,
        ) in
        let nothing : batches_at d made.back ≡ [] = none_left d made.back (some_back made.front made.back (subst AllSome made.all (some_made promise.ran.steps))) none in
        sym (takes_of_steps d promise.ran.steps fresh_writer (promise.ran.each d log_there.0 log_there.1).allowed)
        ∙ (parts
        ∙ (ap (λ bs. batches_at d made.front ++ bs) nothing
        ∙ (append-nil (batches_at d made.front) ∙ sym outlet)))

    pub log_is : log_in x d ≡ log_there.0.entries
    log_is =
        ap (λ logs. slice_index_or logs d []) (mapped_at (λ y. map (λ log. log.entries) y.logs) x.senders (owner_in x d) s [] at)
        ∙ mapped_at (λ log. log.entries) s.logs d log_there.0 [] log_there.1

    pub ran_writer : UnsealedIsWrittenLaw → UnsealedHasTakesLaw → batches_of steps ≡ batches size (empty_queue (readers_in x)) history → RanWriter size limit x d
    ran_writer is_written has_takes handed =
        let log = log_there.0 in
        let ran = promise.ran.each d log log_there.1 in
        let unsealed = promise.unsealed d log log_there.1 in
        let takes : takes_in_log (log_in x d) ≡ takes_of steps = ap takes_in_log log_is ∙ has_takes limit steps log ran unsealed in
        record {
          handed = batches_of steps;
          written = subst (λ es. AreWritten fresh_writer es (batches_of steps)) (sym log_is) (is_written limit steps log ran unsealed);
          limits = subst (λ bs. HaveLimit limit bs) (sym takes) (limits_of_steps limit steps ran.limits);
          takes = takes ∙ (takes_of_writer ∙ sym (mapped_at (λ y. takes_in d y.outlet) x.senders (owner_in x d) s [] at));
          same = handed;
        }
