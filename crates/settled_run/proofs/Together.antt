-- What a settled relay leaves agrees in the order of the settling.
use Rattle.std.proofs.Common.{◌≡◌, ◌<◌, ◌+◌, ◌*◌, ℕ, List, [], ◌++◌, length, sym, ap, ◌∙◌, subst, arith}
use Rattle.std.specs.Prelude.{◌/◌, ◌%◌, slice_index_or}
use Rattle.std.proofs.lemmas.List.FromFn.{length-map-range_with_len, get_or-map-range_with_len}
use Rattle.router.specs.Plan.{Plan}
use Rattle.reader_core.specs.Configuration.{Configuration}
use Rattle.dest_writer.specs.Writer.{fresh_writer}
use Rattle.reader_core.specs.Input.{fresh_input}
use Rattle.reader_core.specs.Entries.{entries_of}
use Rattle.reader_core.specs.Kinds.{relay_reading}
use Rattle.reader_core.specs.PlanConfiguration.{configuration_of}
use Rattle.reader_core.specs.declared.kind.ReaderKind.TheVariants.{Line}
use Rattle.common_orders.specs.CommonOrder.{IsCommonOrder}
use Rattle.reader_core.specs.Record.{all_dispatches, IsRecordOf}
use Rattle.relay_core.specs.Logged.{Logged, kind_of, history_of, log_of, all_recorded, record_of, IsLogOf, AgreesInOrder}
use Rattle.reader_core.specs.Record as recorded
use Rattle.relay_core.specs.Logged as logged
use Rattle.dest_queue.specs.Numbered.{history_numbers}
use Rattle.dest_writer.specs.Log.{takes_in_log, AreWritten}
use Rattle.relay_core.specs.Weave.{takes_in_history}
use Rattle.queue_records.specs.Offers.{readers_each}
use Rattle.queue_records.specs.Records.{steps_of_records}
use Rattle.settled_run.specs.SettledParts.{RelayLeft, doors_of, outlets_of, readers_in, kind_in, fed_in, offers_in, log_in, logged_of}
use Rattle.settled_run.specs.Settled.{HaveRun, QueuesSettled, HasCounts, run_in}
use Rattle.settled_run.specs.Settled as settled
use Rattle.dest_queue.specs.Counts.{counts_of}
use Rattle.dest_queue.specs.Queue.{empty_queue}
use Rattle.dest_queue.specs.History.{Replays}
use Rattle.relay_core.specs.OneRun.{HasAllLogged}
use Rattle.settled_run.proofs.Elements.{some_is, within, there, mapped_at}
use Rattle.settled_run.proofs.NumberedRecords.{all_numbers_back}
use Rattle.settled_run.proofs.RecordedTakes.{limits_of}
use Rattle.settled_run.proofs.QueuesMet.{kind_count, same_lengths, one_record, made_by_reader, recorded_takes, takes_met}
use Rattle.settled_run.proofs.QueuesMet as met
use Rattle.settled_run.proofs.NumberedHistories.{begun_lengths, begun_at}

module _ (plan : Plan) (size limit : ℕ) (x : RelayLeft) (q : QueuesSettled size x) (h : HaveRun plan size limit x) where
  abbrev c : Configuration
  c = configuration_of plan size limit

  abbrev numbers : List (List ℕ)
  numbers = q.settles.are.numbers

  abbrev l : Logged
  l = logged_of x numbers

  -- ---- the counts

  pub counts : HasAllLogged relay_reading l x.order (run_in plan size limit x q) → HasCounts plan size limit x q
  counts has d own at =
      let few : d < length x.counts = within x.counts d own at in
      let here : d < length x.histories = subst (λ n. d < n) (begun_lengths size (readers_in x) x.counts x.histories q.begun) few in
      let begins = begun_at size (readers_in x) x.counts x.histories q.begun q.unsealed d here in
      let same : own ≡ begins.own = some_is own begins.own (sym at ∙ begins.at) in
      let queue = has.queues d (subst (λ n. d < n) h.dests here) begins.begun.end
      (subst (λ n. Replays size (empty_queue n) (slice_index_or x.histories d []) begins.begun.end) (sym (kind_count size x q)) begins.begun.replays) in
      same ∙ (begins.begun.counted ∙ ap counts_of (sym queue))

  -- ---- the readers

  reader : (r : ℕ) → r < length l.kinds → IsRecordOf relay_reading c (kind_of l r) (logged.entries_of l r) (record_of l r)
  reader r of_reader =
      let few : r < readers_in x = subst (λ n. r < n) (kind_count size x q) of_reader in
      let place = r / readers_each in
      let own = there x.receivers place (omega (arith, few)) in
      let token = r % readers_each in
      let is : readers_each * place + token ≡ r = omega arith in
      let ran = h.readers place own.0 own.1 token (omega arith) in
      let kind : kind_of l r ≡ own.0.kind =
      get_or-map-range_with_len (kind_in x) 0 (readers_in x) r r Line few (omega arith) ∙ mapped_at (λ y. y.kind) x.receivers place own.0 Line own.1 in
      let fed : logged.entries_of l r ≡ entries_of r own.0.log.entries =
      get_or-map-range_with_len (fed_in x) 0 (readers_in x) r r [] few (omega arith) ∙ ap (entries_of r) (mapped_at (λ y. y.log.entries) x.receivers place own.0 [] own.1) in
      let made = (made_by_reader size x q) r own.0 own.1 in
      let given : IsRecordOf relay_reading c own.0.kind (entries_of r own.0.log.entries) (offers_in r own.0.door) =
      subst (λ n. IsRecordOf relay_reading c own.0.kind (entries_of n own.0.log.entries) (offers_in n own.0.door)) is
      (subst (λ p. IsRecordOf relay_reading (configuration_of p size limit) own.0.kind (entries_of (readers_each * place + token) own.0.log.entries) (offers_in (readers_each * place + token) own.0.door))
      (h.plans place own.0 own.1) ran) in
      rw (kind, fed)
      (record {
        stays_open = given.stays_open;
        lacking = given.lacking;
        offers = given.offers ∙ ap (λ a. a ++ given.lacking) made.0;
        of_last = subst (λ n. recorded.AreMadeBefore relay_reading c n own.0.kind (fresh_input own.0.kind) (entries_of r own.0.log.entries)) made.1 given.of_last;
      })

  -- ---- the destinations

  destination : (d : ℕ) → d < plan.destinations → IsLogOf relay_reading c (length l.kinds) (history_of l d) (log_of l d)
  destination d of_plan =
      let here : d < length x.histories = subst (λ n. d < n) (sym h.dests) of_plan in
      let history = slice_index_or x.histories d [] in
      let own = (begun_at size (readers_in x) x.counts x.histories q.begun q.unsealed d here).begun in
      let ran = h.writers d here in
      let log : log_of l d ≡ log_in x d = get_or-map-range_with_len (log_in x) 0 (length x.histories) d d [] here (omega arith) in
      let takes : takes_in_history history ≡ takes_in_log (log_in x d) = sym ((takes_met size x q) d here) ∙ ((recorded_takes size x q) d ∙ sym ran.takes) in
      rw ((kind_count size x q), log)
      (record {
        end = own.end;
        replays = own.replays;
        unsealed = own.short;
        limits = limits_of limit history (subst (λ bs. settled.HaveLimit limit bs) (sym takes) ran.limits);
        takes = takes;
        written = subst (λ ps. AreWritten fresh_writer (log_in x d) ps) ran.same ran.written;
      })

  -- ---- all of it

  pub agrees : AgreesInOrder relay_reading c l x.order
  agrees =
      record {
        inputs = length-map-range_with_len (fed_in x) 0 (readers_in x) ∙ sym (kind_count size x q);
        histories = h.dests;
        logs = length-map-range_with_len (log_in x) 0 (length x.histories) ∙ h.dests;
        readers = reader;
        destinations = destination;
        same = met.same size x q;
        one_record = λ r. (r / readers_each, (one_record size x q) r);
        common =
            subst (λ lists. IsCommonOrder lists x.order)
            (q.settles.are.all ∙ ap (λ ns. history_numbers 0 x.histories ++ ns) (sym (all_numbers_back (steps_of_records (doors_of x) (outlets_of x)) numbers (same_lengths size x q))))
            q.settles.common;
      }
