-- What a weave of a history and a writer's log leaves at a destination's connections is what the writer's steps wrote.
use Rattle.std.proofs.Common.{◌≡◌, ◌<◌, ℕ, List, [], ◌∷◌, ◌++◌, length, map, refl, sym, ap, ◌∙◌, subst, arith}
use Rattle.std.specs.Prelude.{slice_get, slice_index_or, Some}
use Rattle.std.proofs.lemmas.List.FromFn.{get_or-map-range_with_len}
use Rattle.line_text.specs.Datapoint.{Datapoint}
use Rattle.dest_queue.specs.Queue.{Queue, batch, empty_queue, queue_after_take}
use Rattle.dest_writer.specs.Writer.{WriterState, fresh_writer, bytes_written, writer_after_up, writer_after_take, writer_after_write, writer_after_down}
use Rattle.router.specs.Plan.{Plan}
use Rattle.reader_core.specs.Kinds.{relay_reading}
use Rattle.relay_core.specs.Destination.{with_more_bytes}
use Rattle.relay_core.specs.Logged.{batches}
use Rattle.relay_core.specs.Run.{dest_in}
use Rattle.dest_writer.specs.Log.{LogEntry, WroteEntry}
use Rattle.relay_core.specs.Weave.{WovenStep, Offering, Taking, Connecting, Writing, Losing, queue_steps, writer_steps, after_woven}
use Rattle.mio_loops.specs.WriterSteps.{WriterStep, UpStep, TakeStep, WroteStep, DownStep, entry_of_step}
use Rattle.senders.specs.Laws.{batches_of, UnsealedHasAllLaw}
use Rattle.senders.specs.Steps.{steps_at}
use Rattle.settled_run.specs.Settled.{QueuesSettled, IsOneRun, logged_in, run_in}
use Rattle.settled_run.specs.SettledBytes.{connections_of}
use Rattle.settled_run.specs.SettledParts.{SenderLeft, RelayLeft, owner_in, log_in}
use Rattle.settled_run.specs.SettledThreads.{ThreadsPromise}
use Rattle.settled_run.proofs.QueuesMet.{kind_count}
use Rattle.settled_run.proofs.WholeOutlets.{log_there, log_is}

same_rest : (x y : LogEntry) (xs ys : List LogEntry) → x ∷ xs ≡ y ∷ ys → xs ≡ ys
same_rest x y xs ys e = cc

same_count : (m n : ℕ) (xs ys : List LogEntry) → WroteEntry m ∷ xs ≡ WroteEntry n ∷ ys → m ≡ n
same_count m n xs ys e = cc

same_batch : (x y : List Datapoint) (xs ys : List (List Datapoint)) → x ∷ xs ≡ y ∷ ys → x ≡ y
same_batch x y xs ys e = cc

same_batches : (x y : List Datapoint) (xs ys : List (List Datapoint)) → x ∷ xs ≡ y ∷ ys → xs ≡ ys
same_batches x y xs ys e = cc

pub woven_bytes : (size : ℕ) (woven : List WovenStep) (q : Queue) (w : WriterState) (connections : List (List ℕ)) (steps : List WriterStep)
    → writer_steps woven ≡ map entry_of_step steps → batches_of steps ≡ batches size q (queue_steps woven)
    → (after_woven size (record { queue = q; writer = w; connections = connections }) woven).connections ≡ connections_of steps w connections
woven_bytes size [] q w connections [] log handed = refl
woven_bytes size [] q w connections (s ∷ steps) log handed = absurd (cc)
woven_bytes size (Offering reader number point kept ∷ woven) q w connections steps log handed =
    woven_bytes size woven _ w connections steps log handed
woven_bytes size (Taking limit taken ∷ woven) q w connections [] log handed = absurd (cc)
woven_bytes size (Taking limit taken ∷ woven) q w connections (UpStep ∷ steps) log handed = absurd (cc)
woven_bytes size (Taking limit taken ∷ woven) q w connections (TakeStep own points ∷ steps) log handed =
    let same : points ≡ batch limit q = same_batch _ _ _ _ handed in
    woven_bytes size woven (queue_after_take limit q) (writer_after_take (batch limit q) w) connections steps (same_rest _ _ _ _ log) (same_batches _ _ _ _ handed)
    ∙ ap (λ ps. connections_of steps (writer_after_take ps w) connections) (sym same)
woven_bytes size (Taking limit taken ∷ woven) q w connections (WroteStep count ∷ steps) log handed = absurd (cc)
woven_bytes size (Taking limit taken ∷ woven) q w connections (DownStep ∷ steps) log handed = absurd (cc)
woven_bytes size (Connecting ∷ woven) q w connections [] log handed = absurd (cc)
woven_bytes size (Connecting ∷ woven) q w connections (UpStep ∷ steps) log handed =
    woven_bytes size woven q (writer_after_up w) (connections ++ [] ∷ []) steps (same_rest _ _ _ _ log) handed
woven_bytes size (Connecting ∷ woven) q w connections (TakeStep own points ∷ steps) log handed = absurd (cc)
woven_bytes size (Connecting ∷ woven) q w connections (WroteStep count ∷ steps) log handed = absurd (cc)
woven_bytes size (Connecting ∷ woven) q w connections (DownStep ∷ steps) log handed = absurd (cc)
woven_bytes size (Writing count ∷ woven) q w connections [] log handed = absurd (cc)
woven_bytes size (Writing count ∷ woven) q w connections (UpStep ∷ steps) log handed = absurd (cc)
woven_bytes size (Writing count ∷ woven) q w connections (TakeStep own points ∷ steps) log handed = absurd (cc)
woven_bytes size (Writing count ∷ woven) q w connections (WroteStep own ∷ steps) log handed =
    let same : count ≡ own = same_count _ _ _ _ log in
    woven_bytes size woven q (writer_after_write count w) (with_more_bytes (bytes_written count w) connections) steps (same_rest _ _ _ _ log) handed
    ∙ ap (λ n. connections_of steps (writer_after_write n w) (with_more_bytes (bytes_written n w) connections)) same
woven_bytes size (Writing count ∷ woven) q w connections (DownStep ∷ steps) log handed = absurd (cc)
woven_bytes size (Losing ∷ woven) q w connections [] log handed = absurd (cc)
woven_bytes size (Losing ∷ woven) q w connections (UpStep ∷ steps) log handed = absurd (cc)
woven_bytes size (Losing ∷ woven) q w connections (TakeStep own points ∷ steps) log handed = absurd (cc)
woven_bytes size (Losing ∷ woven) q w connections (WroteStep own ∷ steps) log handed = absurd (cc)
woven_bytes size (Losing ∷ woven) q w connections (DownStep ∷ steps) log handed =
    woven_bytes size woven q (writer_after_down w) connections steps (same_rest _ _ _ _ log) handed

pub bytes_of_run : UnsealedHasAllLaw → (plan : Plan) (size limit : ℕ) (x : RelayLeft) (queues : QueuesSettled size x) (promises : ThreadsPromise plan size limit x)
    → IsOneRun plan size limit x queues → (d : ℕ) → d < length x.histories → (s : SenderLeft) (at : slice_get x.senders (owner_in x d) ≡ Some s)
    → (dest_in relay_reading (run_in plan size limit x queues) d).connections ≡ connections_of (steps_at d (promises.senders (owner_in x d) s at).ran.steps) fresh_writer []
bytes_of_run has_all plan size limit x queues promises is d within s at =
    let promise = promises.senders (owner_in x d) s at in
    let steps = steps_at d promise.ran.steps in
    let here : d < plan.destinations = subst (λ n. d < n) promises.dests within in
    let log = log_there size limit x queues promises.senders d within s at in
    let entries : slice_index_or (logged_in size x queues).logs d [] ≡ map entry_of_step steps =
    get_or-map-range_with_len (log_in x) 0 (length x.histories) d d [] within (omega arith)
    ∙ (log_is size limit x queues promises.senders d within s at
    ∙ has_all limit steps log.0 (promise.ran.each d log.0 log.1) (promise.unsealed d log.0 log.1)) in
    let woven = is.steps d here in
    let left = is.destinations d here woven.0 woven.1 in
    let handed : batches_of steps ≡ batches size (empty_queue (length (logged_in size x queues).kinds)) (queue_steps woven.0) =
    promises.handed d within s at
    ∙ (ap (λ n. batches size (empty_queue n) (slice_index_or x.histories d [])) (sym (kind_count size x queues))
    ∙ ap (batches size (empty_queue (length (logged_in size x queues).kinds))) (sym woven.1.of_queue)) in
    ap (λ e. e.connections) left
    ∙ woven_bytes size woven.0 (empty_queue (length (logged_in size x queues).kinds)) fresh_writer [] steps (woven.1.of_writer ∙ entries) handed
