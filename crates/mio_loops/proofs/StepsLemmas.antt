-- Steps of a writer, one after another.
use Rattle.std.proofs.Common.{◌≡◌, ◌<◌, ◌≤◌, ◌++◌, ℕ, List, [], ◌∷◌, length, Option, Some, None, refl, sym, ap, subst, ◌∙◌, append-nil, append_assoc, arith, true}
use Rattle.std.proofs.lemmas.Grind.{common_steps}
use Rattle.std.specs.Io.KnownBytes.{Appends}
use Rattle.line_text.specs.Datapoint.{Datapoint}
use Rattle.line_text.specs.Print.{printed_line, printed_lines}
use Rattle.relay_base.proofs.Growth.{Appends-then}
use Rattle.dest_writer.specs.Log.{TakeEntry}
use Rattle.dest_writer.specs.Writer.{WriterState, wants_batch, writer_after_take}
use Rattle.queue_records.specs.Takes.{TakesMade, after_take}
use Rattle.mio_loops.specs.WriterLog.{WriterLog, log_after}
use Rattle.mio_loops.specs.WriterSteps.{WriterStep, UpStep, TakeStep, WroteStep, DownStep, IsAllowed, AreAllowed, WriterSide, LeadTo, HoldsOnlyUnwritten, HoldsOnlyUnwrittenLaw, StepsAddUpLaw, entry_of_step, writer_after_step, writer_after_steps, bytes_of_step, bytes_of_steps, log_after_steps, record_after_step, record_after_steps}
use Rattle.mio_loops.specs.WriteServe.{steps_of_batch}

-- ---- lists of steps, joined

pub after-append : (a b : List WriterStep) (w : WriterState) → writer_after_steps (a ++ b) w ≡ writer_after_steps b (writer_after_steps a w)
after-append [] b w = refl
after-append (step ∷ steps) b w = after-append steps b (writer_after_step step w)

pub allowed-append : (a b : List WriterStep) (w : WriterState) → AreAllowed a w → AreAllowed b (writer_after_steps a w) → AreAllowed (a ++ b) w
allowed-append [] b w first second = second
allowed-append (step ∷ steps) b w first second = (first.0, allowed-append steps b (writer_after_step step w) first.1 second)

pub bytes-append : (a b : List WriterStep) (w : WriterState) → bytes_of_steps (a ++ b) w ≡ bytes_of_steps a w ++ bytes_of_steps b (writer_after_steps a w)
bytes-append [] b w = refl
bytes-append (step ∷ steps) b w =
    ap (λ (bytes : List ℕ). bytes_of_step step w ++ bytes) (bytes-append steps b (writer_after_step step w))
    ∙ sym (append_assoc (bytes_of_step step w) (bytes_of_steps steps (writer_after_step step w)) (bytes_of_steps b (writer_after_steps steps (writer_after_step step w))))

pub log-append : (a b : List WriterStep) (log : WriterLog) → log_after_steps (a ++ b) log ≡ log_after_steps b (log_after_steps a log)
log-append [] b log = refl
log-append (step ∷ steps) b log = log-append steps b (log_after (entry_of_step step) log)

pub record-append : (dest : ℕ) (a b : List WriterStep) (made : TakesMade) → record_after_steps dest (a ++ b) made ≡ record_after_steps dest b (record_after_steps dest a made)
record-append dest [] b made = refl
record-append dest (step ∷ steps) b made = record-append dest steps b (record_after_step dest step made)

-- ---- where steps lead

pub Appends-none : (known : Option (List ℕ)) → Appends known known []
Appends-none None = tt
Appends-none (Some bytes) = sym (append-nil bytes)

pub LeadTo-none : (dest : ℕ) (x : WriterSide) → LeadTo dest [] x x
LeadTo-none dest x =
    record {
      allowed = tt;
      writer = refl;
      log = refl;
      made = refl;
      reported = Appends-none x.reported;
    }

pub LeadTo-then : StepsAddUpLaw
LeadTo-then dest a b x y z first second =
    record {
      allowed = allowed-append a b x.writer first.allowed (subst (AreAllowed b) first.writer second.allowed);
      writer = second.writer ∙ ap (writer_after_steps b) first.writer ∙ sym (after-append a b x.writer);
      log = second.log ∙ ap (log_after_steps b) first.log ∙ sym (log-append a b x.log);
      made = second.made ∙ ap (record_after_steps dest b) first.made ∙ sym (record-append dest a b x.made);
      reported = subst (Appends x.reported z.reported) (sym (bytes-append a b x.writer))
          (Appends-then x.reported y.reported z.reported (bytes_of_steps a x.writer) (bytes_of_steps b (writer_after_steps a x.writer)) first.reported
          (subst (λ (w : WriterState). Appends y.reported z.reported (bytes_of_steps b w)) first.writer second.reported));
    }

-- a batch of some datapoints is one step
pub batch-leads : (dest limit taken : ℕ) (batch : List Datapoint) (old new : WriterState) (log log' : WriterLog) (made made' : TakesMade) (reported : Option (List ℕ))
    → taken ≡ length batch → 0 < taken → taken ≤ limit → wants_batch old ≡ true → new ≡ writer_after_take batch old
    → log' ≡ log_after (TakeEntry limit taken) log → made' ≡ after_take dest limit taken made
    → LeadTo dest (steps_of_batch limit batch) (record { writer = old; log = log; made = made; reported = reported }) (record { writer = new; log = log'; made = made'; reported = reported })
batch-leads dest limit taken [] old new log log' made made' reported count some few wanted writer is_log is_made = absurd (omega arith)
batch-leads dest limit taken (point ∷ points) old new log log' made made' reported count some few wanted writer is_log is_made =
    record {
      allowed = ((wanted, subst (λ (n : ℕ). 0 < n) count some, subst (λ (n : ℕ). n ≤ limit) count few), tt);
      writer = writer;
      log = is_log ∙ ap (λ (n : ℕ). log_after (TakeEntry limit n) log) count;
      made = is_made ∙ ap (λ (n : ℕ). after_take dest limit n made) count;
      reported = Appends-none reported;
    }

-- ---- where nothing is left, nothing is in hand

-- points have a text
pub lines-none : (points : List Datapoint) → length (printed_lines points) ≡ 0 → points ≡ []
lines-none [] none = refl
lines-none (point ∷ points) none =
    let some : 0 < length (printed_line point) = grind (arith, common_steps) in
    absurd (grind (arith, common_steps))

unwritten-step : (step : WriterStep) (w : WriterState) → HoldsOnlyUnwritten w → IsAllowed step w → HoldsOnlyUnwritten (writer_after_step step w)
unwritten-step UpStep w unwritten allowed = record { hand = unwritten.hand; written = unwritten.written }
unwritten-step (TakeStep limit batch) w unwritten allowed = record { hand = λ none. lines-none batch (omega arith); written = λ none. refl }
unwritten-step (WroteStep count) w unwritten allowed =
    record {
      hand = λ none. grind (arith, common_steps);
      written = λ none. grind (arith, common_steps);
    }
unwritten-step DownStep w unwritten allowed = record { hand = λ none. lines-none _ (omega arith); written = λ none. refl }

pub holds_only_unwritten : HoldsOnlyUnwrittenLaw
holds_only_unwritten [] w unwritten allowed = unwritten
holds_only_unwritten (step ∷ steps) w unwritten allowed =
    holds_only_unwritten steps (writer_after_step step w) (unwritten-step step w unwritten allowed.0) allowed.1

-- so after steps that lead somewhere
pub unwritten-after : (dest : ℕ) (steps : List WriterStep) (x y : WriterSide) → HoldsOnlyUnwritten x.writer → LeadTo dest steps x y → HoldsOnlyUnwritten y.writer
unwritten-after dest steps x y unwritten leads = subst HoldsOnlyUnwritten (sym leads.writer) (holds_only_unwritten steps x.writer unwritten leads.allowed)
