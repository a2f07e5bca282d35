-- What the record of a sender is made of.
use Rattle.std.proofs.Common.{◌≡◌, ◌<◌, ◌≤◌, ℕ, zero, suc, Bool, true, false, if◌then◌else◌, List, [], ◌∷◌, ◌++◌, length, map, Option, Some, None, replicate, slice_get, refl, sym, ap, subst, ◌∙◌, arith}
use Rattle.std.proofs.lemmas.Bool.{false≢true}
use Rattle.std.proofs.lemmas.Grind.{common_steps}
use Rattle.std.proofs.lemmas.List.{length-map, length-replicate}
use Rattle.std.proofs.lemmas.Option.{slice_get_within}
use Rattle.dest_writer.specs.Writer.{WriterState, fresh_writer}
use Rattle.dest_writer.specs.Log.{AreWritten, Batch, LogEntry, takes_in_log}
use Rattle.queue_records.specs.Takes.{TakesMade}
use Rattle.mio_loops.specs.OutgoingState.{OutgoingState}
use Rattle.mio_loops.specs.WriteLoop.{fresh_outgoing, is_up_at}
use Rattle.mio_loops.specs.WriterLog.{WriterLog, empty_log, log_after, log_after_all}
use Rattle.mio_loops.specs.WriterSteps.{WriterStep, UpStep, TakeStep, WroteStep, DownStep, AreAllowed, entry_of_step, log_after_steps}
use Rattle.mio_loops.proofs.WriterLogLemmas.{unsealed-has_all}
use Rattle.mio_loops.proofs.LoopLemmas.{same, none-some}
use Rattle.mio_loops.specs.declared.readiness.ReadinessFault.{ReadinessFault}
use Rattle.mio_loops.specs.declared.readiness.ReadinessFault.TheVariants.{Device, NoMemory}
use Rattle.line_text.specs.Datapoint.{Datapoint}
use Rattle.senders.specs.Steps.{SomeProgress}
use Rattle.senders.specs.Record.{RanAsHanded, EndsFor, no_log, AreNone}
use Rattle.std.specs.Prelude.{IfSome}
use Rattle.senders.specs.Laws.{batches_of, takes_of, UnsealedHasAllLaw, UnsealedIsWrittenLaw, UnsealedHasTakesLaw}

-- ---- why a sender ended

-- only a device failed
pub device-alone : (fault : Option ReadinessFault) (logs : List WriterLog) (a b : TakesMade) → IfSome fault (λ f. f ≡ Device) → EndsFor fault logs a b
device-alone None logs a b reported = tt
device-alone (Some Device) logs a b reported = tt
device-alone (Some NoMemory) logs a b reported = (let e : NoMemory ≡ Device = reported in grind (arith, common_steps))

-- ---- a new loop

fresh-down : (W : Type 0) (dests limit dest : ℕ) → is_up_at {W = W} (replicate dests (fresh_outgoing limit)) dest ≡ false
fresh-down W zero limit dest = refl
fresh-down W (suc dests) limit zero = refl
fresh-down W (suc dests) limit (suc dest) = fresh-down W dests limit dest

-- no destination of it has a connection
pub fresh-not-up : {W : Type 0} (dests limit : ℕ) (os : List (OutgoingState W)) (dest : ℕ) → os ≡ replicate dests (fresh_outgoing limit) → is_up_at os dest ≡ true → ⊥
fresh-not-up {W} dests limit os dest is up =
    false≢true (sym (fresh-down W dests limit dest) ∙ ap (λ (l : List (OutgoingState W)). is_up_at l dest) (sym is) ∙ up)

-- ---- laws

log-is-all : (steps : List WriterStep) (log : WriterLog) → log_after_steps steps log ≡ log_after_all (map entry_of_step steps) log
log-is-all [] log = refl
log-is-all (step ∷ steps) log = log-is-all steps (log_after (entry_of_step step) log)

pub has-all : UnsealedHasAllLaw
has-all limit steps log ran unsealed =
    let is = ran.logged ∙ log-is-all steps empty_log in
    ap (λ (l : WriterLog). l.entries) is
    ∙ unsealed-has_all (map entry_of_step steps) empty_log (sym (ap (λ (l : WriterLog). l.sealed) is) ∙ unsealed)

written-by : (steps : List WriterStep) (w : WriterState) → AreAllowed steps w → AreWritten w (map entry_of_step steps) (batches_of steps)
written-by [] w allowed = tt
written-by (UpStep ∷ steps) w allowed = (allowed.0, written-by steps _ allowed.1)
written-by (TakeStep limit batch ∷ steps) w allowed = (allowed.0.0, written-by steps _ allowed.1)
written-by (WroteStep count ∷ steps) w allowed = (allowed.0.0, allowed.0.2, written-by steps _ allowed.1)
written-by (DownStep ∷ steps) w allowed = (allowed.0, written-by steps _ allowed.1)

pub is-written : UnsealedIsWrittenLaw
is-written limit steps log ran unsealed =
    subst (λ (es : List LogEntry). AreWritten fresh_writer es (batches_of steps)) (sym (has-all limit steps log ran unsealed))
    (written-by steps fresh_writer ran.allowed)

takes-by : (steps : List WriterStep) → takes_in_log (map entry_of_step steps) ≡ takes_of steps
takes-by [] = refl
takes-by (UpStep ∷ steps) = takes-by steps
takes-by (TakeStep limit batch ∷ steps) = ap (λ (bs : List Batch). record { limit = limit; taken = length batch } ∷ bs) (takes-by steps)
takes-by (WroteStep count ∷ steps) = takes-by steps
takes-by (DownStep ∷ steps) = takes-by steps

pub has-takes : UnsealedHasTakesLaw
has-takes limit steps log ran unsealed = ap takes_in_log (has-all limit steps log ran unsealed) ∙ takes-by steps

-- ---- logs that could not be made

none-added : (logs : List WriterLog) (log : WriterLog) → log ≡ no_log → AreNone logs → AreNone (logs ++ log ∷ [])
none-added [] log is none zero other at = sym (same log other at) ∙ is
none-added [] log is none (suc i) other at = absurd (none-some other at)
none-added (l ∷ logs) log is none zero other at = none zero other at
none-added (l ∷ logs) log is none (suc i) other at = none-added logs log is (λ j. none (suc j)) i other at

pub none-pushed : (ok : Bool) (logs more : List WriterLog) (log : WriterLog) → more ≡ (if ok then logs ++ log ∷ [] else logs) → log ≡ no_log → AreNone logs → AreNone more
none-pushed true logs more log is none before = subst AreNone (sym is) (none-added logs log none before)
none-pushed false logs more log is none before = subst AreNone (sym is) before

pub none-none : AreNone []
none-none i log at = absurd (none-some log at)

-- ---- from a new loop on

module _ {W : Type 0} where
  fresh-at : (count i : ℕ) (o : OutgoingState W) → i < count → slice_get (replicate count o) i ≡ Some o
  fresh-at zero i o low = absurd (omega (arith, low))
  fresh-at (suc count) zero o low = refl
  fresh-at (suc count) (suc i) o low = fresh-at count i o (omega (arith, low))

  log-at : (os : List (OutgoingState W)) (i : ℕ) (log : WriterLog) → slice_get (map (λ o. o.log) os) i ≡ Some log → (o : OutgoingState W) × (slice_get os i ≡ Some o) × (o.log ≡ log)
  log-at [] i log at = absurd (none-some log at)
  log-at (o ∷ os) zero log at = (o, refl, same o.log log at)
  log-at (o ∷ os) (suc i) log at = log-at os i log at

  -- what destinations that were new at first did
  pub ran-from-fresh : (may_hand : TakesMade → ℕ → ℕ → List Datapoint → Type 0) (dests limit : ℕ) (os : List (OutgoingState W)) (before after : TakesMade)
      → SomeProgress may_hand (replicate dests (fresh_outgoing limit)) os before after
      → RanAsHanded may_hand dests limit (map (λ (o : OutgoingState W). o.log) os) before after
  ran-from-fresh may_hand dests limit os before after some =
      let went = some.1 in
      let count : length os ≡ dests = went.dests ∙ length-replicate dests (fresh_outgoing limit) in (
        record {
          steps = some.0;
          count = length-map os (λ (o : OutgoingState W). o.log) ∙ count;
          each = λ dest log at.
              let found = log-at os dest log at in
              let within = slice_get_within os dest found.0 found.1 in
              let went_here = went.each dest (fresh_outgoing limit) (fresh-at dests dest (fresh_outgoing limit) (omega (arith, within, count))) in
              let is : went_here.0 ≡ found.0 = same went_here.0 found.0 (sym went_here.1 ∙ found.1) in
              record {
                allowed = went_here.2.allowed;
                limits = went_here.2.limits;
                logged = sym found.2 ∙ ap (λ (o : OutgoingState W). o.log) (sym is) ∙ went_here.2.log;
              };
          others = λ dest past. went.others dest (subst (λ (n : ℕ). n ≤ dest) (sym (length-replicate dests (fresh_outgoing limit))) past);
          made = went.made;
        },
        some.2,
      )
