-- How an event is answered: when it may not happen, when no more can be counted, and when it happens.
use Rattle.std.proofs.Common.{◌≡◌, ◌+◌, ℕ, true, false, List, [], ◌∷◌, ◌++◌, refl, sym, ◌∙◌, inl, inr}
use Rattle.dest_queue.specs.Offer.{last_count}
use Rattle.reader_core.specs.Configuration.{Configuration}
use Rattle.reader_core.specs.Kinds.{relay_reading}
use Rattle.reader_core.specs.PlanConfiguration.{PlanSends, configuration_of}
use Rattle.reader_core.specs.Laws.{ClosedLaw}
use Rattle.reader_core.specs.declared.kind.ReaderKind.{ReaderKind}
use Rattle.relay_core.specs.World.{WorldState, RunEvent, step_of, is_allowed, world_after, after, after_all}
use Rattle.relay_core.specs.Run.{end_of, start_of}
use Rattle.relay_core.specs.Relay.{run_of}
use Rattle.relay_core.specs.Event.{Happened, answer_of_step}
use Rattle.relay_core.specs.WorldModel.{WorldModel, IsWorld, RepresentsRun, Applies, may_happen}
use Rattle.relay_core.specs.declared.event.Answer.{Answer}
use Rattle.relay_core.specs.declared.event.Answer.TheVariants.{NotNow, Spent}
use Rattle.relay_core.proofs.Representing.{happens}

pub after_all-append : (c : Configuration) (w : WorldState) (events more : List RunEvent)
    → after_all relay_reading c w (events ++ more) ≡ after_all relay_reading c (after_all relay_reading c w events) more
after_all-append c w [] more = refl
after_all-append c w (first ∷ events) more = after_all-append c (after relay_reading c w first) events more

pub happened-not_now : Happened NotNow → ⊥
happened-not_now (inl e) = cc
happened-not_now (inr e) = cc

happened-spent : Happened Spent → ⊥
happened-spent (inl e) = cc
happened-spent (inr e) = cc

module _ (plan_sends : PlanSends) (closed_law : ClosedLaw) where
  state : WorldModel → ℕ → ℕ → List ReaderKind → List RunEvent → WorldState
  state s size limit kinds events = end_of relay_reading (run_of s.plan size limit kinds events)

  allowed : (s : WorldModel) (event : RunEvent) (size limit : ℕ) (kinds : List ReaderKind) (events : List RunEvent) → RepresentsRun s size limit kinds events
      → is_allowed relay_reading (configuration_of s.plan size limit) (end_of relay_reading (run_of s.plan size limit kinds events)) event ≡ may_happen s.readers s.destinations event
  allowed s event size limit kinds events represents = sym (happens plan_sends s.plan size limit closed_law s.readers s.destinations _ event represents)

  -- nothing changes
  pub not_now : (s : WorldModel) (event : RunEvent) → may_happen s.readers s.destinations event ≡ false → Applies s event NotNow s
  not_now s event e =
      record {
        answers = λ n size limit kinds events represents.
            let not : is_allowed relay_reading (configuration_of s.plan size limit) (end_of relay_reading (run_of s.plan size limit kinds events)) event ≡ false = allowed s event size limit kinds events represents ∙ e in
            rw not refl;
        represents = λ n size limit kinds events represents.
            let c = configuration_of s.plan size limit in
            let not : is_allowed relay_reading c (end_of relay_reading (run_of s.plan size limit kinds events)) event ≡ false = allowed s event size limit kinds events represents ∙ e in
            rw (after_all-append c (start_of relay_reading (run_of s.plan size limit kinds events)) events (event ∷ []), not) represents;
        counted = λ h. absurd (happened-not_now h);
        spent = λ e. absurd cc;
        unchanged = λ n. refl;
      }

  pub spent : (s : WorldModel) (event : RunEvent) → may_happen s.readers s.destinations event ≡ true → s.events ≡ last_count → Applies s event Spent s
  spent s event e many =
      record {
        answers = λ n. absurd (n refl);
        represents = λ n. absurd (n refl);
        counted = λ h. absurd (happened-spent h);
        spent = λ same. (many, e);
        unchanged = λ n. refl;
      }

  -- what it leaves is the world of the run with the event
  abbrev pub Leaves : WorldModel → RunEvent → Answer → WorldModel → Type 0
  Leaves old event answer new =
      (size limit : ℕ) (w : WorldState) → IsWorld old.plan old.readers old.destinations size limit w
      → IsWorld old.plan new.readers new.destinations size limit (world_after relay_reading (configuration_of old.plan size limit) w event)
      × (answer ≡ answer_of_step size w (step_of relay_reading (configuration_of old.plan size limit) w event))

  happened-not_spent : (answer : Answer) → Happened answer → answer ≡ Spent → ⊥
  happened-not_spent answer (inl h) e = cc
  happened-not_spent answer (inr h) e = cc

  pub done : (old new : WorldModel) (event : RunEvent) (answer : Answer) → may_happen old.readers old.destinations event ≡ true
      → new.plan ≡ old.plan → new.events ≡ old.events + 1 → Happened answer → Leaves old event answer new → Applies old event answer new
  done old new event answer e same counted happened leaves =
      record {
        answers = λ n size limit kinds events represents.
            let yes : is_allowed relay_reading (configuration_of old.plan size limit) (end_of relay_reading (run_of old.plan size limit kinds events)) event ≡ true = allowed old event size limit kinds events represents ∙ e in
            rw yes (leaves size limit _ represents).1;
        represents = λ n size limit kinds events represents.
            let c = configuration_of old.plan size limit in
            let yes : is_allowed relay_reading c (end_of relay_reading (run_of old.plan size limit kinds events)) event ≡ true = allowed old event size limit kinds events represents ∙ e in
            rw (same, after_all-append c (start_of relay_reading (run_of old.plan size limit kinds events)) events (event ∷ []), yes) (leaves size limit _ represents).0;
        counted = λ h. counted;
        spent = λ e. absurd (happened-not_spent answer happened e);
        unchanged = λ n. absurd (n happened);
      }
