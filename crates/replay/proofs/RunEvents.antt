-- Events come one after another.
use Rattle.std.proofs.Common.{◌≡◌, ◌≢◌, ◌<◌, ℕ, Bool, true, false, if◌then◌else◌, Option, Some, None, List, [], ◌∷◌, ◌++◌, inl, inr, refl, ap, sym, ◌∙◌, subst, arith}
use Rattle.std.proofs.lemmas.List.{append-nil, append_assoc, map-append, length-append}
use Rattle.reader_core.specs.Kinds.{relay_reading}
use Rattle.reader_core.specs.PlanConfiguration.{configuration_of}
use Rattle.reader_core.specs.Configuration.{Configuration}
use Rattle.relay_core.specs.World.{WorldState, ActAt, is_allowed, after, after_all}
use Rattle.relay_core.specs.Run.{end_of, start_of}
use Rattle.relay_core.specs.Relay.{run_of}
use Rattle.relay_core.specs.WorldModel.{WorldModel, HasAsMany, Applies}
use Rattle.relay_core.specs.Event.{Happened, is_full, answer_of_act, answer_of_step}
use Rattle.relay_core.specs.declared.event.Answer.{Answer}
use Rattle.relay_core.specs.declared.event.Answer.TheVariants.{Done, Dropped, NotNow, Spent}
use Rattle.relay_core.specs.Destination.{Act, Offered, Taken, Connected, Written, Lost}
use Rattle.dest_queue.specs.Offer.{last_count}
use Rattle.replay.specs.ScriptEvent.{NumberedEvent}
use Rattle.replay.specs.RunText.{events_of, not_now_line, not_now_unless, not_now_lines}
use Rattle.replay.specs.RunEvents.{EventsCome}
use Rattle.relay_core.proofs.Applying.{after_all-append, happened-not_now}

pub not_now_lines-append : (c : Configuration) (w : WorldState) (a b : List NumberedEvent)
    → not_now_lines c w (a ++ b) ≡ not_now_lines c w a ++ not_now_lines c (after_all relay_reading c w (events_of a)) b
not_now_lines-append c w [] b = refl
not_now_lines-append c w (e ∷ a) b =
    let line = not_now_unless (is_allowed relay_reading c w e.event) e.line in
    let next = after relay_reading c w e.event in
    ap (λ (l : List ℕ). line ++ l) (not_now_lines-append c next a b)
    ∙ sym (append_assoc line (not_now_lines c next a) (not_now_lines c (after_all relay_reading c next (events_of a)) b))

pub more-come : (old mid new : WorldModel) (a b : List NumberedEvent) (before between after : List ℕ)
    → EventsCome old mid a before between → EventsCome mid new b between after → EventsCome old new (a ++ b) before after
more-come old mid new a b before between after x y =
    record {
      plan = y.plan ∙ x.plan;
      places = record { readers = y.places.readers ∙ x.places.readers; destinations = y.places.destinations ∙ x.places.destinations };
      count = let xs = x.count in let ys = y.count in rw length-append (omega (arith, xs, ys));
      represents = λ size limit kinds past represents. rw (map-append, ← append_assoc) (y.represents size limit kinds (past ++ events_of a) (x.represents size limit kinds past represents));
      text = λ size limit kinds past represents.
          let c = configuration_of old.plan size limit in
          let w = end_of relay_reading (run_of old.plan size limit kinds past) in
          let lines : after ≡ between ++ not_now_lines c (after_all relay_reading c w (events_of a)) b =
          subst (λ (s : WorldState). after ≡ between ++ not_now_lines c s b) (after_all-append c (start_of relay_reading (run_of old.plan size limit kinds past)) past (events_of a))
          (subst (λ p. after ≡ between ++ not_now_lines (configuration_of p size limit) (end_of relay_reading (run_of p size limit kinds (past ++ events_of a))) b) x.plan
          (y.text size limit kinds (past ++ events_of a) (x.represents size limit kinds past represents))) in
          lines ∙ ap (λ (l : List ℕ). l ++ not_now_lines c (after_all relay_reading c w (events_of a)) b) (x.text size limit kinds past represents)
          ∙ append_assoc before (not_now_lines c w a) (not_now_lines c (after_all relay_reading c w (events_of a)) b)
          ∙ ap (λ (l : List ℕ). before ++ l) (sym (not_now_lines-append c w a b));
    }

-- ---- one event

not_now-spent : NotNow ≡ Spent → ⊥
not_now-spent e = cc

happens : (answer : Answer) → answer ≢ NotNow → answer ≢ Spent → Happened answer
happens Done n s = inl refl
happens Dropped n s = inr refl
happens NotNow n s = absurd (n refl)
happens Spent n s = absurd (s refl)

full-not_now : (full : Bool) → NotNow ≡ (if full then Dropped else Done) → ⊥
full-not_now true e = cc
full-not_now false e = cc

act-not_now : (size : ℕ) (w : WorldState) (d : ℕ) (act : Act) → NotNow ≡ answer_of_act size w d act → ⊥
act-not_now size w d (Offered reader point) e = full-not_now (is_full size w d) e
act-not_now size w d Taken e = cc
act-not_now size w d Connected e = cc
act-not_now size w d (Written count) e = cc
act-not_now size w d Lost e = cc

happens-not_now : (size : ℕ) (w : WorldState) (step : Option ActAt) → NotNow ≡ answer_of_step size w step → ⊥
happens-not_now size w None e = cc
happens-not_now size w (Some step) e = act-not_now size w step.dest step.act e

not_allowed : (reading_allows : Bool) (size : ℕ) (w : WorldState) (step : Option ActAt) → NotNow ≡ (if reading_allows then answer_of_step size w step else NotNow) → reading_allows ≡ false
not_allowed false size w step e = refl
not_allowed true size w step e = absurd (happens-not_now size w step e)

allowed : (reading_allows : Bool) (answer other : Answer) → answer ≡ (if reading_allows then other else NotNow) → answer ≢ NotNow → reading_allows ≡ true
allowed true answer other e n = refl
allowed false answer other e n = absurd (n e)

pub not_now-comes : (old new : WorldModel) (e : NumberedEvent) (before : List ℕ) → new.plan ≡ old.plan → HasAsMany new old → Applies old e.event NotNow new
    → EventsCome old new (e ∷ []) before (before ++ not_now_line e.line)
not_now-comes old new e before plan places a =
    let same : new ≡ old = a.unchanged happened-not_now in
    record {
      plan = plan;
      places = places;
      count = let same_events = ap (λ (s : WorldModel). s.events) same in omega (arith, same_events);
      represents = λ size limit kinds past represents. a.represents not_now-spent size limit kinds past represents;
      text = λ size limit kinds past represents.
          let c = configuration_of old.plan size limit in
          let w = end_of relay_reading (run_of old.plan size limit kinds past) in
          let not : is_allowed relay_reading c w e.event ≡ false = not_allowed _ size w _ (a.answers not_now-spent size limit kinds past represents) in
          rw (not, append-nil) refl;
    }

pub event-comes : (old new : WorldModel) (e : NumberedEvent) (answer : Answer) (before : List ℕ) → new.plan ≡ old.plan → HasAsMany new old
    → old.events < last_count → answer ≢ NotNow → Applies old e.event answer new
    → EventsCome old new (e ∷ []) before before
event-comes old new e answer before plan places few happened a =
    let counted : answer ≢ Spent = λ s. let many = (a.spent s).0 in absurd (omega (arith, few, many)) in
    record {
      plan = plan;
      places = places;
      count = let more = a.counted (happens answer happened counted) in omega (arith, more);
      represents = λ size limit kinds past represents. a.represents counted size limit kinds past represents;
      text = λ size limit kinds past represents.
          let c = configuration_of old.plan size limit in
          let w = end_of relay_reading (run_of old.plan size limit kinds past) in
          let yes : is_allowed relay_reading c w e.event ≡ true = allowed _ answer _ (a.answers counted size limit kinds past represents) happened in
          rw (yes, append-nil) refl;
    }
