-- A run is made event by event.
use Rattle.std.proofs.Common.{◌≡◌, ℕ, Bool, true, false, if◌then◌else◌, List, [], ◌∷◌, ◌++◌, inl, inr, refl, sym, ap, subst, ◌∙◌}
use Rattle.std.proofs.lemmas.List.{append-nil, append_assoc}
use Rattle.std.proofs.lemmas.List.Elements.{All-append, All-nil, All-cons}
use Rattle.std.proofs.lemmas.Grind.{flat_map-append}
use Rattle.reader_core.specs.Configuration.{Configuration}
use Rattle.reader_core.specs.Kinds.{relay_reading}
use Rattle.reader_core.specs.PlanConfiguration.{configuration_of}
use Rattle.reader_core.specs.declared.kind.ReaderKind.{ReaderKind}
use Rattle.router.specs.Plan.{Plan}
use Rattle.relay_core.specs.Event.{Happened}
use Rattle.relay_core.specs.OneRun.{AreAllowed}
use Rattle.relay_core.specs.Relay.{run_of}
use Rattle.relay_core.specs.Run.{start_of, end_of}
use Rattle.relay_core.specs.WorldModel.{WorldModel, RepresentsRun, HasAsMany, Applies}
use Rattle.relay_core.specs.World.{WorldState, RunEvent, is_allowed, after, after_all}
use Rattle.relay_core.specs.declared.event.Answer.{Answer}
use Rattle.relay_core.specs.declared.event.Answer.TheVariants.{NotNow, Spent}
use Rattle.run_record.specs.Laws.{IsWritable}
use Rattle.run_record.specs.ScriptLines.{event_line, event_lines, reader_lines, script_text}
use Rattle.run_record.specs.Making.{HasGone, Continues}
use Rattle.run_record.specs.RunScript.{EachAllowed}

pub same-continues : (s : WorldModel) (text : List ℕ) → Continues s s text text []
same-continues s text =
    record {
      plan = refl;
      places = record { readers = refl; destinations = refl };
      goes = λ size limit kinds events gone. subst (λ (l : List RunEvent). HasGone s size limit kinds text l) (sym (append-nil events)) gone;
    }

pub more-continues : (old mid new : WorldModel) (a b c : List ℕ) (first second : List RunEvent) → Continues old mid a b first → Continues mid new b c second
    → Continues old new a c (first ++ second)
more-continues old mid new a b c first second x y =
    record {
      plan = y.plan ∙ x.plan;
      places = record { readers = y.places.readers ∙ x.places.readers; destinations = y.places.destinations ∙ x.places.destinations };
      goes = λ size limit kinds events gone.
          subst (λ (l : List RunEvent). HasGone new size limit kinds c l) (append_assoc events first second)
          (y.goes size limit kinds (events ++ first) (x.goes size limit kinds events gone));
    }

-- ---- an event that happens

allowed-more : (c : Configuration) (w : WorldState) (events : List RunEvent) (event : RunEvent) → AreAllowed relay_reading c w events
    → is_allowed relay_reading c (after_all relay_reading c w events) event ≡ true → AreAllowed relay_reading c w (events ++ event ∷ [])
allowed-more c w [] event are is = (is, tt)
allowed-more c w (first ∷ events) event are is =
    (are.0, allowed-more c (after relay_reading c w first) events event are.1 is)

written-more : (kinds : List ReaderKind) (events : List RunEvent) (event : RunEvent)
    → script_text kinds events ++ event_line event ≡ script_text kinds (events ++ event ∷ [])
written-more kinds events event =
    append_assoc (reader_lines kinds) (event_lines events) (event_line event)
    ∙ ap (λ (l : List ℕ). reader_lines kinds ++ l)
    (ap (λ (l : List ℕ). event_lines events ++ l) (sym (append-nil (event_line event))) ∙ sym (flat_map-append event_line events (event ∷ [])))

not-now : Happened NotNow → ⊥
not-now (inl e) = cc
not-now (inr e) = cc

pub not-spent : (answer : Answer) → Happened answer → answer ≡ Spent → ⊥
not-spent answer (inl h) e = cc
not-spent answer (inr h) e = cc

pub is-allowed : (allows : Bool) (answer other : Answer) → answer ≡ (if allows then other else NotNow) → Happened answer → allows ≡ true
is-allowed true answer other e h = refl
is-allowed false answer other e h = absurd (not-now (subst Happened e h))

pub event-continues : (old new : WorldModel) (event : RunEvent) (answer : Answer) (before longer : List ℕ) → new.plan ≡ old.plan → HasAsMany new old
    → Happened answer → IsWritable event → longer ≡ before ++ event_line event → Applies old event answer new → Continues old new before longer (event ∷ [])
event-continues old new event answer before longer plan places happened writable more applies =
    record {
      plan = plan;
      places = places;
      goes = λ size limit kinds events gone.
          let counted = not-spent answer happened in
          let c = configuration_of old.plan size limit in
          let yes : is_allowed relay_reading c (end_of relay_reading (run_of old.plan size limit kinds events)) event ≡ true =
          is-allowed _ answer _ (applies.answers counted size limit kinds events gone.represents) happened in
          let are : EachAllowed (run_of old.plan size limit kinds (events ++ event ∷ [])) =
          allowed-more c (start_of relay_reading (run_of old.plan size limit kinds events)) events event gone.allowed yes in
          record {
            represents = applies.represents counted size limit kinds events gone.represents;
            allowed = subst (λ (p : Plan). EachAllowed (run_of p size limit kinds (events ++ event ∷ []))) (sym plan) are;
            writable = All-append IsWritable events (event ∷ []) gone.writable (All-cons IsWritable event [] writable (All-nil IsWritable));
            written = more ∙ ap (λ (l : List ℕ). l ++ event_line event) gone.written ∙ written-more kinds events event;
          };
    }

pub nothing-continues : (old new : WorldModel) (event : RunEvent) (answer : Answer) (text : List ℕ) → ¬ Happened answer → Applies old event answer new
    → Continues old new text text []
nothing-continues old new event answer text not applies =
    subst (λ (s : WorldModel). Continues old s text text []) (sym (applies.unchanged not)) (same-continues old text)

pub now-not : ¬ Happened NotNow
now-not h = not-now h

pub spent-not : ¬ Happened Spent
spent-not h = not-spent Spent h refl

pub begins : (s : WorldModel) (size limit : ℕ) (kinds : List ReaderKind) → RepresentsRun s size limit kinds [] → HasGone s size limit kinds (script_text kinds []) []
begins s size limit kinds represents =
    record { represents = represents; allowed = tt; writable = All-nil IsWritable; written = refl }
