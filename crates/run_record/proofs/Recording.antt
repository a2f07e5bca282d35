-- What the queues of a run record, event by event.
use Rattle.std.proofs.Common.{◌≡◌, ℕ, Bool, true, false, not, nat_lt, if◌then◌else◌, List, [], ◌∷◌, ◌++◌, length, map, flat_map, min, All, inl, inr, refl, sym, ap, subst, ◌∙◌, arith}
use Rattle.std.proofs.lemmas.Bool.{lt-ltb}
use Rattle.std.proofs.lemmas.List.{append-nil, append_assoc, length-map, length-take}
use Rattle.std.proofs.lemmas.List.Elements.{All-head, All-tail}
use Rattle.std.proofs.lemmas.Grind.{flat_map-append}
use Rattle.line_text.specs.Datapoint.{Datapoint}
use Rattle.dest_queue.specs.Counts.{counts_of}
use Rattle.dest_queue.specs.Queue.{batch, has_room}
use Rattle.dest_queue.specs.RecordedStep.{RecordedStep, Offered, Took}
use Rattle.dest_queue.specs.declared.counts.Counts.{Counts}
use Rattle.dest_queue.specs.declared.offer.Kept.{Kept}
use Rattle.dest_queue.specs.declared.offer.Kept.TheVariants as kept
use Rattle.queue_records.specs.Numbered.{StepAt}
use Rattle.reader_core.specs.Configuration.{Configuration}
use Rattle.reader_core.specs.Kinds.{relay_reading}
use Rattle.reader_core.specs.PlanConfiguration.{configuration_of}
use Rattle.reader_core.specs.declared.kind.ReaderKind.{ReaderKind}
use Rattle.router.specs.Plan.{Plan}
use Rattle.relay_core.specs.Event.{Happened}
use Rattle.relay_core.specs.Relay.{run_of}
use Rattle.relay_core.specs.Run.{Deed, all_deeds, deeds_by, deed_of, start_of, end_of, dest_in}
use Rattle.relay_core.specs.WorldModel.{WorldModel, SizedDestination, with_sizes, OfItsRuns, Applies}
use Rattle.relay_core.specs.World.{WorldState, RunEvent, Piece, End, Offer, Take, Up, Wrote, Down, is_allowed, step_of, dest_at, after, after_all}
use Rattle.relay_core.specs.declared.event.Answer.{Answer}
use Rattle.relay_core.specs.declared.event.Answer.TheVariants.{Done, Dropped, NotNow, Spent}
use Rattle.run_record.specs.Making.{Continues, Records, happens, answer_of, IsAnswered, IsOffer, IsFirst, IsTake}
use Rattle.run_record.specs.PartEvents.{is_step}
use Rattle.run_record.specs.QueueSteps.{take_recorded, steps_of, steps_in}
use Rattle.run_record.proofs.Making.{is-allowed, not-spent}

-- ---- deeds

deeds-append : (c : Configuration) (w : WorldState) (events more : List RunEvent)
    → all_deeds relay_reading c w (events ++ more) ≡ all_deeds relay_reading c w events ++ all_deeds relay_reading c (after_all relay_reading c w events) more
deeds-append c w [] more = refl
deeds-append c w (event ∷ events) more =
    ap (λ (l : List Deed). deeds_by relay_reading c w event ++ l) (deeds-append c (after relay_reading c w event) events more)
    ∙ sym (append_assoc (deeds_by relay_reading c w event) (all_deeds relay_reading c (after relay_reading c w event) events)
    (all_deeds relay_reading c (after_all relay_reading c (after relay_reading c w event) events) more))

-- what the queues record with these events more
pub steps-append : (plan : Plan) (size limit : ℕ) (kinds : List ReaderKind) (events more : List RunEvent)
    → steps_in (run_of plan size limit kinds (events ++ more))
    ≡ steps_in (run_of plan size limit kinds events)
    ++ flat_map (steps_of (configuration_of plan size limit))
    (all_deeds relay_reading (configuration_of plan size limit) (end_of relay_reading (run_of plan size limit kinds events)) more)
steps-append plan size limit kinds events more =
    let c = configuration_of plan size limit in
    let start = start_of relay_reading (run_of plan size limit kinds events) in
    ap (λ (l : List Deed). flat_map (steps_of (configuration_of plan size limit)) l) (deeds-append c start events more)
    ∙ flat_map-append (steps_of c) (all_deeds relay_reading c start events) (all_deeds relay_reading c (after_all relay_reading c start events) more)

-- ---- events that no queue records

-- whether it happens or not, a deed that is not recorded adds nothing
if-nothing : (b : Bool) (deeds : List Deed) (f : Deed → List StepAt) → flat_map f deeds ≡ [] → flat_map f (if b then deeds else []) ≡ []
if-nothing true deeds f e = e
if-nothing false deeds f e = refl

quiet-event : (c : Configuration) (w : WorldState) (event : RunEvent) → is_step event ≡ false → flat_map (steps_of c) (deeds_by relay_reading c w event) ≡ []
quiet-event c w (Piece r bytes moment) e = if-nothing (is_allowed relay_reading c w (Piece r bytes moment)) [] (steps_of c) refl
quiet-event c w (End r) e = if-nothing (is_allowed relay_reading c w (End r)) [] (steps_of c) refl
quiet-event c w (Offer r) e = cc
quiet-event c w (Take d) e = cc
quiet-event c w (Up d) e = if-nothing (is_allowed relay_reading c w (Up d)) (deed_of relay_reading w (step_of relay_reading c w (Up d))) (steps_of c) refl
quiet-event c w (Wrote d count) e = if-nothing (is_allowed relay_reading c w (Wrote d count)) (deed_of relay_reading w (step_of relay_reading c w (Wrote d count))) (steps_of c) refl
quiet-event c w (Down d) e = if-nothing (is_allowed relay_reading c w (Down d)) (deed_of relay_reading w (step_of relay_reading c w (Down d))) (steps_of c) refl

quiet-events : (c : Configuration) (w : WorldState) (events : List RunEvent) → All (λ (event : RunEvent). is_step event ≡ false) events
    → flat_map (steps_of c) (all_deeds relay_reading c w events) ≡ []
quiet-events c w [] all = refl
quiet-events c w (event ∷ events) all =
    let P : RunEvent → Type 0 = λ (e : RunEvent). is_step e ≡ false in
    flat_map-append (steps_of c) (deeds_by relay_reading c w event) (all_deeds relay_reading c (after relay_reading c w event) events)
    ∙ ap (λ (l : List StepAt). l ++ flat_map (steps_of c) (all_deeds relay_reading c (after relay_reading c w event) events)) (quiet-event c w event (All-head P event events all))
    ∙ quiet-events c (after relay_reading c w event) events (All-tail P event events all)

pub records-none : (old : WorldModel) (limit : ℕ) (text : List ℕ) (added : List RunEvent) → All (λ (event : RunEvent). is_step event ≡ false) added → Records old limit text added []
records-none old limit text added all = λ size kinds events gone.
    let c = configuration_of old.plan size limit in
    steps-append old.plan size limit kinds events added
    ∙ ap (λ (l : List StepAt). steps_in (run_of old.plan size limit kinds events) ++ l)
    (quiet-events c (end_of relay_reading (run_of old.plan size limit kinds events)) added all)

-- ---- one after another

pub records-more : (old mid : WorldModel) (limit : ℕ) (a b : List ℕ) (first second : List RunEvent) (steps more : List StepAt) (new : WorldModel)
    → Continues old mid a b first → Records old limit a first steps → Records mid limit b second more → Records old limit a (first ++ second) (steps ++ more)
records-more old mid limit a b first second steps more new goes one two = λ size kinds events gone.
    let next = goes.goes size limit kinds events gone in
    let second_too : steps_in (run_of old.plan size limit kinds ((events ++ first) ++ second)) ≡ steps_in (run_of old.plan size limit kinds (events ++ first)) ++ more =
    subst (λ (p : Plan). steps_in (run_of p size limit kinds ((events ++ first) ++ second)) ≡ steps_in (run_of p size limit kinds (events ++ first)) ++ more)
    goes.plan (two size kinds (events ++ first) next) in
    ap (λ (l : List RunEvent). steps_in (run_of old.plan size limit kinds l)) (sym (append_assoc events first second))
    ∙ second_too
    ∙ ap (λ (l : List StepAt). l ++ more) (one size kinds events gone)
    ∙ append_assoc (steps_in (run_of old.plan size limit kinds events)) steps more

-- ---- an event that happens

pub happened-of : (answer : Answer) → happens answer ≡ true → Happened answer
happened-of Done e = inl refl
happened-of Dropped e = inr refl
happened-of NotNow e = cc
happened-of Spent e = cc

pub answered-happens : (step : RecordedStep) (answer : Answer) → IsAnswered step answer → happens answer ≡ true
answered-happens (Offered r n p kept.Queued) answer e = rw e refl
answered-happens (Offered r n p kept.Dropped) answer e = rw e refl
answered-happens (Took limit taken) answer e = absurd e

-- it is what it does at its destination
one-deed : (c : Configuration) (w : WorldState) (event : RunEvent) → is_allowed relay_reading c w event ≡ true
    → flat_map (steps_of c) (all_deeds relay_reading c w (event ∷ [])) ≡ flat_map (steps_of c) (deed_of relay_reading w (step_of relay_reading c w event))
one-deed c w event may =
    ap (λ (l : List Deed). flat_map (steps_of c) l) (append-nil (deeds_by relay_reading c w event))
    ∙ ap (λ (b : Bool). flat_map (steps_of c) (if b then deed_of relay_reading w (step_of relay_reading c w event) else [])) may

-- ---- an offer

kept-so : (k : Kept) (room : Bool) → answer_of k ≡ (if not room then Dropped else Done) → k ≡ (if room then kept.Queued else kept.Dropped)
kept-so kept.Queued true e = refl
kept-so kept.Queued false e = cc
kept-so kept.Dropped true e = cc
kept-so kept.Dropped false e = refl

same-offer : (step : RecordedStep) (reader number : ℕ) (point : Datapoint) (answer : Answer) (room : Bool) → IsOffer step reader number point → IsAnswered step answer
    → answer ≡ (if not room then Dropped else Done) → Offered reader number point (if room then kept.Queued else kept.Dropped) ≡ step
same-offer (Offered r n p k) reader number point answer room is answered e =
    let same : k ≡ (if room then kept.Queued else kept.Dropped) = kept-so k room (sym answered ∙ e) in
    rw (is.0, is.1, is.2, same) refl
same-offer (Took limit taken) reader number point answer room is answered e = absurd is

pub offer-records : (old new : WorldModel) (limit : ℕ) (text : List ℕ) (reader dest : ℕ) (step : RecordedStep) (answer : Answer)
    → IsFirst old reader dest step → IsAnswered step answer → happens answer ≡ true → Applies old (Offer reader) answer new
    → Records old limit text (Offer reader ∷ []) (record { dest = dest; step = step } ∷ [])
offer-records old new limit text reader dest step answer first answered happened applies = λ size kinds events gone.
    let c = configuration_of old.plan size limit in
    let w = end_of relay_reading (run_of old.plan size limit kinds events) in
    let waits = first.waits size limit kinds events gone.represents in
    let may : is_allowed relay_reading (configuration_of old.plan size limit) (end_of relay_reading (run_of old.plan size limit kinds events)) (Offer reader) ≡ true = rw waits.1 refl in
    let count : length old.destinations ≡ length (end_of relay_reading (run_of old.plan size limit kinds events)).destinations =
    ap (λ (l : List SizedDestination). length l) gone.represents.destinations_are ∙ length-map w.destinations (with_sizes size limit) in
    let below : nat_lt dest (length (end_of relay_reading (run_of old.plan size limit kinds events)).destinations) ≡ true =
    lt-ltb _ _ (omega (arith, first.there, count)) in
    let room = has_room size (dest_at w dest).queue in
    let told : answer ≡ (if not (has_room size (dest_at (end_of relay_reading (run_of old.plan size limit kinds events)) dest).queue) then Dropped else Done) =
    applies.answers (not-spent answer (happened-of answer happened)) size limit kinds events gone.represents ∙ rw (may, waits.1, below) refl in
    steps-append old.plan size limit kinds events (Offer reader ∷ [])
    ∙ ap (λ (l : List StepAt). steps_in (run_of old.plan size limit kinds events) ++ l)
    (one-deed c w (Offer reader) may
    ∙ rw (waits.1, ← (first.numbered size limit kinds events gone.represents))
    (ap (λ (s : RecordedStep). (record { dest = dest; step = s } ∷ [])) (same-offer step reader first.number first.point answer room first.is answered told)))

-- ---- a take

same-take : (step : RecordedStep) (limit queued : ℕ) → IsTake step limit queued → take_recorded limit (min limit queued) ≡ step ∷ []
same-take (Offered r n p k) limit queued is = absurd is
same-take (Took own taken) limit queued is =
    rw (← is.1, is.0, lt-ltb 0 taken is.2) refl

pub take-records : (old new : WorldModel) (limit : ℕ) (text : List ℕ) (dest : ℕ) (step : RecordedStep) (answer : Answer) (counts : Counts)
    → OfItsRuns old (λ run. counts ≡ counts_of (dest_in relay_reading run dest).queue) → IsTake step limit counts.queued → happens answer ≡ true
    → Applies old (Take dest) answer new
    → Records old limit text (Take dest ∷ []) (record { dest = dest; step = step } ∷ [])
take-records old new limit text dest step answer counts counted is happened applies = λ size kinds events gone.
    let c = configuration_of old.plan size limit in
    let w = end_of relay_reading (run_of old.plan size limit kinds events) in
    let happened_so = happened-of answer happened in
    let may : is_allowed relay_reading (configuration_of old.plan size limit) (end_of relay_reading (run_of old.plan size limit kinds events)) (Take dest) ≡ true =
    is-allowed _ answer _ (applies.answers (not-spent answer happened_so) size limit kinds events gone.represents) happened_so in
    let taken : length (batch limit (dest_at w dest).queue) ≡ min limit counts.queued =
    length-take limit (dest_at w dest).queue.points ∙ ap (λ (k : Counts). min limit k.queued) (sym (counted size limit kinds events gone.represents)) in
    steps-append old.plan size limit kinds events (Take dest ∷ [])
    ∙ ap (λ (l : List StepAt). steps_in (run_of old.plan size limit kinds events) ++ l)
    (one-deed c w (Take dest) may
    ∙ append-nil (map (λ (s : RecordedStep). record { dest = dest; step = s }) (take_recorded limit (length (batch limit (dest_at w dest).queue))))
    ∙ ap (λ (n : ℕ). map (λ (s : RecordedStep). record { dest = dest; step = s }) (take_recorded limit n)) taken
    ∙ ap (λ (l : List RecordedStep). map (λ (s : RecordedStep). record { dest = dest; step = s }) l) (same-take step limit counts.queued is))
