use Rattle.std.proofs.Common.{◌≡◌, ◌<◌, ◌≤◌, ℕ, List, [], ◌∷◌, length, map, set, get_or, arith, refl, ap, subst, ◌∙◌}
use Rattle.std.proofs.lemmas.List.{length-map}
use Rattle.std.specs.String.{string_bytes}
use Rattle.dest_queue.specs.Step.{recorded_of}
use Rattle.queue_records.specs.Numbered.{StepAt}
use Rattle.relay_core.specs.Event.{run_event}
use Rattle.relay_core.specs.World.{RunEvent, Offer}
use Rattle.relay_core.specs.WorldModel.{WorldModel}
use Rattle.run_record.specs.Making.{Continues, Records, Reaches, Moves}
use Rattle.run_record.specs.PartEvents.{lists_of, list_at}
use Rattle.run_record.specs.declared.applying.Part.TheVariants.{Reader}
use Rattle.run_record.proofs.Lists.{reaches-none, reaches-more, reaches-beside, reaches-end, next-event, moves-there, records-step}
use Rattle.run_record.proofs.events.offer.Goals as goal

pub loop-place-init : goal.loop-place-init
loop-place-init c =
    record {
      reaches = reaches-none (Reader c.args.reader) (map run_event c.in-Some.list.now) c.start_at-start.result c.args.world.now (string_bytes c.args.text.now);
      same = refl;
    }

pub loop-place-preserved : goal.loop-place-preserved
loop-place-preserved c =
    let list = c.in-Some.list.now in
    let event = c.index-list-place.result in
    let below : c.loop-place.place < length c.in-Some.list.now = omega arith in
    record {
      reaches = reaches-more (Reader c.args.reader) (map run_event list) c.start_at-start.result c.loop-place.place c.args.world.now c.loop-place.world c.apply_own.new.world
          (string_bytes c.args.text.now) (string_bytes c.loop-place.text) (string_bytes c.apply_own.new.text) (run_event event) c.loop-place.invariant.reaches
          c.in_ok-apply_own.ensures.continues c.in_ok-apply_own.ensures.own (next-event list c.loop-place.place event below c.index-list-place.is);
      same = c.loop-place.invariant.same;
    }

-- the offer is made at this place of the list
made-there : (lists : List (List RunEvent)) (starts kept moved : List ℕ) (list : List RunEvent) (start place reader limit : ℕ) (old mid new : WorldModel) (a b c : List ℕ) (step : StepAt)
    → list ≡ list_at lists reader → start ≡ get_or starts reader 0 → kept ≡ starts → reader < length kept → moved ≡ set kept reader place
    → Reaches (Reader reader) list start place old mid a b [] [] → Continues mid new b c (Offer reader ∷ []) → Records mid limit b (Offer reader ∷ []) (step ∷ [])
    → Moves (Reader reader) lists starts moved limit old new a c [] (Offer reader ∷ []) (step ∷ [])
unfolding reaches-beside
made-there lists starts kept moved list start place reader limit old mid new a b c step listed started same within moves reaches goes records =
    moves-there (Reader reader) lists starts moved list start place reader limit old new a c [] (Offer reader ∷ []) (step ∷ []) refl listed started
    (subst (λ (s : List ℕ). reader < length s) same within) (moves ∙ ap (λ (s : List ℕ). set s reader place) same)
    (reaches-beside (Reader reader) list start place old mid new a b c (Offer reader ∷ []) reaches goes)
    (records-step (Reader reader) list start place limit old mid new a b (Offer reader ∷ []) (step ∷ []) reaches records)

pub returns-then-is_some : goal.returns-then-is_some
returns-then-is_some c = λ limit.
    let step : StepAt = record { dest = c.args.dest; step = recorded_of c.args.step.now } in
    made-there (lists_of c.args.lists.now) c.args.starts.now c.loop-place.starts c.move_to.new.starts (map run_event c.in-Some.list.now) c.start_at-start.result c.loop-place.place
    c.args.reader limit c.args.world.now c.loop-place.world c.make_offer.new.world (string_bytes c.args.text.now) (string_bytes c.loop-place.text) (string_bytes c.make_offer.new.text)
    step c.in-Some.ensures.list c.start_at-start.ensures c.loop-place.invariant.same c.in_ok-move_to.ensures.there c.in_ok-move_to.ensures.moved c.loop-place.invariant.reaches
    c.in_ok-make_offer.ensures.continues (c.in_ok-make_offer.ensures.records limit)

pub returns : goal.returns
returns c = λ limit.
    let step : StepAt = record { dest = c.args.dest; step = recorded_of c.args.step.now } in
    let list = map run_event c.in-Some.list.now in
    let past : length (map run_event c.in-Some.list.now) ≤ c.loop-place.place = omega (arith, length-map c.in-Some.list.now run_event) in
    let all : length (map run_event c.in-Some.list.now) ≤ length c.in-Some.list.now = omega (arith, length-map c.in-Some.list.now run_event) in
    made-there (lists_of c.args.lists.now) c.args.starts.now c.loop-place.starts c.move_to-2.new.starts list c.start_at-start.result (length c.in-Some.list.now)
    c.args.reader limit c.args.world.now c.loop-place.world c.make_offer-2.new.world (string_bytes c.args.text.now) (string_bytes c.loop-place.text) (string_bytes c.make_offer-2.new.text)
    step c.in-Some.ensures.list c.start_at-start.ensures c.loop-place.invariant.same c.in_ok-move_to-2.ensures.there c.in_ok-move_to-2.ensures.moved
    (reaches-end (Reader c.args.reader) list c.start_at-start.result c.loop-place.place (length c.in-Some.list.now) c.args.world.now c.loop-place.world (string_bytes c.args.text.now)
    (string_bytes c.loop-place.text) [] past all c.loop-place.invariant.reaches)
    c.in_ok-make_offer-2.ensures.continues (c.in_ok-make_offer-2.ensures.records limit)
