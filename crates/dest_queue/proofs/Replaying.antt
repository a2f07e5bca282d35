-- Histories, step by step.
use Rattle.std.proofs.Common.{◌≡◌, ℕ, ◌+◌, ◌-◌, ◌≤◌, min, Bool, true, false, List, [], ◌∷◌, ◌++◌, length, take, drop, refl, sym, subst, ap, ◌∙◌, append_assoc, append-nil, arith}
use Rattle.std.proofs.lemmas.Grind.{common_steps}
use Rattle.std.proofs.lemmas.List.{length-take, length-append, length-drop, drop-drop, drop-append-le, drop_min}
use Rattle.std.specs.Prelude.{if◌then◌else◌}
use Rattle.line_text.specs.Datapoint.{Datapoint}
use Rattle.dest_queue.specs.Queue.{Queue, has_room}
use Rattle.dest_queue.specs.RecordedStep.{RecordedStep, Offered, Took}
use Rattle.dest_queue.specs.History.{IsDone, queue_after_recorded, Replays, points_queued, count_taken}
use Rattle.dest_queue.specs.declared.offer.Kept.TheVariants.{Queued, Dropped}

-- one step more
pub replays_more : (size : ℕ) (b q q' : Queue) (h : List RecordedStep) (e : RecordedStep) → Replays size b h q → IsDone size q e → queue_after_recorded size q e ≡ q' → Replays size b (h ++ e ∷ []) q'
replays_more size b q q' [] e same done is = (subst (λ s. IsDone size s e) (sym same) done, subst (λ s. queue_after_recorded size s e ≡ q') (sym same) is)
replays_more size b q q' (s ∷ h) e goes done is = (goes.0, replays_more size (queue_after_recorded size b s) q q' h e goes.1 done is)

-- what was taken since the base
pub taken_since : (size : ℕ) (b q : Queue) (h : List RecordedStep) → Replays size b h q → q.taken ≡ b.taken + count_taken h
taken_since size b q [] same = grind (arith, same)
taken_since size b q (Offered r n p k ∷ h) goes = taken_since size (queue_after_recorded size b (Offered r n p k)) q h goes.1
taken_since size b q (Took l t ∷ h) goes = let rest = taken_since size (queue_after_recorded size b (Took l t)) q h goes.1 in omega (arith, rest, goes.0.0)

-- an offer that was queued found room, and one that was dropped found none
found_room : (b : Bool) → Queued ≡ (if b then Queued else Dropped) → b ≡ true
found_room true is = refl
found_room false is = grind (arith, is)

found_none : (b : Bool) → Dropped ≡ (if b then Queued else Dropped) → b ≡ false
found_none true is = grind (arith, is)
found_none false is = refl

drop_taken : (l t c : ℕ) (ps qs : List Datapoint) → t ≡ length (take l ps) → drop (t + c) (ps ++ qs) ≡ drop c (drop l ps ++ qs)
drop_taken l t c ps qs is =
    let count : t ≡ min l (length ps) = is ∙ length-take l ps in
    let fits : t ≤ length ps = grind (arith, count) in
    sym (drop-drop c t (ps ++ qs)) ∙ ap (drop c) (drop-append-le t ps qs fits ∙ ap (λ r. r ++ qs) (ap (λ n. drop n ps) count ∙ drop_min l ps))

-- the queue is what the base had and what was queued since, without what was taken
pub points_since : (size : ℕ) (b q : Queue) (h : List RecordedStep) → Replays size b h q → drop (count_taken h) (b.points ++ points_queued h) ≡ q.points
points_since size b q [] same = append-nil b.points ∙ ap (λ s. s.points) same
points_since size b q (Offered r n p Queued ∷ h) goes =
    let room = found_room (has_room size b) goes.0.1 in
    let rest = points_since size (queue_after_recorded size b (Offered r n p Queued)) q h goes.1 in
    ap (drop (count_taken h)) (sym (append_assoc b.points (p ∷ []) (points_queued h))) ∙ subst (λ is. drop (count_taken h) ((if is then b.points ++ p ∷ [] else b.points) ++ points_queued h) ≡ q.points) room rest
points_since size b q (Offered r n p Dropped ∷ h) goes =
    let room = found_none (has_room size b) goes.0.1 in
    let rest = points_since size (queue_after_recorded size b (Offered r n p Dropped)) q h goes.1 in
    subst (λ is. drop (count_taken h) ((if is then b.points ++ p ∷ [] else b.points) ++ points_queued h) ≡ q.points) room rest
points_since size b q (Took l t ∷ h) goes =
    drop_taken l t (count_taken h) b.points (points_queued h) goes.0.0 ∙ points_since size (queue_after_recorded size b (Took l t)) q h goes.1

-- no more was taken
pub taken_of_these : (size : ℕ) (b q : Queue) (h : List RecordedStep) → Replays size b h q → count_taken h ≤ length (b.points ++ points_queued h)
taken_of_these size b q [] same = omega arith
taken_of_these size b q (Offered r n p Queued ∷ h) goes =
    let room = found_room (has_room size b) goes.0.1 in
    let rest = taken_of_these size (queue_after_recorded size b (Offered r n p Queued)) q h goes.1 in
    subst (λ ps. count_taken h ≤ length ps) (append_assoc b.points (p ∷ []) (points_queued h)) (subst (λ is. count_taken h ≤ length ((if is then b.points ++ p ∷ [] else b.points) ++ points_queued h)) room rest)
taken_of_these size b q (Offered r n p Dropped ∷ h) goes =
    let room = found_none (has_room size b) goes.0.1 in
    let rest = taken_of_these size (queue_after_recorded size b (Offered r n p Dropped)) q h goes.1 in
    subst (λ is. count_taken h ≤ length ((if is then b.points ++ p ∷ [] else b.points) ++ points_queued h)) room rest
taken_of_these size b q (Took l t ∷ h) goes =
    let rest = taken_of_these size (queue_after_recorded size b (Took l t)) q h goes.1 in
    let count : t ≡ min l (length b.points) = goes.0.0 ∙ length-take l b.points in
    let before : length (b.points ++ points_queued h) ≡ length b.points + length (points_queued h) = length-append b.points (points_queued h) in
    let after : length (drop l b.points ++ points_queued h) ≡ (length b.points - l) + length (points_queued h) = length-append (drop l b.points) (points_queued h) ∙ ap (λ n. n + length (points_queued h)) (length-drop l b.points) in
    grind (arith, common_steps, rest, count, before, after)
