-- A past that records one step more.
use Rattle.std.proofs.Common.{◌≡◌, ◌<◌, ◌≤◌, ◌+◌, ◌++◌, ◌∷◌, [], ◌∙◌, ℕ, length, sym, ap, subst, arith}
use Rattle.std.proofs.lemmas.List.{length_push}
use Rattle.std.specs.Vec.{vec_len, vec_capacity}
use Rattle.dest_queue.specs.Queue.{most_steps}
use Rattle.dest_queue.specs.Stored.{HasRoom, steps_until_now}
use Rattle.dest_queue.specs.declared.base.Base.{Base}
use Rattle.dest_queue.specs.declared.past.PastQueue.{PastQueue}
use Rattle.dest_queue.specs.declared.step.Step.{Step}

module _ (p p' : PastQueue) (step : Step) (base : p'.base ≡ p.base) (history : p'.history.items ≡ p.history.items ++ step ∷ []) where
  pub room-recorded : (size : ℕ) → vec_capacity p'.history ≡ vec_capacity p.history → HasRoom size p → HasRoom size p'
  room-recorded size capacity room =
      record {
        base = subst (λ (b : Base). size + most_steps ≤ b.room) (sym base) room.base;
        history = subst (λ (n : ℕ). most_steps ≤ n) (sym capacity) room.history;
        base_points = subst (λ (b : Base). length b.queue.points ≤ size) (sym base) room.base_points;
      }

  one-longer : length p'.history.items ≡ length p.history.items + 1
  one-longer = ap length history ∙ length_push p.history.items step

  pub recorded-within : vec_len p.history < most_steps → length p'.history.items ≤ most_steps
  recorded-within below = let longer = one-longer in let len = p.history.ok.0 in omega (arith, longer, len, below)

  pub recorded-some : 0 < length p'.history.items
  recorded-some = let longer = one-longer in omega (arith, longer)

  pub one-more-step : steps_until_now p' ≡ steps_until_now p + 1
  one-more-step =
      let longer = one-longer in
      let same = ap (λ (b : Base). b.queue.recorded) base in
      omega (arith, longer, same)
