-- What the next offer of a reader makes of readers' next numbers.
use Rattle.std.proofs.Common.{◌≡◌, ◌≢◌, ℕ, ◌+◌, ◌<◌, List, [], ◌∷◌, ◌++◌, length, sym, ap, ◌∙◌, zero-add, append_assoc, append-nil, inl, inr, arith}
use Rattle.std.proofs.lemmas.Grind.{common_steps}
use Rattle.std.proofs.lemmas.Bool.Decides.{eqb_tells, nat_tests}
use Rattle.std.proofs.lemmas.List.{map-id}
use Rattle.std.proofs.lemmas.List.FromFn.{map-range_with_len_more}
use Rattle.std.specs.Prelude.{slice_index, slice_set}
use Rattle.std.specs.List.{range_with_len}
use Rattle.dest_queue.specs.Queue.{Queue}
use Rattle.dest_queue.specs.RecordedStep.{RecordedStep, Offered, Took}
use Rattle.dest_queue.specs.History.{queue_after_recorded, Replays, numbers_recorded}

-- one number more
pub range_more : (n : ℕ) → range_with_len 0 n ++ n ∷ [] ≡ range_with_len 0 (n + 1)
range_more n = sym (simp map-id at (map-range_with_len_more (λ (x : ℕ). x) 0 n n (zero-add n)))

-- another reader's offer leaves the number
pub next_other : (q : Queue) (reader r n : ℕ) → r ≢ reader → slice_index (slice_set q.next r n) reader ≡ slice_index q.next reader
next_other q reader r n other = grind (arith, common_steps)

next_own : (next : List ℕ) (reader n : ℕ) → reader < length next → slice_index (slice_set next reader n) reader ≡ n
next_own next reader n lt = grind (arith, common_steps, nat_tests)

-- the numbers below the first next one, and the recorded ones, are those below the last next one
pub numbers_since : (size reader : ℕ) (b q : Queue) (h : List RecordedStep) → Replays size b h q
    → range_with_len 0 (slice_index b.next reader) ++ numbers_recorded reader h ≡ range_with_len 0 (slice_index q.next reader)
numbers_since size reader b q [] same = append-nil (range_with_len 0 (slice_index b.next reader)) ∙ ap (λ s. range_with_len 0 (slice_index s.next reader)) same
numbers_since size reader b q (Offered r n p k ∷ h) goes =
    let rest = numbers_since size reader (queue_after_recorded size b (Offered r n p k)) q h goes.1 in
    elim (eqb_tells r reader) [
      | inl own ↦
          let before : slice_index b.next reader ≡ n = ap (slice_index b.next) (sym own.1) ∙ sym goes.0.0.1 in
          let after : slice_index (slice_set b.next r (slice_index b.next r + 1)) reader ≡ n + 1
          = ap (slice_index (slice_set b.next r (slice_index b.next r + 1))) (sym own.1) ∙ (next_own b.next r (slice_index b.next r + 1) goes.0.0.0 ∙ ap (λ m. m + 1) (sym goes.0.0.1)) in
          rw own.0 (ap (λ m. range_with_len 0 m ++ n ∷ numbers_recorded reader h) before
          ∙ (sym (append_assoc (range_with_len 0 n) (n ∷ []) (numbers_recorded reader h))
          ∙ (ap (λ ns. ns ++ numbers_recorded reader h) (range_more n ∙ ap (range_with_len 0) (sym after)) ∙ rest)))
      | inr other ↦ rw other.0 (ap (λ m. range_with_len 0 m ++ numbers_recorded reader h) (sym (next_other b reader r (slice_index b.next r + 1) other.1)) ∙ rest)
    ]
numbers_since size reader b q (Took l t ∷ h) goes = numbers_since size reader (queue_after_recorded size b (Took l t)) q h goes.1
