-- Bytes that move line by line are those of one write.
use Rattle.std.proofs.Common.{◌≡◌, ℕ, zero, suc, ◌+◌, ◌-◌, ◌≤◌, List, [], ◌∷◌, ◌++◌, length, take, refl, ap, ◌∙◌, arith}
use Rattle.std.proofs.lemmas.Grind.{common_steps}
use Rattle.std.proofs.lemmas.List.{append_assoc}
use Rattle.dest_writer.specs.Writer.{WriterState, left, bytes_left, bytes_written, writer_after_write}
use Rattle.dest_writer.specs.Laws.{WritesAddUpLaw}

pub take-of : (n m : ℕ) (xs : List ℕ) → n ≤ m → take n (take m xs) ≡ take n xs
take-of zero m xs within = refl
take-of (suc n) zero xs within = absurd (omega (arith, within))
take-of (suc n) (suc m) [] within = refl
take-of (suc n) (suc m) (x ∷ xs) within = ap (λ ys. x ∷ ys) (take-of n m xs (omega (arith, within)))

left-after : (m : ℕ) (w : WriterState) → m ≤ left w → left (writer_after_write m w) ≡ left w - m
left-after m w within = grind (arith, common_steps)

module _ (law : WritesAddUpLaw) (next count : ℕ) (w y : WriterState) (step : y ≡ writer_after_write next w) (less : next ≤ count) (within : count ≤ left w) where
  sum : next + (count - next) ≡ count
  sum = omega (arith, less)

  sum-within : next + (count - next) ≤ left w
  sum-within = omega (arith, less, within)

  pub rest-within : count - next ≤ left y
  rest-within =
      let after : left y ≡ left w - next = ap (λ (v : WriterState). left v) step ∙ left-after next w (omega (arith, less, within)) in
      omega (arith, after, within, less)

  pub rest-leads : writer_after_write (count - next) y ≡ writer_after_write count w
  rest-leads =
      ap (λ (v : WriterState). writer_after_write (count - next) v) step
      ∙ (law next (count - next) w sum-within).step
      ∙ ap (λ (n : ℕ). writer_after_write n w) sum

  pub rest-bytes : (to bytes moved : List ℕ) → bytes ≡ take (length bytes) (bytes_left w) → next ≤ length bytes → moved ≡ to ++ take next bytes
      → moved ++ bytes_written (count - next) y ≡ to ++ bytes_written count w
  rest-bytes to bytes moved are short is =
      let taken : take next bytes ≡ bytes_written next w = ap (take next) are ∙ take-of next (length bytes) (bytes_left w) short in
      ap (λ (xs : List ℕ). xs ++ bytes_written (count - next) y) (is ∙ ap (λ (xs : List ℕ). to ++ xs) taken)
      ∙ ap (λ (v : WriterState). (to ++ bytes_written next w) ++ bytes_written (count - next) v) step
      ∙ append_assoc to (bytes_written next w) (bytes_written (count - next) (writer_after_write next w))
      ∙ ap (λ (xs : List ℕ). to ++ xs) ((law next (count - next) w sum-within).bytes ∙ ap (λ (n : ℕ). bytes_written n w) sum)

  -- the last write moves all that is left
  pub last-leads : count - next ≡ 0 → y ≡ writer_after_write count w
  last-leads none =
      let same : next ≡ count = omega (arith, none, less) in
      step ∙ ap (λ (n : ℕ). writer_after_write n w) same

  pub last-bytes : (to bytes moved : List ℕ) → bytes ≡ take (length bytes) (bytes_left w) → next ≤ length bytes → moved ≡ to ++ take next bytes
      → count - next ≡ 0 → moved ≡ to ++ bytes_written count w
  last-bytes to bytes moved are short is none =
      let same : next ≡ count = omega (arith, none, less) in
      is ∙ ap (λ (xs : List ℕ). to ++ xs)
      (ap (take next) are ∙ take-of next (length bytes) (bytes_left w) short ∙ ap (λ (n : ℕ). bytes_written n w) same)
