-- How a value is stored: its units as two words of 64 bits, the upper one with the sign.
use Rattle.std.proofs.Common.{◌≡◌, ℕ, ◌+◌, ◌*◌, ◌-◌, ◌<◌, ◌^◌, ap, ◌∙◌, arith}
use Rattle.std.proofs.lemmas.Int.{ints}
use Rattle.std.specs.Prelude.{ℤ, pos, negsuc, nat_abs, ◌+ℤ◌, ◌*ℤ◌}
use Rattle.std.specs.Int.{int_div_euclid, int_rem_euclid}
use Rattle.std.proofs.lemmas.Nat.{div-mul-add, mod-mul-add}
use Rattle.line_text.specs.declared.value.Value.TheInside.{Inside}

-- how many numbers the lower word has
abbrev pub word_size : ℕ
word_size = 2 ^ 64

abbrev pub units_of_words : ℤ → ℕ → ℤ
units_of_words upper lower = upper *ℤ pos word_size +ℤ pos lower

abbrev pub upper_word : ℤ → ℤ
upper_word units = int_div_euclid units (pos word_size)

abbrev pub lower_word : ℤ → ℕ
lower_word units = nat_abs (int_rem_euclid units (pos word_size))

-- units below zero, by their words
below_zero : (n lower : ℕ) → lower < word_size → units_of_words (negsuc n) lower ≡ negsuc (n * word_size + (word_size - 1 - lower))
below_zero n lower within = omega (arith, ints, within)

upper_again : (upper : ℤ) (lower : ℕ) → lower < word_size → upper_word (units_of_words upper lower) ≡ upper
upper_again (pos n) lower within = ap pos (div-mul-add n word_size lower within)
upper_again (negsuc n) lower within =
    ap upper_word (below_zero n lower within) ∙ ap negsuc (div-mul-add n word_size (word_size - 1 - lower) (omega arith))

lower_again : (upper : ℤ) (lower : ℕ) → lower < word_size → lower_word (units_of_words upper lower) ≡ lower
lower_again (pos n) lower within = mod-mul-add n word_size lower within
lower_again (negsuc n) lower within =
    ap lower_word (below_zero n lower within) ∙ ap (λ left. word_size - 1 - left) (mod-mul-add n word_size (word_size - 1 - lower) (omega arith)) ∙ omega (arith, within)

abbrev pub words_in : ℤ → ℕ → Inside
words_in upper lower = record { upper = upper; lower = lower }

-- the units of two words have these two words
pub words_again : (upper : ℤ) (lower : ℕ) → lower < word_size
    → words_in (upper_word (units_of_words upper lower)) (lower_word (units_of_words upper lower)) ≡ words_in upper lower
words_again upper lower within =
    ap (λ found. words_in found (lower_word (units_of_words upper lower))) (upper_again upper lower within)
    ∙ ap (words_in upper) (lower_again upper lower within)
