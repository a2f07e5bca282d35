-- Whole numbers are read back from their bytes.
use Rattle.std.proofs.Common.{◌≡◌, ℕ, suc, ◌+◌, ◌*◌, ◌-◌, ◌<◌, ◌≤◌, ◌^◌, Bool, true, false, cond, [], length, refl, sym, ap, ◌∙◌, arith}
use Rattle.std.specs.Prelude.{ℤ, pos, negsuc, ◌-ℤ◌}
use Rattle.std.proofs.lemmas.Bool.{ltb-true, lt-ltb, le-ltb}
use Rattle.std.proofs.lemmas.List.{append-nil}
use Rattle.std.proofs.lemmas.Int.{ints}
use Rattle.byteorder.specs.Endian.{little_bytes, little_number, big_bytes, big_number, twos_complement}
use Rattle.byteorder.specs.Numbers.{little_number-reads_back, big_number-reads_back, length-bytes_low_first}
use Rattle.pickle_subset.specs.Table.{signed_number}
use Rattle.pickle_subset.specs.Python.{fits, signed_bytes, long_size}

pub little_back : (size n : ℕ) → n < 256 ^ size → little_number size (little_bytes size n) ≡ n
little_back size n below = ap (little_number size) (sym (append-nil (little_bytes size n))) ∙ little_number-reads_back size n [] below

pub big_back : (size n : ℕ) → n < 256 ^ size → big_number size (big_bytes size n) ≡ n
big_back size n below = ap (big_number size) (sym (append-nil (big_bytes size n))) ∙ big_number-reads_back size n [] below

pub length-signed_bytes : (size : ℕ) (number : ℤ) → length (signed_bytes size number) ≡ size
length-signed_bytes size (pos n) = length-bytes_low_first 0 size n
length-signed_bytes size (negsuc n) = length-bytes_low_first 0 size (2 ^ (8 * size) - suc n)

-- a size in bytes at which two's complement is read back
pub record IsSize (size : ℕ) : Type 0 where
  pub whole : 256 ^ size ≡ 2 * 2 ^ (8 * size - 1)
  pub bits : 2 ^ (8 * size) ≡ 2 * 2 ^ (8 * size - 1)

below_zero : (n x all : ℕ) → x + suc n ≡ all → pos x -ℤ pos all ≡ negsuc n
below_zero n x all sum = omega (arith, ints)

read_signed : (size : ℕ) (number : ℤ) → IsSize size → fits size number ≡ true → twos_complement size (little_number size (signed_bytes size number)) ≡ number
read_signed size (pos n) s fit =
    let below : n < 2 ^ (8 * size - 1) = ltb-true n (2 ^ (8 * size - 1)) fit in
    let back : little_number size (little_bytes size n) ≡ n = little_back size n (omega (arith, s.whole)) in
    ap (twos_complement size) back ∙ rw (lt-ltb n (2 ^ (8 * size - 1)) below) refl
read_signed size (negsuc n) s fit =
    let below : n < 2 ^ (8 * size - 1) = ltb-true n (2 ^ (8 * size - 1)) fit in
    let x = 2 ^ (8 * size) - suc n in
    let back : little_number size (little_bytes size x) ≡ x = little_back size x (omega (arith, s.whole, s.bits)) in
    let high : 2 ^ (8 * size - 1) ≤ x = omega (arith, s.bits) in
    let sum : x + suc n ≡ 2 ^ (8 * size) = omega (arith, s.bits) in
    ap (twos_complement size) back
    ∙ ap (λ (b : Bool). cond b (pos x) (pos x -ℤ pos (2 ^ (8 * size)))) (le-ltb x (2 ^ (8 * size - 1)) high)
    ∙ below_zero n x (2 ^ (8 * size)) sum

pub signed_back : (size : ℕ) (number : ℤ) → IsSize size → fits size number ≡ true → signed_number (signed_bytes size number) ≡ number
signed_back size number s fit =
    ap (λ (n : ℕ). twos_complement n (little_number n (signed_bytes size number))) (length-signed_bytes size number)
    ∙ read_signed size number s fit

pub IsSize-4 : IsSize 4
IsSize-4 = record { whole = refl; bits = refl }

-- ---- the size of a long number

pub record IsLong (size : ℕ) (number : ℤ) : Type 0 where
  pub is_size : IsSize size
  pub is_fit : fits size number ≡ true
  pub most : size ≤ 8

shortest : (number : ℤ) (b c d : Bool) → fits 5 number ≡ b → fits 6 number ≡ c → fits 7 number ≡ d → fits 8 number ≡ true → IsLong (cond b 5 (cond c 6 (cond d 7 8))) number
shortest number true c d five six seven eight = record { is_size = record { whole = refl; bits = refl }; is_fit = five; most = omega arith }
shortest number false true d five six seven eight = record { is_size = record { whole = refl; bits = refl }; is_fit = six; most = omega arith }
shortest number false false true five six seven eight = record { is_size = record { whole = refl; bits = refl }; is_fit = seven; most = omega arith }
shortest number false false false five six seven eight = record { is_size = record { whole = refl; bits = refl }; is_fit = eight; most = omega arith }

pub long_is : (number : ℤ) → fits 8 number ≡ true → IsLong (long_size number) number
long_is number eight = shortest number (fits 5 number) (fits 6 number) (fits 7 number) refl refl refl eight
