-- What the parts of a row that is written whole spell.
use Rattle.std.proofs.Common.{◌≡◌, ℕ, ℤ, List, [], ◌∷◌, length, Option, Ok, refl, arith}
use Rattle.std.specs.Prelude.{pos, IfSome}
use Rattle.std.proofs.lemmas.Bool.{le-ltb}
use Rattle.std.proofs.lemmas.Option.{IfSome_then}
use Rattle.byteorder.specs.Endian.{little_number, big_number}
use Rattle.pickle_subset.specs.declared.place.Place.{Place}
use Rattle.pickle_subset.specs.Instruction.{bytes_at}
use Rattle.pickle_subset.specs.Value.{Whole, Binary}
use Rattle.pickle_subset.specs.Table.{Action, Push, JoinTwo, signed_number}
use Rattle.pickle_subset.specs.UsualRow.{action_at, actions_at, place_action, BeginWith}

-- ---- numbers: the action that an opcode spells with its argument

pub whole_of_four : (bytes tail number rest : List ℕ) (z : ℤ) → bytes ≡ 0x4a ∷ tail → bytes_at 4 tail ≡ Ok (number, rest) → z ≡ signed_number number
    → action_at bytes ≡ Ok (Push (Whole z), rest)
whole_of_four bytes tail number rest z begins part value = rw (begins, part, value) refl

pub whole_of_one : (bytes tail number rest : List ℕ) (z : ℤ) → bytes ≡ 0x4b ∷ tail → bytes_at 1 tail ≡ Ok (number, rest) → z ≡ pos (little_number 1 number)
    → action_at bytes ≡ Ok (Push (Whole z), rest)
whole_of_one bytes tail number rest z begins part value = rw (begins, part, value) refl

pub whole_of_two : (bytes tail number rest : List ℕ) (z : ℤ) → bytes ≡ 0x4d ∷ tail → bytes_at 2 tail ≡ Ok (number, rest) → z ≡ pos (little_number 2 number)
    → action_at bytes ≡ Ok (Push (Whole z), rest)
whole_of_two bytes tail number rest z begins part value = rw (begins, part, value) refl

pub binary_of_eight : (bytes tail number rest : List ℕ) (bits : ℕ) → bytes ≡ 0x47 ∷ tail → bytes_at 8 tail ≡ Ok (number, rest) → bits ≡ big_number 8 number
    → action_at bytes ≡ Ok (Push (Binary bits), rest)
binary_of_eight bytes tail number rest bits begins part value = rw (begins, part, value) refl

-- ---- tuples

tuple_is : (bytes tail : List ℕ) → bytes ≡ 0x86 ∷ tail → action_at bytes ≡ Ok (JoinTwo, tail)
tuple_is bytes tail begins = rw (begins, le-ltb (length tail) 0 (omega arith)) refl

pub tuple_first : {R : Type 0} (found : Option (Place × R)) (now : R → List ℕ) (bytes tail : List ℕ) → bytes ≡ 0x86 ∷ tail
    → IfSome found (λ f. action_at tail ≡ Ok (place_action f.0, now f.1))
    → IfSome found (λ f. BeginWith (JoinTwo ∷ place_action f.0 ∷ []) (now f.1) bytes)
tuple_first found now bytes tail begins stored =
    IfSome_then found stored (λ f placed. (tail, (tuple_is bytes tail begins, (now f.1, (placed, refl)))))

pub row_whole : (bytes after_text after_path after_pair rest : List ℕ) (path path_place time value pair_place row_place : Action)
    → action_at bytes ≡ Ok (path, after_text) → action_at after_text ≡ Ok (path_place, after_path)
    → BeginWith (time ∷ value ∷ JoinTwo ∷ pair_place ∷ []) after_pair after_path → BeginWith (JoinTwo ∷ row_place ∷ []) rest after_pair
    → actions_at 8 bytes ≡ Ok (path ∷ path_place ∷ time ∷ value ∷ JoinTwo ∷ pair_place ∷ JoinTwo ∷ row_place ∷ [], rest)
row_whole bytes after_text after_path after_pair rest path path_place time value pair_place row_place text place
    (after_time, (is_time, (after_value, (is_value, (after_join, (is_join, (end, (is_pair_place, is_end))))))))
    (after_row, (is_row, (left, (is_row_place, is_left)))) =
    rw (text, place, is_time, is_value, is_join, is_pair_place, is_end, is_row, is_row_place, is_left) refl
