-- A destination's text, cut at its colons one after the other.
use Rattle.std.proofs.Common.{◌≡◌, ℕ, ◌<◌, ◌≤◌, Bool, true, false, not, cond, eqb, nat_le, ◌&&◌, List, [], ◌∷◌, length, get_or, Option, Some, None, refl, sym, ap, ◌∙◌, subst, arith, inl, inr}
use Rattle.std.specs.Option.{option_map}
use Rattle.std.specs.List.{list_all, slice_split, position_or_len, before_first, after_first}
use Rattle.std.proofs.lemmas.Bool.{cases_lt, and_parts, and_right}
use Rattle.std.proofs.lemmas.Bool.Decides.{nat_tests}
use Rattle.std.proofs.lemmas.List.Folds.{list_all_at}
use Rattle.std.proofs.lemmas.Option.{none-some, same_Some, cond_some, option_and_then_some}
use Rattle.std.proofs.lemmas.List.Splits.{slice_split_none, slice_split_first, length-slice_split}
use Rattle.std.proofs.lemmas.List.Sums.{fails_before_first, passes_at_first, prefix_len-le-length}
use Rattle.relay_base.specs.WholeNumber.{short_whole_number}
use Rattle.conf_text.specs.Destination.{Destination, IsDestination, is_label_byte, is_label, is_instance, port_of, destination, destination_of_parts, destination_of}

abbrev is_colon : ℕ → Bool
is_colon b = eqb b 58

-- a text without a colon is its only part
one_part : (text : List ℕ) → position_or_len is_colon text ≡ length text → slice_split is_colon text ≡ text ∷ []
one_part text e = slice_split_none is_colon text (λ k d lt. fails_before_first is_colon text k d (subst (λ n. k < n) (sym e) lt))

pub without_colon : (text : List ℕ) → position_or_len is_colon text ≡ length text → destination_of text ≡ None
unfolding destination_of
without_colon text e = ap destination_of_parts (one_part text e)

pub with_one_colon : (text host rest : List ℕ) → position_or_len is_colon text < length text → host ≡ before_first is_colon text → rest ≡ after_first is_colon text → position_or_len is_colon rest ≡ length rest → destination_of text ≡ destination host rest None
unfolding destination_of
with_one_colon text host rest lt h r e =
    let first : slice_split is_colon text ≡ host ∷ rest ∷ [] = slice_split_first is_colon text 0 lt ∙ rw (← h, ← r) (ap (λ (ps : List (List ℕ)). host ∷ ps) (one_part rest e)) in
    ap destination_of_parts first

colon_is_no_label_byte : (b : ℕ) → is_colon b ≡ true → is_label_byte b ≡ false
colon_is_no_label_byte b h = grind (arith, nat_tests)

label-with_colon : (text : List ℕ) → position_or_len is_colon text < length text → is_label text ≡ false
label-with_colon text lt =
    let colon = colon_is_no_label_byte (get_or text (position_or_len is_colon text) 0) (passes_at_first is_colon text 0 lt) in
    and_right (nat_le 1 (length text) && nat_le (length text) 255) (list_all is_label_byte text) (list_all_at is_label_byte text (position_or_len is_colon text) 0 lt colon)

destination-bad_instance : (host port instance : List ℕ) → is_label instance ≡ false → destination host port (Some instance) ≡ None
destination-bad_instance host port instance h = ap (λ b. cond b (option_map (λ n. record { host = host; port = n; instance = Some instance }) (port_of port)) None) (and_right (is_label host) (is_label instance) h)

four_parts : (host port instance : List ℕ) (ps : List (List ℕ)) → 0 < length ps → destination_of_parts (host ∷ port ∷ instance ∷ ps) ≡ None
four_parts host port instance [] lt = absurd (omega arith)
four_parts host port instance (p ∷ ps) lt = refl

-- after a second colon, an instance with a colon is not an instance, and neither are four parts
pub with_two_colons : (text host rest port instance : List ℕ) → position_or_len is_colon text < length text → host ≡ before_first is_colon text → rest ≡ after_first is_colon text
    → position_or_len is_colon rest < length rest → port ≡ before_first is_colon rest → instance ≡ after_first is_colon rest → destination_of text ≡ destination host port (Some instance)
unfolding destination_of
with_two_colons text host rest port instance lt h r lt' p i =
    let second : slice_split is_colon rest ≡ port ∷ slice_split is_colon instance = slice_split_first is_colon rest 0 lt' ∙ rw (← p, ← i) refl in
    let first : slice_split is_colon text ≡ host ∷ port ∷ slice_split is_colon instance = slice_split_first is_colon text 0 lt ∙ rw (← h, ← r) (ap (λ (ps : List (List ℕ)). host ∷ ps) second) in
    elim (cases_lt (position_or_len is_colon instance) (length instance)) [
      | inl more ↦
          let third : slice_split is_colon instance ≡ before_first is_colon instance ∷ slice_split is_colon (after_first is_colon instance) = slice_split_first is_colon instance 0 more in
          let many : destination_of_parts (host ∷ port ∷ slice_split is_colon instance) ≡ None = rw third (four_parts host port (before_first is_colon instance) (slice_split is_colon (after_first is_colon instance)) (omega (arith, length-slice_split is_colon (after_first is_colon instance)))) in
          ap destination_of_parts first ∙ many ∙ sym (destination-bad_instance host port instance (label-with_colon instance more))
      | inr none ↦
          let last = one_part instance (omega (arith, prefix_len-le-length (λ b. not (is_colon b)) instance)) in
          ap destination_of_parts first ∙ ap (λ (ps : List (List ℕ)). destination_of_parts (host ∷ port ∷ ps)) last
    ]

port_in_range : (text : List ℕ) (n : ℕ) → port_of text ≡ Some n → (1 ≤ n) × (n ≤ 65535)
port_in_range text n e =
    option_and_then_some (λ (m : ℕ). cond (nat_le 1 m && nat_le m 65535) (Some m) None) (short_whole_number 5 text) n e (λ m read found.
    let c = cond_some (nat_le 1 m && nat_le m 65535) m n found in
    let ends = and_parts (nat_le 1 m) (nat_le m 65535) c.0 in
    let same = c.1 in
    grind (arith, nat_tests))

guard_some : {A : Type 0} (b : Bool) (o : Option A) (y : A) → cond b o None ≡ Some y → (b ≡ true) × (o ≡ Some y)
guard_some true o y e = (refl, e)
guard_some false o y e = absurd (none-some y e)

option_map_some : {A B : Type 0} (f : A → B) (o : Option A) (y : B) → option_map f o ≡ Some y → (x : A) × (o ≡ Some x) × (f x ≡ y)
option_map_some f None y e = absurd (none-some y e)
option_map_some f (Some x) y e = (x, refl, same_Some (f x) y e)

destination-in_range : (host port : List ℕ) (instance : Option (List ℕ)) (d : Destination) → destination host port instance ≡ Some d → IsDestination d
destination-in_range host port instance d e =
    let make : ℕ → Destination = λ n. record { host = host; port = n; instance = instance } in
    let g = guard_some (is_label host && is_instance instance) (option_map make (port_of port)) d e in
    let m = option_map_some make (port_of port) d g.1 in
    let labels = and_parts (is_label host) (is_instance instance) g.0 in
    let range = port_in_range port m.0 m.1 in
    subst IsDestination m.2 (record { host = labels.0; least_port = range.0; greatest_port = range.1; instance = labels.1 })

parts-in_range : (ps : List (List ℕ)) (d : Destination) → destination_of_parts ps ≡ Some d → IsDestination d
parts-in_range [] d e = absurd (none-some d e)
parts-in_range (host ∷ []) d e = absurd (none-some d e)
parts-in_range (host ∷ port ∷ []) d e = destination-in_range host port None d e
parts-in_range (host ∷ port ∷ instance ∷ []) d e = destination-in_range host port (Some instance) d e
parts-in_range (host ∷ port ∷ instance ∷ more ∷ others) d e = absurd (none-some d e)

pub is_destination : (text : List ℕ) (d : Destination) → destination_of text ≡ Some d → IsDestination d
unfolding destination_of
is_destination text d e = parts-in_range (slice_split is_colon text) d e
