-- Two lists of bytes, compared from the front.
use Rattle.std.proofs.Common.{◌≡◌, ℕ, ◌+◌, ◌<◌, ◌≤◌, ◌&&◌, Bool, true, false, List, ◌∷◌, [], length, get_or, drop, nat_eq, refl, ap, ◌∙◌, sym}
use Rattle.std.specs.Str.{bytes_eq}
use Rattle.std.proofs.lemmas.List.{at_drop_more, at_drop_all}

-- a part that is the same, a byte, and the rest
and_assoc : (a b c : Bool) → (a && b) && c ≡ a && (b && c)
and_assoc true b c = refl
and_assoc false b c = refl

and_true : (a : Bool) → a && true ≡ a
and_true true = refl
and_true false = refl

-- the byte at n is compared
pub byte_more : (is_same : Bool) (given key : List ℕ) (n : ℕ) → n < length given → n < length key → is_same && bytes_eq (drop n given) (drop n key) ≡ (is_same && nat_eq (get_or given n 0) (get_or key n 0)) && bytes_eq (drop (n + 1) given) (drop (n + 1) key)
byte_more is_same given key n in_given in_key =
    ap (λ (r : Bool). is_same && r)
    (at_drop_more (λ (xs : List ℕ). bytes_eq xs (drop n key)) given n 0 in_given
    ∙ at_drop_more (λ (ys : List ℕ). bytes_eq (get_or given n 0 ∷ drop (n + 1) given) ys) key n 0 in_key)
    ∙ sym (and_assoc is_same (nat_eq (get_or given n 0) (get_or key n 0)) (bytes_eq (drop (n + 1) given) (drop (n + 1) key)))

-- no byte is left
pub bytes_over : (is_same : Bool) (given key : List ℕ) (n : ℕ) → length given ≤ n → length key ≤ n → is_same && bytes_eq (drop n given) (drop n key) ≡ is_same
bytes_over is_same given key n given_over key_over =
    ap (λ (r : Bool). is_same && r)
    (at_drop_all (λ (xs : List ℕ). bytes_eq xs (drop n key)) given n given_over
    ∙ at_drop_all (λ (ys : List ℕ). bytes_eq [] ys) key n key_over)
    ∙ and_true is_same
