-- The first field of a text, and the fields after it.
use Rattle.std.proofs.Common.{◌≡◌, ℕ, zero, suc, ◌+◌, ◌<◌, inl, inr, Bool, true, false, not, cond, filter, List, [], ◌∷◌, length, get_or, take, drop, refl, ap, sym, ◌∙◌, subst, arith, length-take}
use Rattle.std.specs.Prelude.{nat_le}
use Rattle.std.specs.List.{prefix_len, position_or_len, slice_split, onto_first}
use Rattle.std.proofs.lemmas.Bool.{cases_Bool, leb-false, not-true, ne_eqb}
use Rattle.std.proofs.lemmas.List.{drop_all, drop_more, take_all}
use Rattle.std.proofs.lemmas.List.Sums.{prefix_len-le-length}
use Rattle.relay_base.specs.White.{is_white}
use Rattle.line_text.specs.Field.{is_empty, fields, is_visible}

-- a part that is a field
abbrev pub has_bytes : List ℕ → Bool
has_bytes part = not (is_empty part)

-- the parts of a text that are fields, whatever cuts them
abbrev parts : (ℕ → Bool) → List ℕ → List (List ℕ)
parts p text = filter has_bytes (slice_split p text)

-- a cut before a text changes no field
parts-cut : (p : ℕ → Bool) (b : ℕ) (text : List ℕ) → p b ≡ true → parts p (b ∷ text) ≡ parts p text
parts-cut p b text cuts =
    ap (λ (t : Bool). filter has_bytes (cond t ([] ∷ slice_split p text) (onto_first b (slice_split p text)))) cuts

-- past a front that passes
drop-prefix_passes : (p : ℕ → Bool) (b : ℕ) (text : List ℕ) → p b ≡ true → drop (prefix_len p (b ∷ text)) (b ∷ text) ≡ drop (prefix_len p text) text
drop-prefix_passes p b text passes =
    let next : 1 + prefix_len p text ≡ suc (prefix_len p text) = omega arith in
    ap (λ (t : Bool). drop (cond t (1 + prefix_len p text) 0) (b ∷ text)) passes ∙ ap (λ (n : ℕ). drop n (b ∷ text)) next

drop-prefix_fails : (p : ℕ → Bool) (b : ℕ) (text : List ℕ) → p b ≡ false → drop (prefix_len p (b ∷ text)) (b ∷ text) ≡ b ∷ text
drop-prefix_fails p b text fails = ap (λ (t : Bool). drop (cond t (1 + prefix_len p text) 0) (b ∷ text)) fails

parts-drop_cuts : (p : ℕ → Bool) (text : List ℕ) → parts p (drop (prefix_len p text) text) ≡ parts p text
parts-drop_cuts p [] = refl
parts-drop_cuts p (b ∷ text) =
    elim (cases_Bool (p b)) [
      | inl cuts ↦ ap (parts p) (drop-prefix_passes p b text cuts) ∙ parts-drop_cuts p text ∙ sym (parts-cut p b text cuts)
      | inr keeps ↦ ap (parts p) (drop-prefix_fails p b text keeps)
    ]

-- white space before a text changes no field
pub fields-drop_white : (text : List ℕ) → fields (drop (prefix_len is_white text) text) ≡ fields text
fields-drop_white text = parts-drop_cuts is_white text

-- what is left after the cuts begins with none, so it is empty
empty_behind : (p : ℕ → Bool) (text : List ℕ) → position_or_len p (drop (prefix_len p text) text) ≡ 0 → drop (prefix_len p text) text ≡ []
empty_behind p [] none = refl
empty_behind p (b ∷ text) none =
    elim (cases_Bool (p b)) [
      | inl cuts ↦
          let same = drop-prefix_passes p b text cuts in
          same ∙ empty_behind p text (ap (position_or_len p) (sym same) ∙ none)
      | inr keeps ↦ absurd (first_keeps (ap (position_or_len p) (sym (drop-prefix_fails p b text keeps)) ∙ none) keeps)
    ]
  where
    first_keeps : position_or_len p (b ∷ text) ≡ 0 → p b ≡ false → ⊥
    first_keeps is keeps =
        let one : position_or_len p (b ∷ text) ≡ 1 + position_or_len p text = ap (λ (t : Bool). cond (not t) (1 + position_or_len p text) 0) keeps in
        omega arith

-- a text that begins with no field, after its white space, has none
pub fields-none : (text : List ℕ) → position_or_len is_white (drop (prefix_len is_white text) text) ≡ 0 → fields text ≡ []
fields-none text none = sym (fields-drop_white text) ∙ ap fields (empty_behind is_white text none)

-- a text is cut into what precedes its first cut and the same parts as what begins there
record Front (p : ℕ → Bool) (text : List ℕ) (n : ℕ) : Type 0 where
  others : List (List ℕ)
  whole : slice_split p text ≡ take n text ∷ others
  behind : slice_split p (drop n text) ≡ [] ∷ others

front_at : (p : ℕ → Bool) (b : ℕ) (text : List ℕ) → p b ≡ true → Front p (b ∷ text) 0
front_at p b text cuts =
    let first : slice_split p (b ∷ text) ≡ [] ∷ slice_split p text =
    ap (λ (t : Bool). cond t ([] ∷ slice_split p text) (onto_first b (slice_split p text))) cuts in
    record { others = slice_split p text; whole = first; behind = first }

front_more : (p : ℕ → Bool) (b : ℕ) (text : List ℕ) (n : ℕ) → p b ≡ false → Front p text n → Front p (b ∷ text) (suc n)
front_more p b text n keeps f = record {
  others = f.others;
  whole = ap (λ (t : Bool). cond t ([] ∷ slice_split p text) (onto_first b (slice_split p text))) keeps ∙ ap (onto_first b) f.whole;
  behind = f.behind;
}

front_of : (p : ℕ → Bool) (text : List ℕ) → Front p text (position_or_len p text)
front_of p [] = record { others = []; whole = refl; behind = refl }
front_of p (b ∷ text) =
    elim (cases_Bool (p b)) [
      | inl cuts ↦ subst (Front p (b ∷ text)) (sym (ap (λ (t : Bool). cond (not t) (1 + position_or_len p text) 0) cuts)) (front_at p b text cuts)
      | inr keeps ↦
          let next : suc (position_or_len p text) ≡ 1 + position_or_len p text = omega arith in
          let len = next ∙ sym (ap (λ (t : Bool). cond (not t) (1 + position_or_len p text) 0) keeps) in
          subst (Front p (b ∷ text)) len (front_more p b text (position_or_len p text) keeps (front_of p text))
    ]

-- a part of some bytes is a field
pub filter-some : (part : List ℕ) (others : List (List ℕ)) → 0 < length part → filter has_bytes (part ∷ others) ≡ part ∷ filter has_bytes others
filter-some [] others some = absurd (omega arith)
filter-some (b ∷ part) others some =
    ap (λ (t : Bool). cond (not t) ((b ∷ part) ∷ filter has_bytes others) (filter has_bytes others)) (ne_eqb (length (b ∷ part)) 0 (λ none. absurd (omega arith)))

parts-first : (p : ℕ → Bool) (text : List ℕ) → 0 < position_or_len p text → parts p text ≡ take (position_or_len p text) text ∷ parts p (drop (position_or_len p text) text)
parts-first p text some =
    let f = front_of p text in
    let n = position_or_len p text in
    let bytes : 0 < length (take n text) = simp length-take (omega (arith, prefix_len-le-length (λ x. not (p x)) text)) in
    ap (filter has_bytes) f.whole ∙ filter-some (take n text) f.others bytes ∙ sym (ap (λ (ps : List (List ℕ)). take n text ∷ filter has_bytes ps) f.behind)

-- the first field, up to the first white byte
pub fields-first : (text : List ℕ) → 0 < position_or_len is_white text → fields text ≡ take (position_or_len is_white text) text ∷ fields (drop (position_or_len is_white text) text)
fields-first text some = parts-first is_white text some

-- a byte above a space is not white
visible-not_white : (b : ℕ) → is_visible b ≡ true → is_white b ≡ false
visible-not_white b is =
    let above = leb-false b 32 (not-true (nat_le b 32) is) in
    rw (ne_eqb b 9 (λ e. absurd (omega arith)), ne_eqb b 11 (λ e. absurd (omega arith)), ne_eqb b 12 (λ e. absurd (omega arith)), ne_eqb b 13 (λ e. absurd (omega arith)), ne_eqb b 32 (λ e. absurd (omega arith))) refl

-- no byte is white among the bytes above a space that a text begins with, even if only a front of it is searched for
-- them
pub position-past_visible : (n : ℕ) (text : List ℕ)
    → position_or_len is_white text ≡ prefix_len is_visible (take n text) + position_or_len is_white (drop (prefix_len is_visible (take n text)) text)
position-past_visible zero text = omega arith
position-past_visible (suc n) [] = omega arith
position-past_visible (suc n) (b ∷ text) =
    elim (cases_Bool (is_visible b)) [
      | inl visible ↦
          let k = prefix_len is_visible (take n text) in
          let white : position_or_len is_white (b ∷ text) ≡ 1 + position_or_len is_white text
          = ap (λ (t : Bool). cond (not t) (1 + position_or_len is_white text) 0) (visible-not_white b visible) in
          let count : prefix_len is_visible (b ∷ take n text) ≡ suc k = ap (λ (t : Bool). cond t (1 + k) 0) visible ∙ omega arith in
          rw count (white ∙ omega (arith, position-past_visible n text))
      | inr other ↦
          let none : prefix_len is_visible (b ∷ take n text) ≡ 0 = ap (λ (t : Bool). cond t (1 + prefix_len is_visible (take n text)) 0) other in
          rw none (omega arith)
    ]

-- if what follows the bytes above a space begins with a white byte, or is empty, that is the position of the first
-- white byte
position-after_visible : (text : List ℕ) (k : ℕ) → k ≡ prefix_len is_visible text → position_or_len is_white (drop k text) ≡ 0
    → position_or_len is_white text ≡ k
position-after_visible text k is none =
    let whole = take_all (length text) text (omega arith) in
    let same : prefix_len is_visible (take (length text) text) ≡ k = ap (prefix_len is_visible) whole ∙ sym is in
    let past : position_or_len is_white text ≡ k + position_or_len is_white (drop k text)
    = position-past_visible (length text) text ∙ ap (λ (n : ℕ). n + position_or_len is_white (drop n text)) same in
    omega (arith, past, none)

-- a field before a space
pub fields-before_space : (text : List ℕ) (k : ℕ) → k ≡ prefix_len is_visible text → 0 < k → k < length text → get_or text k 0 ≡ 32
    → fields text ≡ take k text ∷ fields (drop (k + 1) text)
fields-before_space text k is some inside space =
    let behind : drop k text ≡ 32 ∷ drop (k + 1) text = drop_more text k 0 inside ∙ ap (λ (b : ℕ). b ∷ drop (k + 1) text) space in
    let white = position-after_visible text k is (ap (position_or_len is_white) behind) in
    fields-first text (omega (arith, white)) ∙ ap (λ (n : ℕ). take n text ∷ fields (drop n text)) white
    ∙ ap (λ (l : List ℕ). take k text ∷ fields l) behind ∙ ap (λ (ps : List (List ℕ)). take k text ∷ ps) (parts-cut is_white 32 (drop (k + 1) text) refl)

-- a field that ends a text
pub fields-to_end : (text : List ℕ) → prefix_len is_visible text ≡ length text → 0 < length text → fields text ≡ text ∷ []
fields-to_end text is some =
    let k = length text in
    let behind : drop k text ≡ [] = drop_all k text (omega arith) in
    let white = position-after_visible text k (sym is) (ap (position_or_len is_white) behind) in
    fields-first text (omega (arith, white)) ∙ ap (λ (n : ℕ). take n text ∷ fields (drop n text)) white
    ∙ (λ i. take_all k text (omega arith) i ∷ fields (behind i))
