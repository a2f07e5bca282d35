-- How a connection is cut: at its first newline, and after what is before it.
use Rattle.std.proofs.Common.{◌≡◌, ℕ, suc, zero, ◌+◌, ◌<◌, ◌≤◌, inl, inr, Bool, true, false, not, cond, List, [], ◌∷◌, length, take, drop, Some, None, ltb, refl, ap, sym, ◌∙◌, arith}
use Rattle.std.specs.List.{position_or_len, position}
use Rattle.std.proofs.lemmas.Bool.{cases_Bool, ltb-true, ltb-false}
use Rattle.std.proofs.lemmas.Option.{cond_some}
use Rattle.line_text.specs.Connection.{Texts, cut, cut_with, arrivals}
use Rattle.line_text.specs.Reader.{is_newline_byte, with_line}

-- ---- a piece, at its first newline

pub at_newline : (b : ℕ) (text : List ℕ) (moment : ℕ) → is_newline_byte b ≡ true → cut (arrivals (b ∷ text) moment) ≡ with_line (record { text = []; moment = moment }) (cut (arrivals text moment))
at_newline b text moment ends =
    ap (λ (t : Bool). cond t (record { ended = (record { text = []; moment = moment }) ∷ (cut (arrivals text moment)).ended; unended = (cut (arrivals text moment)).unended }) (cut_with b (cut (arrivals text moment)).ended (cut (arrivals text moment)).unended)) ends

pub before_newline : (b : ℕ) (text : List ℕ) (moment : ℕ) → is_newline_byte b ≡ false → cut (arrivals (b ∷ text) moment) ≡ cut_with b (cut (arrivals text moment)).ended (cut (arrivals text moment)).unended
before_newline b text moment goes =
    ap (λ (t : Bool). cond t (record { ended = (record { text = []; moment = moment }) ∷ (cut (arrivals text moment)).ended; unended = (cut (arrivals text moment)).unended }) (cut_with b (cut (arrivals text moment)).ended (cut (arrivals text moment)).unended)) goes

-- where the newline is, if there is one
place-first : (b : ℕ) (text : List ℕ) → is_newline_byte b ≡ true → position_or_len is_newline_byte (b ∷ text) ≡ 0
place-first b text ends = ap (λ (t : Bool). cond (not t) (1 + position_or_len is_newline_byte text) 0) ends

place-later : (b : ℕ) (text : List ℕ) → is_newline_byte b ≡ false → position_or_len is_newline_byte (b ∷ text) ≡ suc (position_or_len is_newline_byte text)
place-later b text goes =
    let next : 1 + position_or_len is_newline_byte text ≡ suc (position_or_len is_newline_byte text) = omega arith in
    ap (λ (t : Bool). cond (not t) (1 + position_or_len is_newline_byte text) 0) goes ∙ next

pub cut-no_newline : (text : List ℕ) (moment : ℕ) → length text ≤ position_or_len is_newline_byte text → cut (arrivals text moment) ≡ record { ended = []; unended = text }
cut-no_newline [] moment none = refl
cut-no_newline (b ∷ text) moment none =
    elim (cases_Bool (is_newline_byte b)) [
      | inl ends ↦ absurd (too_far (place-first b text ends))
      | inr goes ↦
          let rest = cut-no_newline text moment (later (place-later b text goes)) in
          before_newline b text moment goes ∙ ap (λ (k : Texts). cut_with b k.ended k.unended) rest
    ]
  where
    too_far : position_or_len is_newline_byte (b ∷ text) ≡ 0 → ⊥
    too_far is = omega arith

    later : position_or_len is_newline_byte (b ∷ text) ≡ suc (position_or_len is_newline_byte text) → length text ≤ position_or_len is_newline_byte text
    later is = omega arith

pub cut-newline : (text : List ℕ) (moment n : ℕ) → n ≡ position_or_len is_newline_byte text → n < length text → cut (arrivals text moment) ≡ with_line (record { text = take n text; moment = moment }) (cut (arrivals (drop (n + 1) text) moment))
cut-newline [] moment n is inside = absurd (omega arith)
cut-newline (b ∷ text) moment zero is inside =
    elim (cases_Bool (is_newline_byte b)) [
      | inl ends ↦ at_newline b text moment ends
      | inr goes ↦ absurd (not_later (place-later b text goes))
    ]
  where
    not_later : position_or_len is_newline_byte (b ∷ text) ≡ suc (position_or_len is_newline_byte text) → ⊥
    not_later later = omega arith
cut-newline (b ∷ text) moment (suc n) is inside =
    elim (cases_Bool (is_newline_byte b)) [
      | inl ends ↦ absurd (not_first (place-first b text ends))
      | inr goes ↦
          let rest = cut-newline text moment n (one_before (place-later b text goes)) (omega arith) in
          let next : suc (n + 1) ≡ suc n + 1 = omega arith in
          before_newline b text moment goes
          ∙ ap (λ (k : Texts). cut_with b k.ended k.unended) rest
          ∙ ap (λ (i : ℕ). with_line (record { text = b ∷ take n text; moment = moment }) (cut (arrivals (drop i (b ∷ text)) moment))) next
    ]
  where
    not_first : position_or_len is_newline_byte (b ∷ text) ≡ 0 → ⊥
    not_first first = omega arith

    one_before : position_or_len is_newline_byte (b ∷ text) ≡ suc (position_or_len is_newline_byte text) → n ≡ position_or_len is_newline_byte text
    one_before later = omega arith

-- the same, as `position` returns it
pub none_reported : (b : Bool) (n : ℕ) → cond b (Some n) None ≡ None → b ≡ false
none_reported true n reported = cc
none_reported false n reported = refl

pub cut-no_place : (text : List ℕ) (moment : ℕ) → position is_newline_byte text ≡ None → cut (arrivals text moment) ≡ record { ended = []; unended = text }
cut-no_place text moment reported =
    cut-no_newline text moment (ltb-false _ _ (none_reported (ltb (position_or_len is_newline_byte text) (length text)) (position_or_len is_newline_byte text) reported))

pub cut-place : (text : List ℕ) (moment n : ℕ) → position is_newline_byte text ≡ Some n → cut (arrivals text moment) ≡ with_line (record { text = take n text; moment = moment }) (cut (arrivals (drop (n + 1) text) moment))
cut-place text moment n reported =
    let found = cond_some (ltb (position_or_len is_newline_byte text) (length text)) (position_or_len is_newline_byte text) n reported in
    cut-newline text moment n (sym found.1) (omega (arith, found.1, ltb-true _ _ found.0))
