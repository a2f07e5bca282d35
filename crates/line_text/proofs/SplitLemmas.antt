-- What a piece is cut into: its texts, their bytes, and what follows the last newline.
use Rattle.std.proofs.Common.{◌≡◌, ℕ, ◌+◌, inl, inr, Bool, true, false, not, ◌&&◌, List, [], ◌∷◌, ◌++◌, length, take, drop, get_or, Some, None, refl, ap, sym, subst, ◌∙◌, arith, ◌-◌, append-nil, length-drop}
use Rattle.std.specs.List.{list_all}
use Rattle.std.proofs.lemmas.Bool.{cases_Bool, eqb-true}
use Rattle.std.proofs.lemmas.List.{map-append, take_more, take_all, take-append-drop, get_or-drop}
use Rattle.memchr.specs.Find.{IsFirstByte, IsLastByte}
use Rattle.relay_base.specs.Ascii.{newline}
use Rattle.line_text.specs.Line.{Line}
use Rattle.line_text.specs.Connection.{Arrival, Texts, cut, cut_with, arrivals}
use Rattle.line_text.specs.Reader.{is_newline_byte, with_line, HasNoLine, BeginsLine}
use Rattle.line_text.specs.Split.{is_unbroken, with_newlines, texts_of, lines_at, ended_texts, IsCutInto}
use Rattle.line_text.proofs.CutLemmas.{at_newline, before_newline, cut-no_place}
use Rattle.line_text.proofs.ConnectionLemmas.{joined, cut-append}
use Rattle.line_text.proofs.PlaceLemmas.{first-is_position}

abbrev texts_and_rest : List Line → List ℕ → Texts
texts_and_rest ended unended = record { ended = ended; unended = unended }

-- ---- the moment of a piece is that of each of its lines

abbrev at_moment : ℕ → Texts → Texts
at_moment moment k = texts_and_rest (lines_at moment (texts_of k.ended)) k.unended

cut_with-at_moment : (b moment : ℕ) (ended : List Line) (unended : List ℕ) → cut_with b (lines_at moment (texts_of ended)) unended ≡ at_moment moment (cut_with b ended unended)
cut_with-at_moment b moment [] unended = refl
cut_with-at_moment b moment (line ∷ others) unended = refl

pub cut-at_moment : (text : List ℕ) (moment : ℕ) → cut (arrivals text moment) ≡ at_moment moment (cut (arrivals text 0))
cut-at_moment [] moment = refl
cut-at_moment (b ∷ text) moment =
    elim (cases_Bool (is_newline_byte b)) [
      | inl ends ↦
          at_newline b text moment ends
          ∙ ap (with_line (record { text = []; moment = moment })) (cut-at_moment text moment)
          ∙ sym (ap (at_moment moment) (at_newline b text 0 ends))
      | inr goes ↦
          before_newline b text moment goes
          ∙ ap (λ (k : Texts). cut_with b k.ended k.unended) (cut-at_moment text moment)
          ∙ cut_with-at_moment b moment (cut (arrivals text 0)).ended (cut (arrivals text 0)).unended
          ∙ sym (ap (at_moment moment) (before_newline b text 0 goes))
    ]

-- ---- no text has a newline

record Unbroken (k : Texts) : Type 0 where
  ended : list_all is_unbroken (texts_of k.ended) ≡ true
  unended : is_unbroken k.unended ≡ true

cut_with-unbroken : (b : ℕ) (ended : List Line) (unended : List ℕ) → is_newline_byte b ≡ false → list_all is_unbroken (texts_of ended) ≡ true → is_unbroken unended ≡ true → Unbroken (cut_with b ended unended)
cut_with-unbroken b [] unended goes all rest = record { ended = refl; unended = ap (λ (t : Bool). not t && is_unbroken unended) goes ∙ rest }
cut_with-unbroken b (line ∷ others) unended goes all rest = record {
  ended = ap (λ (t : Bool). (not t && is_unbroken line.text) && list_all is_unbroken (texts_of others)) goes ∙ all;
  unended = rest;
}

cut-unbroken : (text : List ℕ) (moment : ℕ) → Unbroken (cut (arrivals text moment))
cut-unbroken [] moment = record { ended = refl; unended = refl }
cut-unbroken (b ∷ text) moment =
    let rest = cut-unbroken text moment in
    elim (cases_Bool (is_newline_byte b)) [
      | inl ends ↦ subst (λ (k : Texts). Unbroken k) (sym (at_newline b text moment ends)) (record { ended = rest.ended; unended = rest.unended })
      | inr goes ↦ subst (λ (k : Texts). Unbroken k) (sym (before_newline b text moment goes)) (cut_with-unbroken b (cut (arrivals text moment)).ended (cut (arrivals text moment)).unended goes rest.ended rest.unended)
    ]

-- ---- the texts with their newlines are the bytes

abbrev bytes_of : Texts → List ℕ
bytes_of k = with_newlines (texts_of k.ended) k.unended

cut_with-bytes : (b : ℕ) (ended : List Line) (unended : List ℕ) → bytes_of (cut_with b ended unended) ≡ b ∷ with_newlines (texts_of ended) unended
cut_with-bytes b [] unended = refl
cut_with-bytes b (line ∷ others) unended = refl

cut-bytes : (text : List ℕ) (moment : ℕ) → bytes_of (cut (arrivals text moment)) ≡ text
cut-bytes [] moment = refl
cut-bytes (b ∷ text) moment =
    elim (cases_Bool (is_newline_byte b)) [
      | inl ends ↦
          ap bytes_of (at_newline b text moment ends)
          ∙ ap (λ (rest : List ℕ). newline ∷ rest) (cut-bytes text moment)
          ∙ ap (λ (n : ℕ). n ∷ text) (sym (eqb-true b newline ends))
      | inr goes ↦
          ap bytes_of (before_newline b text moment goes)
          ∙ cut_with-bytes b (cut (arrivals text moment)).ended (cut (arrivals text moment)).unended
          ∙ ap (λ (rest : List ℕ). b ∷ rest) (cut-bytes text moment)
    ]

-- ---- a piece that is cut

texts-at_moment : (moment : ℕ) (texts : List (List ℕ)) → texts_of (lines_at moment texts) ≡ texts
texts-at_moment moment [] = refl
texts-at_moment moment (text ∷ others) = ap (λ (rest : List (List ℕ)). text ∷ rest) (texts-at_moment moment others)

pub record IsSplit (piece : List ℕ) (texts : List (List ℕ)) (unended : List ℕ) : Type 0 where
  pub cut : IsCutInto piece texts unended
  pub bytes : with_newlines texts unended ≡ piece
  pub unbroken : list_all is_unbroken texts ≡ true
  pub rest : is_unbroken unended ≡ true

pub IsSplit-cut : (piece : List ℕ) (texts : List (List ℕ)) (rest : List ℕ) → IsCutInto piece texts rest → IsSplit piece texts rest
IsSplit-cut piece texts rest is =
    let unbroken = subst (λ (k : Texts). Unbroken k) (is 0) (cut-unbroken piece 0) in
    record {
      cut = is;
      bytes =
          ap (λ (all : List (List ℕ)). with_newlines all rest) (sym (texts-at_moment 0 texts))
          ∙ sym (ap bytes_of (is 0))
          ∙ cut-bytes piece 0;
      unbroken = ap (λ (all : List (List ℕ)). list_all is_unbroken all) (sym (texts-at_moment 0 texts)) ∙ unbroken.ended;
      rest = unbroken.unended;
    }

-- ---- the head, the lines after it, and the rest

joined-rest : (k : Texts) (ended : List Line) (rest : List ℕ) → k.unended ≡ [] → k.ended ≡ ended → joined k (texts_and_rest [] rest) ≡ texts_and_rest ended rest
joined-rest k ended rest whole is =
    ap (λ (unended : List ℕ). texts_and_rest (k.ended ++ []) (unended ++ rest)) whole
    ∙ ap (λ (lines : List Line). texts_and_rest lines rest) (append-nil k.ended ∙ is)

pub cut-lines : (front rest : List ℕ) → ((moment : ℕ) → (cut (arrivals front moment)).unended ≡ []) → HasNoLine rest → IsCutInto (front ++ rest) (ended_texts front) rest
cut-lines front rest whole none = λ moment.
    let lines = cut (arrivals front moment) in
    ap cut (map-append (λ (b : ℕ). record { byte = b; moment = moment }) front rest)
    ∙ cut-append (arrivals front moment) (arrivals rest moment)
    ∙ ap (joined lines) (none moment)
    ∙ joined-rest lines (lines_at moment (ended_texts front)) rest (whole moment) (ap (λ (k : Texts). k.ended) (cut-at_moment front moment))

pub cut-head : (piece head others : List ℕ) (lines : List (List ℕ)) (rest : List ℕ) → BeginsLine piece head others → IsCutInto others lines rest → IsCutInto piece (head ∷ lines) rest
cut-head piece head others lines rest begins is = λ moment. begins moment ∙ ap (with_line (record { text = head; moment = moment })) (is moment)

-- others are what follows the head, and end is where their last line ends
pub split-head : (piece head others : List ℕ) (end : ℕ) → BeginsLine piece head others → ((moment : ℕ) → (cut (arrivals (take end others) moment)).unended ≡ []) → HasNoLine (drop end others)
    → IsSplit piece (head ∷ ended_texts (take end others)) (take (length others - end) (drop end others))
split-head piece head others end begins whole none =
    let lines = cut-lines (take end others) (drop end others) whole none in
    let cut_others = subst (λ (bytes : List ℕ). IsCutInto bytes (ended_texts (take end others)) (drop end others)) (take-append-drop end others) lines in
    let rest = take_all (length others - end) (drop end others) (omega (arith, length-drop end others)) in
    rw rest (IsSplit-cut piece (head ∷ ended_texts (take end others)) (drop end others) (cut-head piece head others _ _ begins cut_others))

-- ---- the last newline

ends-whole : (front : List ℕ) (b : ℕ) → is_newline_byte b ≡ true → (moment : ℕ) → (cut (arrivals (front ++ b ∷ []) moment)).unended ≡ []
ends-whole front b ends moment =
    ap (λ (c : List Arrival). (cut c).unended) (map-append (λ (b : ℕ). record { byte = b; moment = moment }) front (b ∷ []))
    ∙ ap (λ (k : Texts). k.unended) (cut-append (arrivals front moment) (arrivals (b ∷ []) moment))
    ∙ ap (λ (k : Texts). (joined (cut (arrivals front moment)) k).unended) (at_newline b [] moment ends)

pub lines-to_last : (text : List ℕ) (place : ℕ) → IsLastByte is_newline_byte text (Some place) → (moment : ℕ) → (cut (arrivals (take (place + 1) text) moment)).unended ≡ []
lines-to_last text place found moment = rw (take_more text place 0 found.0.high) (ends-whole (take place text) (get_or text place 0) found.1 moment)

pub none-HasNoLine : (text : List ℕ) → IsFirstByte is_newline_byte text None → HasNoLine text
none-HasNoLine text nowhere = λ moment. cut-no_place text moment (sym (first-is_position is_newline_byte text None nowhere))

pub rest-after_last : (text : List ℕ) (place : ℕ) → IsLastByte is_newline_byte text (Some place) → HasNoLine (drop (place + 1) text)
rest-after_last text place found =
    none-HasNoLine (drop (place + 1) text) (λ k low inside passes. found.0.after (place + 1 + k) (omega arith) (omega (arith, length-drop (place + 1) text)) (subst (λ (b : ℕ). is_newline_byte b ≡ true) (get_or-drop (place + 1) text k 0) passes))
