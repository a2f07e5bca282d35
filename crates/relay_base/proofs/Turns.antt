-- The lines of a text, one after the other: `lines` are what they say, and line n is read at turn n of a
-- loop.
use Rattle.std.proofs.Common.{◌≡◌, ℕ, ◌+◌, ◌<◌, List, [], ◌∷◌, ◌++◌, map, take, drop, length, get_or, sym, ap, ◌∙◌, arith}
use Rattle.std.proofs.lemmas.List.{take_more, drop_more, length-map, get_or-map, take-append-drop}

-- the line of a turn
pub record IsTurn {M : Type 0} (lines : List M) (n : ℕ) (line : M) : Type 0 where
  pub within : n < length lines
  pub line_is : line ≡ get_or lines n line

-- what an iterator yields at a turn
pub turn_of : {M : Type 0} (meaning_of : List ℕ → M) (items : List (List ℕ)) (n : ℕ) (item : List ℕ)
    → (n < length items) × (item ≡ get_or items n item) → IsTurn (map meaning_of items) n (meaning_of item)
turn_of meaning_of items n item h = record {
  within = omega (arith, h.0, length-map items meaning_of);
  line_is = sym (get_or-map meaning_of items n item (meaning_of item) h.0 ∙ ap meaning_of (sym h.1));
}

module _ {M : Type 0} (lines : List M) (n : ℕ) (line : M) (turn : IsTurn lines n line) where
  pub lines_up_to : take (n + 1) lines ≡ take n lines ++ line ∷ []
  lines_up_to = take_more lines n line turn.within ∙ ap (λ (l : M). take n lines ++ l ∷ []) (sym turn.line_is)

  pub lines_from : drop n lines ≡ line ∷ drop (n + 1) lines
  lines_from = drop_more lines n line turn.within ∙ ap (λ (l : M). l ∷ drop (n + 1) lines) (sym turn.line_is)

  pub lines_around : lines ≡ take n lines ++ line ∷ drop (n + 1) lines
  lines_around = sym (take-append-drop n lines) ∙ ap (λ (ls : List M). take n lines ++ ls) lines_from
