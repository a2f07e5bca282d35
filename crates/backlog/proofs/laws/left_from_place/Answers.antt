use Rattle.std.proofs.Common.{◌≡◌, ℕ, ◌+◌, List, [], ◌∷◌, length, drop, refl, ap, ◌∙◌, arith}
use Rattle.std.specs.Prelude.{flat_map}
use Rattle.std.proofs.lemmas.List.{drop-drop, length-append}
use Rattle.backlog.specs.Lines.{whole_lines, left_by}
use Rattle.backlog.specs.Laws.{left_after}
use Rattle.backlog.specs.Place.{place_after}
use Rattle.backlog.proofs.laws.left_from_place.Goals as goal

sums : (a b c : ℕ) → c ≡ a + b → a + (b + 0) ≡ c + 0
sums a b c h = omega (arith, h)

left-from_place : (connections : List (List ℕ)) (text : List ℕ) → left_after connections text ≡ drop (place_after connections []).start text
left-from_place [] text = refl
left-from_place (taken ∷ others) text =
    left-from_place others (left_by taken text)
    ∙ drop-drop (length (flat_map whole_lines others) + 0) (length (whole_lines taken)) text
    ∙ ap (λ (n : ℕ). drop n text) (sums (length (whole_lines taken)) (length (flat_map whole_lines others)) _ (length-append (whole_lines taken) (flat_map whole_lines others)))

pub returns : goal.returns
returns c = left-from_place
