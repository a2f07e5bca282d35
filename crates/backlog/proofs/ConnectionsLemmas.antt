-- Lemmas on what connections take of a text, one after another.
use Rattle.std.proofs.Common.{◌≡◌, ℕ, List, [], ◌∷◌, ◌++◌, refl, ap, ◌∙◌}
use Rattle.std.specs.Prelude.{flat_map}
use Rattle.std.proofs.lemmas.List.{append_assoc}
use Rattle.backlog.specs.Lines.{whole_lines, left_by}
use Rattle.backlog.specs.Laws.{left_after, TookWhatWasLeft}
use Rattle.backlog.proofs.LinesLemmas.{lines_then-left, whole-append}

pub nothing-lost : (connections : List (List ℕ)) (text : List ℕ) → TookWhatWasLeft connections text → flat_map whole_lines connections ++ left_after connections text ≡ text
nothing-lost [] text took = refl
nothing-lost (taken ∷ others) text took =
    append_assoc (whole_lines taken) (flat_map whole_lines others) (left_after others (left_by taken text))
    ∙ ap (λ (l : List ℕ). whole_lines taken ++ l) (nothing-lost others (left_by taken text) took.1)
    ∙ lines_then-left taken text took.0

-- texts of whole lines, one behind another, are whole lines
pub all-whole : {X : Type 0} (f : X → List ℕ) (xs : List X) → ((x : X) → whole_lines (f x) ≡ f x) → whole_lines (flat_map f xs) ≡ flat_map f xs
all-whole f [] each = refl
all-whole f (x ∷ xs) each = whole-append (f x) (flat_map f xs) (each x) (all-whole f xs each)
