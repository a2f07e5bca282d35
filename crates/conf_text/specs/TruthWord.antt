-- Truth words.
use Rattle.std.specs.Prelude.{ℕ, Bool, true, false, List, [], ◌∷◌, Option, Some, None, if◌then◌else◌, codes}
use Rattle.std.specs.List.{list_any}
use Rattle.std.specs.Str.{str_eq_ignore_ascii_case}

-- whether a text is one of these words, in any case
abbrev pub is_one_of : List (List ℕ) → List ℕ → Bool
is_one_of words text = list_any (λ word. str_eq_ignore_ascii_case text word) words

abbrev pub true_words : List (List ℕ)
true_words = codes "1" ∷ codes "yes" ∷ codes "true" ∷ codes "on" ∷ []

abbrev pub false_words : List (List ℕ)
false_words = codes "0" ∷ codes "no" ∷ codes "false" ∷ codes "off" ∷ []

-- what a truth word says
abbrev pub truth_of : List ℕ → Option Bool
truth_of text =
    if is_one_of true_words text then Some true
    else (if is_one_of false_words text then Some false else None)
