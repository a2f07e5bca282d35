-- The lines of an answer, one after the other.
use Rattle.std.proofs.Common.{◌≡◌, ℕ, ◌+◌, ◌<◌, ◌≤◌, List, length, get_or, drop, Option, None, Some, ap, sym, ◌∙◌}
use Rattle.std.proofs.lemmas.List.{at_drop_more, at_drop_all}
use Rattle.admin_client.specs.ReloadAnswer.{behind}
use Rattle.admin_client.specs.FilesAnswer.{or_later, first_behind}

-- the line at n is looked at
line_at : (words : List ℕ) (lines : List (List ℕ)) (n : ℕ) (line : List ℕ) → (n < length lines) × (line ≡ get_or lines n line) → first_behind words (drop n lines) ≡ or_later (behind words line) (first_behind words (drop (n + 1) lines))
line_at words lines n line turn =
    at_drop_more (first_behind words) lines n line turn.0
    ∙ ap (λ (l : List ℕ). or_later (behind words l) (first_behind words (drop (n + 1) lines))) (sym turn.1)

-- it has a value
pub value_found : (words : List ℕ) (lines : List (List ℕ)) (n : ℕ) (line value : List ℕ) (total : Option (List ℕ)) → (n < length lines) × (line ≡ get_or lines n line) → behind words line ≡ Some value → first_behind words (drop n lines) ≡ total → total ≡ Some value
value_found words lines n line value total turn found so_far =
    sym so_far ∙ line_at words lines n line turn
    ∙ ap (λ (v : Option (List ℕ)). or_later v (first_behind words (drop (n + 1) lines))) found

-- it has none
pub none_here : (words : List ℕ) (lines : List (List ℕ)) (n : ℕ) (line : List ℕ) (total : Option (List ℕ)) → (n < length lines) × (line ≡ get_or lines n line) → behind words line ≡ None → first_behind words (drop n lines) ≡ total → first_behind words (drop (n + 1) lines) ≡ total
none_here words lines n line total turn none so_far =
    sym (ap (λ (v : Option (List ℕ)). or_later v (first_behind words (drop (n + 1) lines))) none)
    ∙ sym (line_at words lines n line turn) ∙ so_far

-- no line is left
pub none_left : (words : List ℕ) (lines : List (List ℕ)) (n : ℕ) (total : Option (List ℕ)) → length lines ≤ n → first_behind words (drop n lines) ≡ total → total ≡ None
none_left words lines n total le so_far = sym so_far ∙ at_drop_all (first_behind words) lines n le
