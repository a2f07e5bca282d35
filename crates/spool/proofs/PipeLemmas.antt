-- Lemmas on whole lines that are given out, and what stays behind them.
use Rattle.std.proofs.Common.{◌≡◌, ℕ, ◌≤◌, List, ◌++◌, length, take, drop, refl, ap, sym, ◌∙◌, arith}
use Rattle.std.proofs.lemmas.List.{take_all, take_at, take-append-drop}
use Rattle.backlog.specs.Lines.{whole_lines, left_by}
use Rattle.backlog.proofs.LinesLemmas.{lines_then-left, whole-length, whole-twice}

-- the whole lines of a text are its first bytes
pub first_lines : (text : List ℕ) → take (length (whole_lines text)) text ≡ whole_lines text
first_lines text =
    ap (λ (l : List ℕ). take (length (whole_lines text)) l) (sym (lines_then-left text text (take_all (length text) text (omega arith))))
    ∙ take_at (whole_lines text) (left_by text text) (length (whole_lines text)) refl

pub lines_length : (text : List ℕ) → length (whole_lines text) ≤ length text
lines_length text = whole-length text

-- what is given out, and what stays
pub lines_behind : (text : List ℕ) → take (length (whole_lines text)) text ++ drop (length (whole_lines text)) text ≡ text
lines_behind text = take-append-drop (length (whole_lines text)) text

pub lines_whole : (text : List ℕ) → whole_lines (take (length (whole_lines text)) text) ≡ take (length (whole_lines text)) text
lines_whole text = ap (λ (l : List ℕ). whole_lines l) (first_lines text) ∙ whole-twice text ∙ sym (first_lines text)
