-- Lemmas on the whole lines of a text.
use Rattle.std.proofs.Common.{◌≡◌, ℕ, suc, ◌+◌, ◌<◌, ◌≤◌, Bool, true, false, ◌==◌, if◌then◌else◌, List, [], ◌∷◌, ◌++◌, length, take, drop, get_or, refl, ap, sym, ◌∙◌, arith}
use Rattle.std.proofs.lemmas.List.{append-nil, take-append-drop, length-take-le, length-append}
use Rattle.std.proofs.Math.Seq.{drop-cons, take-suc}
use Rattle.std.specs.Io.{StartsWith}
use Rattle.relay_base.specs.Ascii.{newline}
use Rattle.backlog.specs.Lines.{before_lines, whole_lines, left_by}

-- the byte alone, if it ends a line
abbrev alone : ℕ → Bool → List ℕ
alone x t = if t then x ∷ [] else []

-- ---- one text behind another

-- behind a text without whole lines
pub lines_then-begun : (xs ys : List ℕ) → whole_lines ys ≡ [] → whole_lines (xs ++ ys) ≡ whole_lines xs
lines_then-begun [] ys h = h
lines_then-begun (x ∷ xs) ys h = ap (λ (l : List ℕ). before_lines x l) (lines_then-begun xs ys h)

before-some : (x : ℕ) (xs : List ℕ) (y : ℕ) (ys : List ℕ) → before_lines x (xs ++ y ∷ ys) ≡ x ∷ (xs ++ y ∷ ys)
before-some x [] y ys = refl
before-some x (z ∷ zs) y ys = refl

-- before whole lines all is part of whole lines
pub lines_then-lines : (xs ys : List ℕ) (w : ℕ) (ws : List ℕ) → whole_lines ys ≡ w ∷ ws → whole_lines (xs ++ ys) ≡ xs ++ w ∷ ws
lines_then-lines [] ys w ws h = h
lines_then-lines (x ∷ xs) ys w ws h = ap (λ (l : List ℕ). before_lines x l) (lines_then-lines xs ys w ws h) ∙ before-some x xs w ws

empty-of : (l : List ℕ) → length l ≡ 0 → l ≡ []
empty-of [] h = refl
empty-of (x ∷ xs) h = absurd (omega (arith, h))

-- how long they are then
pub length_then-begun : (xs ys : List ℕ) → length (whole_lines ys) ≡ 0 → length (whole_lines (xs ++ ys)) ≡ length (whole_lines xs)
length_then-begun xs ys h = ap (λ (l : List ℕ). length l) (lines_then-begun xs ys (empty-of (whole_lines ys) h))

length_then : (xs ys ls : List ℕ) → whole_lines ys ≡ ls → 0 < length ls → length (whole_lines (xs ++ ys)) ≡ length xs + length ls
length_then xs ys [] is h = absurd (omega (arith, h))
length_then xs ys (w ∷ ws) is h = ap (λ (l : List ℕ). length l) (lines_then-lines xs ys w ws is) ∙ length-append xs (w ∷ ws)

pub length_then-lines : (xs ys : List ℕ) → 0 < length (whole_lines ys) → length (whole_lines (xs ++ ys)) ≡ length xs + length (whole_lines ys)
length_then-lines xs ys h = length_then xs ys (whole_lines ys) refl h

-- ---- the search from the end

-- a byte before a text without whole lines, which is no newline
pub begun-before : (text : List ℕ) (place end : ℕ) → end ≡ suc place → place < length text → whole_lines (drop end text) ≡ [] → (get_or text place 0 == newline) ≡ false → whole_lines (drop place text) ≡ []
begun-before text place end is inside h goes =
    ap (λ (l : List ℕ). whole_lines l) (drop-cons text place 0 inside)
    ∙ ap (λ (n : ℕ). before_lines (get_or text place 0) (whole_lines (drop n text))) (sym is)
    ∙ ap (λ (l : List ℕ). before_lines (get_or text place 0) l) h
    ∙ ap (λ (t : Bool). alone (get_or text place 0) t) goes

-- the whole lines end behind a newline that has no whole lines behind it
pub ended-at : (text : List ℕ) (place end : ℕ) → end ≡ suc place → place < length text → whole_lines (drop end text) ≡ [] → (get_or text place 0 == newline) ≡ true → end ≡ length (whole_lines text)
ended-at text place end is inside h ends =
    let x = get_or text place 0 in
    let first = take place text in
    let last : whole_lines (x ∷ []) ≡ x ∷ [] = ap (λ (t : Bool). alone x t) ends in
    let cut : take end text ≡ first ++ x ∷ [] = ap (λ (n : ℕ). take n text) is ∙ take-suc text place 0 inside in
    let whole : whole_lines text ≡ first ++ x ∷ [] =
    ap (λ (l : List ℕ). whole_lines l) (sym (take-append-drop end text))
    ∙ lines_then-begun (take end text) (drop end text) h
    ∙ ap (λ (l : List ℕ). whole_lines l) cut
    ∙ lines_then-lines first (x ∷ []) x [] last in
    sym (ap (λ (l : List ℕ). length l) (whole ∙ sym cut) ∙ length-take-le end text (omega (arith, is, inside)))

-- ---- whole lines and what is behind them

one_byte : (t : Bool) (x : ℕ) (l : List ℕ) → alone x t ++ drop (length (alone x t)) (x ∷ l) ≡ x ∷ l
one_byte true x l = refl
one_byte false x l = refl

lines_and-rest : (x : ℕ) (ws l : List ℕ) → ws ++ drop (length ws) l ≡ l → before_lines x ws ++ drop (length (before_lines x ws)) (x ∷ l) ≡ x ∷ l
lines_and-rest x [] l h = one_byte (x == newline) x l
lines_and-rest x (w ∷ ws) l h = ap (λ (k : List ℕ). x ∷ k) h

lines_then-rest : (taken rest : List ℕ) → whole_lines taken ++ drop (length (whole_lines taken)) (taken ++ rest) ≡ taken ++ rest
lines_then-rest [] rest = refl
lines_then-rest (x ∷ xs) rest = lines_and-rest x (whole_lines xs) (xs ++ rest) (lines_then-rest xs rest)

-- the whole lines that a connection took, and what is left by it, are the text
pub lines_then-left : (taken text : List ℕ) → StartsWith text taken → whole_lines taken ++ left_by taken text ≡ text
lines_then-left taken text begins =
    let joined : taken ++ drop (length taken) text ≡ text = ap (λ (l : List ℕ). l ++ drop (length taken) text) (sym begins) ∙ take-append-drop (length taken) text in
    ap (λ (l : List ℕ). whole_lines taken ++ drop (length (whole_lines taken)) l) (sym joined)
    ∙ lines_then-rest taken (drop (length taken) text)
    ∙ joined

-- ---- whole lines are whole lines

one_whole : (t : Bool) (x : ℕ) → (x == newline) ≡ t → whole_lines (alone x t) ≡ alone x t
one_whole true x is = ap (λ (t : Bool). alone x t) is
one_whole false x is = refl

before_whole : (x : ℕ) (l : List ℕ) → whole_lines l ≡ l → whole_lines (before_lines x l) ≡ before_lines x l
before_whole x [] h = one_whole (x == newline) x refl
before_whole x (w ∷ ws) h = ap (λ (l : List ℕ). before_lines x l) h

pub whole-twice : (text : List ℕ) → whole_lines (whole_lines text) ≡ whole_lines text
whole-twice [] = refl
whole-twice (x ∷ xs) = before_whole x (whole_lines xs) (whole-twice xs)

pub whole-append : (xs ys : List ℕ) → whole_lines xs ≡ xs → whole_lines ys ≡ ys → whole_lines (xs ++ ys) ≡ xs ++ ys
whole-append xs [] first last = lines_then-begun xs [] refl ∙ first ∙ sym (append-nil xs)
whole-append xs (y ∷ ys) first last = lines_then-lines xs (y ∷ ys) y ys last

-- ---- how long whole lines are

one_length : (t : Bool) (x : ℕ) (xs : List ℕ) → length (alone x t) ≤ length (x ∷ xs)
one_length true x xs = omega arith
one_length false x xs = omega arith

before-length : (x : ℕ) (ws xs : List ℕ) → length ws ≤ length xs → length (before_lines x ws) ≤ length (x ∷ xs)
before-length x [] xs h = one_length (x == newline) x xs
before-length x (w ∷ ws) xs h = omega (arith, h)

pub whole-length : (text : List ℕ) → length (whole_lines text) ≤ length text
whole-length [] = omega arith
whole-length (x ∷ xs) = before-length x (whole_lines xs) xs (whole-length xs)
