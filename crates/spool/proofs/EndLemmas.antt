-- Lemmas on the search for the end of a file's whole lines.
use Rattle.std.proofs.Common.{◌≡◌, ℕ, ◌+◌, ◌-◌, ◌<◌, ◌≤◌, List, [], ◌∷◌, ◌++◌, length, take, drop, Option, Some, None, IfSome, refl, ap, sym, ◌∙◌, drop_of_length-le, take-add, arith}
use Rattle.std.proofs.lemmas.List.{drop-take, drop-drop, length-append, length-take, length-take-le, length-drop, take_all, take_at, drop_at, take-take, take-append-drop, take-append-le}
use Rattle.backlog.specs.Lines.{whole_lines}
use Rattle.backlog.proofs.LinesLemmas.{lines_then-begun, length_then-lines, whole-length}
use Rattle.spool.specs.Held.{lines_end}

-- ---- a piece that is read part by part

read-more : (held piece part rest : List ℕ) (place at_ count : ℕ) → at_ ≤ length piece → count ≤ length part → take at_ piece ≡ take at_ (drop place held) → take count part ≡ take count (drop (place + at_) held) → take (at_ + count) (take at_ piece ++ (part ++ rest)) ≡ take (at_ + count) (drop place held)
read-more held piece part rest place at_ count inside within first last =
    let long : length (take at_ piece) ≡ at_ = length-take-le at_ piece inside in
    take-add at_ count (take at_ piece ++ (part ++ rest))
    ∙ ap (λ (l : List ℕ). l ++ take count (drop at_ (take at_ piece ++ (part ++ rest)))) (take_at (take at_ piece) (part ++ rest) at_ long ∙ first)
    ∙ ap (λ (l : List ℕ). take at_ (drop place held) ++ take count l) (drop_at (take at_ piece) (part ++ rest) at_ long)
    ∙ ap (λ (l : List ℕ). take at_ (drop place held) ++ l) (take-append-le count part rest within ∙ last ∙ ap (λ (l : List ℕ). take count l) (sym (drop-drop at_ place held)))
    ∙ sym (take-add at_ count (drop place held))

-- how long the piece is then
pub put-length : (piece part rest : List ℕ) (filled : ℕ) → filled ≤ length piece → length part ≡ length piece - filled → length piece ≤ length (take filled piece ++ (part ++ rest))
put-length piece part rest filled inside long = omega (arith, inside, long, length-append (take filled piece) (part ++ rest), length-append part rest, length-take filled piece)

pub text-read_more : (text : Option (List ℕ)) (piece part rest : List ℕ) (place at_ count : ℕ) → at_ ≤ length piece → count ≤ length part → IfSome text (λ held. take at_ piece ≡ take at_ (drop place held)) → IfSome text (λ held. take count part ≡ take count (drop (place + at_) held)) → IfSome text (λ held. take (at_ + count) (take at_ piece ++ (part ++ rest)) ≡ take (at_ + count) (drop place held))
text-read_more None piece part rest place at_ count inside within first last = first
text-read_more (Some held) piece part rest place at_ count inside within first last = read-more held piece part rest place at_ count inside within first last

pub text-read_all : (text : Option (List ℕ)) (piece : List ℕ) (place at_ : ℕ) → length piece ≡ at_ → IfSome text (λ held. take at_ piece ≡ take at_ (drop place held)) → IfSome text (λ held. piece ≡ take (length piece) (drop place held))
text-read_all None piece place at_ is read = read
text-read_all (Some held) piece place at_ is read = sym (take_all at_ piece (omega (arith, is))) ∙ read ∙ ap (λ (n : ℕ). take n (drop place held)) (sym is)

-- ---- the search from the end

-- a part of a file's first bytes
part-of_first : (held : List ℕ) (size start count : ℕ) → start + count ≤ size → take count (drop start (take size held)) ≡ take count (drop start held)
part-of_first held size start count inside =
    let whole : size ≡ start + (size - start) = omega (arith, inside) in
    ap (λ (n : ℕ). take count (drop start (take n held))) whole
    ∙ ap (λ (l : List ℕ). take count l) (drop-take start (size - start) held)
    ∙ take-take count (size - start) (drop start held) (omega (arith, inside))

-- a text from a place on: a part, and what is behind it
part-then : (text part : List ℕ) (start count end : ℕ) → end ≡ start + count → part ≡ take count (drop start text) → drop start text ≡ part ++ drop end text
part-then text part start count end is part_is =
    sym (take-append-drop count (drop start text))
    ∙ ap (λ (l : List ℕ). l ++ drop count (drop start text)) (sym part_is)
    ∙ ap (λ (l : List ℕ). part ++ l) (drop-drop count start text)
    ∙ ap (λ (n : ℕ). part ++ drop n text) (sym is)

-- how long the whole lines from a place on are, if there are none behind the part
lines-from : (text part : List ℕ) (start count end : ℕ) → end ≡ start + count → part ≡ take count (drop start text) → whole_lines (drop end text) ≡ [] → whole_lines (drop start text) ≡ whole_lines part
lines-from text part start count end is part_is behind =
    ap (λ (l : List ℕ). whole_lines l) (part-then text part start count end is part_is) ∙ lines_then-begun part (drop end text) behind

empty-of : (l : List ℕ) → length l ≡ 0 → l ≡ []
empty-of [] h = refl
empty-of (x ∷ xs) h = absurd (omega (arith, h))

-- the whole lines of a text are those before the place, and those of the part
ends-in : (text part : List ℕ) (start count end : ℕ) → end ≡ start + count → part ≡ take count (drop start text) → whole_lines (drop end text) ≡ [] → 0 < length (whole_lines part) → start + length (whole_lines part) ≡ length (whole_lines text)
ends-in text part start count end is part_is behind some =
    let rest = lines-from text part start count end is part_is behind in
    let same : length (whole_lines (drop start text)) ≡ length (whole_lines part) = ap (λ (l : List ℕ). length l) rest in
    let long : length part ≡ length (take count (drop start text)) = ap (λ (l : List ℕ). length l) part_is in
    let inside : start ≤ length text = omega (arith, long, length-take count (drop start text), length-drop start text, whole-length part, some) in
    let front : length (take start text) ≡ start = length-take-le start text inside in
    let both : length (whole_lines (take start text ++ drop start text)) ≡ length (take start text) + length (whole_lines (drop start text)) = length_then-lines (take start text) (drop start text) (omega (arith, same, some)) in
    let joined : length (whole_lines (take start text ++ drop start text)) ≡ length (whole_lines text) = ap (λ (l : List ℕ). length (whole_lines l)) (take-append-drop start text) in
    omega (arith, both, joined, same, front)

pub text-begins : (text : Option (List ℕ)) (size : ℕ) → IfSome text (λ held. whole_lines (drop size (take size held)) ≡ [])
text-begins None size = tt
text-begins (Some held) size = ap (λ (l : List ℕ). whole_lines l) (drop_of_length-le (take size held) (omega (arith, length-take size held)))

pub text-passes : (text : Option (List ℕ)) (part : List ℕ) (size start count end : ℕ) → end ≡ start + count → end ≤ size → length part ≡ count → length (whole_lines part) ≡ 0 → IfSome text (λ held. part ≡ take (length part) (drop start held)) → IfSome text (λ held. whole_lines (drop end (take size held)) ≡ []) → IfSome text (λ held. whole_lines (drop start (take size held)) ≡ [])
text-passes None part size start count end is inside long none read behind = behind
text-passes (Some held) part size start count end is inside long none read behind =
    let part_is : part ≡ take count (drop start (take size held)) = read ∙ ap (λ (n : ℕ). take n (drop start held)) long ∙ sym (part-of_first held size start count (omega (arith, is, inside))) in
    lines-from (take size held) part start count end is part_is behind ∙ empty-of (whole_lines part) none

pub text-ends_in : (text : Option (List ℕ)) (part : List ℕ) (size start count end place : ℕ) → end ≡ start + count → end ≤ size → length part ≡ count → 0 < length (whole_lines part) → place ≡ start + length (whole_lines part) → IfSome text (λ held. part ≡ take (length part) (drop start held)) → IfSome text (λ held. whole_lines (drop end (take size held)) ≡ []) → IfSome text (λ held. place ≡ lines_end held size)
text-ends_in None part size start count end place is inside long some place_is read behind = behind
text-ends_in (Some held) part size start count end place is inside long some place_is read behind =
    let part_is : part ≡ take count (drop start (take size held)) = read ∙ ap (λ (n : ℕ). take n (drop start held)) long ∙ sym (part-of_first held size start count (omega (arith, is, inside))) in
    place_is ∙ ends-in (take size held) part start count end is part_is behind some

pub text-has_none : (text : Option (List ℕ)) (size end : ℕ) → end ≡ 0 → IfSome text (λ held. whole_lines (drop end (take size held)) ≡ []) → IfSome text (λ held. 0 ≡ lines_end held size)
text-has_none None size end is behind = behind
text-has_none (Some held) size end is behind = sym (ap (λ (n : ℕ). length (whole_lines (drop n (take size held)))) (sym is) ∙ ap (λ (l : List ℕ). length l) behind)
