-- Lemmas on what a store gets by segments.
use Rattle.std.proofs.Common.{◌≡◌, ℕ, List, [], ◌∷◌, ◌++◌, refl, ap, sym, ◌∙◌}
use Rattle.std.specs.Prelude.{flat_map}
use Rattle.std.proofs.lemmas.List.{append-nil, append_assoc}
use Rattle.std.proofs.lemmas.Grind.{flat_map-append}
use Rattle.backlog.specs.Lines.{whole_lines}
use Rattle.backlog.specs.Laws.{left_after, TookWhatWasLeft}
use Rattle.backlog.specs.Segments.{Round, lines_of, waiting, IsOverBefore, GoOutInOrder, got_in, waiting_in, FollowInOrder, taken_in}
use Rattle.backlog.proofs.ConnectionsLemmas.{nothing-lost, all-whole}
use Rattle.backlog.proofs.LinesLemmas.{whole-twice, whole-append}

-- ---- texts in another order, where one of them is empty

-- a first part, what is over behind it, and others
over-then : {A : Type 0} (others : List A) (first left more later : List ℕ) → IsOverBefore others left → (others ≡ [] → more ≡ []) → (first ++ more) ++ (left ++ later) ≡ (first ++ left) ++ (more ++ later)
over-then [] first left more later over none =
    ap (λ (l : List ℕ). (first ++ l) ++ (left ++ later)) (none refl)
    ∙ ap (λ (l : List ℕ). l ++ (left ++ later)) (append-nil first)
    ∙ sym (append_assoc first left later)
    ∙ ap (λ (l : List ℕ). (first ++ left) ++ (l ++ later)) (sym (none refl))
over-then (x ∷ xs) first left more later over none =
    ap (λ (l : List ℕ). (first ++ more) ++ (l ++ later)) over
    ∙ append_assoc first more later
    ∙ ap (λ (l : List ℕ). l ++ (more ++ later)) (sym (append-nil first))
    ∙ ap (λ (l : List ℕ). (first ++ l) ++ (more ++ later)) (sym over)

none-of : {A : Type 0} (f : A → List ℕ) (xs : List A) → xs ≡ [] → flat_map f xs ≡ []
none-of f xs is = ap (λ l. flat_map f l) is

-- ---- one round

-- what went out of segments, and what waits in them, is what the diversions took
pub sent_then-waiting : (diverted : List (List ℕ)) (sendings : List (List (List ℕ))) → GoOutInOrder diverted sendings → flat_map lines_of sendings ++ waiting diverted sendings ≡ lines_of diverted
sent_then-waiting diverted [] order = refl
sent_then-waiting [] (connections ∷ others) order = absurd order
sent_then-waiting (taken ∷ later) (connections ∷ others) order =
    over-then others (lines_of connections) (left_after connections (whole_lines taken)) (flat_map lines_of others) (waiting later others) order.1 (none-of lines_of others)
    ∙ ap (λ (l : List ℕ). l ++ (flat_map lines_of others ++ waiting later others)) (nothing-lost connections (whole_lines taken) order.0)
    ∙ ap (λ (l : List ℕ). whole_lines taken ++ l) (sent_then-waiting later others order.2)

-- what a store got in a round, and what waits then, is what the round's connections took
got_then-waiting : (round : Round) → GoOutInOrder round.diverted round.sendings → got_in round ++ waiting_in round ≡ lines_of (round.live ++ round.diverted)
got_then-waiting round order =
    append_assoc (lines_of round.live) (flat_map lines_of round.sendings) (waiting_in round)
    ∙ ap (λ (l : List ℕ). lines_of round.live ++ l) (sent_then-waiting round.diverted round.sendings order)
    ∙ sym (flat_map-append whole_lines round.live round.diverted)

-- ---- all rounds

all-got : (rounds : List Round) → FollowInOrder rounds → flat_map got_in rounds ++ flat_map waiting_in rounds ≡ lines_of (taken_in rounds)
all-got [] order = refl
all-got (round ∷ others) order =
    over-then others (got_in round) (waiting_in round) (flat_map got_in others) (flat_map waiting_in others) order.1 (none-of got_in others)
    ∙ ap (λ (l : List ℕ). l ++ (flat_map got_in others ++ flat_map waiting_in others)) (got_then-waiting round order.0)
    ∙ ap (λ (l : List ℕ). lines_of (round.live ++ round.diverted) ++ l) (all-got others order.2)
    ∙ sym (flat_map-append whole_lines (round.live ++ round.diverted) (taken_in others))

pub kept-once : (rounds : List Round) (text : List ℕ) → FollowInOrder rounds → TookWhatWasLeft (taken_in rounds) text → (flat_map got_in rounds ++ flat_map waiting_in rounds) ++ left_after (taken_in rounds) text ≡ text
kept-once rounds text order took =
    ap (λ (l : List ℕ). l ++ left_after (taken_in rounds) text) (all-got rounds order)
    ∙ nothing-lost (taken_in rounds) text took

lines-whole : (connections : List (List ℕ)) → whole_lines (lines_of connections) ≡ lines_of connections
lines-whole connections = all-whole whole_lines connections whole-twice

got-whole : (round : Round) → whole_lines (got_in round) ≡ got_in round
got-whole round = whole-append (lines_of round.live) (flat_map lines_of round.sendings) (lines-whole round.live) (all-whole lines_of round.sendings lines-whole)

pub all-whole_lines : (rounds : List Round) → whole_lines (flat_map got_in rounds) ≡ flat_map got_in rounds
all-whole_lines rounds = all-whole got_in rounds got-whole
