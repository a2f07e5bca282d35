-- What a store gets of lines of which some went to segments on their way.
use Rattle.std.specs.Prelude.{◌≡◌, ℕ, List, [], ◌∷◌, ◌++◌, flat_map}
use Rattle.backlog.specs.Lines.{whole_lines}
use Rattle.backlog.specs.Laws.{left_after, TookWhatWasLeft}

-- a while of a destination: what its connections to the store took, then what each diversion took, which keeps the whole lines
-- of that in a segment, and by which connections the segments then went out, the first one by the first ones
pub record Round : Type 0 where
  pub live : List (List ℕ)
  pub diverted : List (List ℕ)
  pub sendings : List (List (List ℕ))

-- the whole lines that these took
abbrev pub lines_of : List (List ℕ) → List ℕ
lines_of connections = flat_map whole_lines connections

-- what waits in the segments of diversions that took this, after these sendings of the first ones
abbrev pub waiting : List (List ℕ) → List (List (List ℕ)) → List ℕ
waiting diverted [] = lines_of diverted
waiting [] (connections ∷ others) = []
waiting (taken ∷ later) (connections ∷ others) =
    left_after connections (whole_lines taken) ++ waiting later others

-- nothing is left, if others come behind
abbrev pub IsOverBefore : {A : Type 0} → List A → List ℕ → Type 0
IsOverBefore [] left = Unit {0}
IsOverBefore (next ∷ others) left = left ≡ []

-- segments go out in order, each to its end before the next one
abbrev pub GoOutInOrder : List (List ℕ) → List (List (List ℕ)) → Type 0
GoOutInOrder diverted [] = Unit {0}
GoOutInOrder [] (connections ∷ others) = ⊥
GoOutInOrder (taken ∷ later) (connections ∷ others) =
    TookWhatWasLeft connections (whole_lines taken)
    × IsOverBefore others (left_after connections (whole_lines taken))
    × GoOutInOrder later others

-- what the store got in a round, and what waits then
abbrev pub got_in : Round → List ℕ
got_in round = lines_of round.live ++ flat_map lines_of round.sendings

abbrev pub waiting_in : Round → List ℕ
waiting_in round = waiting round.diverted round.sendings

-- rounds follow one another: the store is connected for other lines only once all segments went out
abbrev pub FollowInOrder : List Round → Type 0
FollowInOrder [] = Unit {0}
FollowInOrder (round ∷ others) =
    GoOutInOrder round.diverted round.sendings
    × IsOverBefore others (waiting_in round)
    × FollowInOrder others

-- what the writer's connections took, one after another: to a diversion it writes as to a store
abbrev pub taken_in : List Round → List (List ℕ)
taken_in rounds = flat_map (λ round. round.live ++ round.diverted) rounds

-- what the store got, and then what waits in segments, and then what the writer has left, are the text that it had: each line
-- once, in order
abbrev pub KeptOnceInOrderLaw : Type 0
KeptOnceInOrderLaw =
    (rounds : List Round) (text : List ℕ)
    → FollowInOrder rounds → TookWhatWasLeft (taken_in rounds) text
    → flat_map got_in rounds ++ flat_map waiting_in rounds ++ left_after (taken_in rounds) text ≡ text

-- and the store got whole lines
abbrev pub GotWholeLinesLaw : Type 0
GotWholeLinesLaw =
    (rounds : List Round) → whole_lines (flat_map got_in rounds) ≡ flat_map got_in rounds
