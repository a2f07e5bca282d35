-- Entries in rising order, and a filter of them.
use Rattle.std.proofs.Common.{◌≡◌, ℕ, ◌<◌, ◌≤◌, Bool, true, false, cond, leb, List, [], ◌∷◌, filter, refl, sym, ap, ◌∙◌, arith}
use Rattle.std.proofs.lemmas.Bool.{leb-true, leb-false, le-leb}
use Rattle.hash_ring.specs.Entry.{Entry, place_of}
use Rattle.hash_ring.specs.Walk.{in_rising_order, with_rising}

-- all entries are at a position or above it
abbrev pub IsFrom : ℕ → List Entry → Type 0
IsFrom p [] = Unit {0}
IsFrom p (x ∷ xs) = (p ≤ place_of x) × IsFrom p xs

-- each entry is no higher than those after it
abbrev pub IsAscending : List Entry → Type 0
IsAscending [] = Unit {0}
IsAscending (x ∷ xs) = IsFrom (place_of x) xs × IsAscending xs

from_lower : (p q : ℕ) (es : List Entry) → p ≤ q → IsFrom q es → IsFrom p es
from_lower p q [] le from = tt
from_lower p q (x ∷ xs) le from = let a : q ≤ place_of x = from.0 in (omega arith, from_lower p q xs le from.1)

from_filter : (p : ℕ) (keep : Entry → Bool) (es : List Entry) → IsFrom p es → IsFrom p (filter keep es)
from_filter p keep [] from = tt
from_filter p keep (x ∷ xs) from =
    let rest : IsFrom p (filter keep xs) = from_filter p keep xs from.1 in
    elim (keep x) as (λ b. IsFrom p (cond b (x ∷ filter keep xs) (filter keep xs))) [ true ↦ (from.0, rest) | false ↦ rest ]

from_with_rising : (p : ℕ) (e : Entry) (es : List Entry) → p ≤ place_of e → IsFrom p es → IsFrom p (with_rising e es)
from_with_rising p e [] le from = (le, tt)
from_with_rising p e (x ∷ xs) le from =
    let rest : IsFrom p (with_rising e xs) = from_with_rising p e xs le from.1 in
    elim (leb (place_of e) (place_of x)) as (λ b. IsFrom p (cond b (e ∷ (x ∷ xs)) (x ∷ with_rising e xs))) [ true ↦ (le, from) | false ↦ (from.0, rest) ]

ascending_with_rising : (e : Entry) (es : List Entry) → IsAscending es → IsAscending (with_rising e es)
ascending_with_rising e [] up = (tt, tt)
ascending_with_rising e (x ∷ xs) up =
    let rest : IsAscending (with_rising e xs) = ascending_with_rising e xs up.1 in
    elim (leb (place_of e) (place_of x)) as (λ b. leb (place_of e) (place_of x) ≡ b → IsAscending (cond b (e ∷ (x ∷ xs)) (x ∷ with_rising e xs))) [
      | true ↦ λ h. let le : place_of e ≤ place_of x = leb-true (place_of e) (place_of x) h in ((le, from_lower (place_of e) (place_of x) xs le up.0), up)
      | false ↦ λ h. let less : place_of x < place_of e = leb-false (place_of e) (place_of x) h in (from_with_rising (place_of x) e xs (omega arith) up.0, rest)
    ] refl

pub ascending_rising : (es : List Entry) → IsAscending (in_rising_order es)
ascending_rising [] = tt
ascending_rising (e ∷ es) = ascending_with_rising e (in_rising_order es) (ascending_rising es)

with_rising-least : (e : Entry) (es : List Entry) → IsFrom (place_of e) es → with_rising e es ≡ e ∷ es
with_rising-least e [] from = refl
with_rising-least e (x ∷ xs) from = ap (λ b. cond b (e ∷ (x ∷ xs)) (x ∷ with_rising e xs)) (le-leb (place_of e) (place_of x) from.0)

rising_ascending : (es : List Entry) → IsAscending es → in_rising_order es ≡ es
rising_ascending [] up = refl
rising_ascending (e ∷ es) up = ap (with_rising e) (rising_ascending es up.1) ∙ with_rising-least e es up.0

-- what is in rising order does not change
pub rising_twice : (es : List Entry) → in_rising_order (in_rising_order es) ≡ in_rising_order es
rising_twice es = rising_ascending (in_rising_order es) (ascending_rising es)

-- an entry that is after the first one
with_rising-behind : (e x : Entry) (xs : List Entry) → leb (place_of e) (place_of x) ≡ false → with_rising e (x ∷ xs) ≡ x ∷ with_rising e xs
with_rising-behind e x xs h = ap (λ b. cond b (e ∷ (x ∷ xs)) (x ∷ with_rising e xs)) h

behind : (b c : Bool) (e x : Entry) (ys : List Entry) → leb (place_of e) (place_of x) ≡ false
    → cond c (x ∷ cond b (with_rising e ys) ys) (cond b (with_rising e ys) ys) ≡ cond b (with_rising e (cond c (x ∷ ys) ys)) (cond c (x ∷ ys) ys)
behind true true e x ys h = sym (with_rising-behind e x ys h)
behind true false e x ys h = refl
behind false true e x ys h = refl
behind false false e x ys h = refl

filter_with_rising : (keep : Entry → Bool) (e : Entry) (es : List Entry) → IsAscending es → filter keep (with_rising e es) ≡ cond (keep e) (with_rising e (filter keep es)) (filter keep es)
filter_with_rising keep e [] up = refl
filter_with_rising keep e (x ∷ xs) up =
    let rest : filter keep (with_rising e xs) ≡ cond (keep e) (with_rising e (filter keep xs)) (filter keep xs) = filter_with_rising keep e xs up.1 in
    elim (leb (place_of e) (place_of x)) as (λ b. leb (place_of e) (place_of x) ≡ b → filter keep (cond b (e ∷ (x ∷ xs)) (x ∷ with_rising e xs)) ≡ cond (keep e) (with_rising e (filter keep (x ∷ xs))) (filter keep (x ∷ xs))) [
      | true ↦ λ h.
          let le : place_of e ≤ place_of x = leb-true (place_of e) (place_of x) h in
          let from : IsFrom (place_of e) (filter keep (x ∷ xs)) = from_filter (place_of e) keep (x ∷ xs) (le, from_lower (place_of e) (place_of x) xs le up.0) in
          ap (λ l. cond (keep e) l (filter keep (x ∷ xs))) (sym (with_rising-least e (filter keep (x ∷ xs)) from))
      | false ↦ λ h. ap (λ l. cond (keep x) (x ∷ l) l) rest ∙ behind (keep e) (keep x) e x (filter keep xs) h
    ] refl

with_kept : (b : Bool) (e : Entry) (es : List Entry) → cond b (with_rising e (in_rising_order es)) (in_rising_order es) ≡ in_rising_order (cond b (e ∷ es) es)
with_kept true e es = refl
with_kept false e es = refl

-- a filter of the entries in rising order is the rest in rising order
pub filter_rising : (keep : Entry → Bool) (es : List Entry) → filter keep (in_rising_order es) ≡ in_rising_order (filter keep es)
filter_rising keep [] = refl
filter_rising keep (e ∷ es) =
    filter_with_rising keep e (in_rising_order es) (ascending_rising es) ∙ ap (λ l. cond (keep e) (with_rising e l) l) (filter_rising keep es) ∙ with_kept (keep e) e (filter keep es)

both_kept : {X : Type 0} (b c : Bool) (x : X) (ys zs : List X) → ys ≡ zs
    → cond b (cond c (x ∷ ys) ys) ys ≡ cond c (cond b (x ∷ zs) zs) zs
both_kept true true x ys zs h = ap (λ l. x ∷ l) h
both_kept true false x ys zs h = h
both_kept false true x ys zs h = h
both_kept false false x ys zs h = h

filter_cond : {X : Type 0} (p : X → Bool) (b : Bool) (x : X) (xs : List X) → filter p (cond b (x ∷ xs) xs) ≡ cond b (cond (p x) (x ∷ filter p xs) (filter p xs)) (filter p xs)
filter_cond p true x xs = refl
filter_cond p false x xs = refl

-- two filters, in the other order
pub filters_swap : {X : Type 0} (p q : X → Bool) (xs : List X) → filter p (filter q xs) ≡ filter q (filter p xs)
filters_swap p q [] = refl
filters_swap p q (x ∷ xs) = filter_cond p (q x) x (filter q xs) ∙ both_kept (q x) (p x) x (filter p (filter q xs)) (filter q (filter p xs)) (filters_swap p q xs) ∙ sym (filter_cond q (p x) x (filter p xs))
