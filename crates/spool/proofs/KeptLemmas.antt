-- Lemmas on lines in memory of which connections took some.
use Rattle.std.proofs.Common.{◌≡◌, ℕ, ◌+◌, ◌≤◌, List, [], ◌∷◌, ◌++◌, length, take, drop, flat_map, Option, IfSome, ap, sym, subst, ◌∙◌, append-nil, arith}
use Rattle.std.proofs.lemmas.List.{length-append, take_all}
use Rattle.std.proofs.lemmas.List.Concat.{flat_map-append}
use Rattle.backlog.specs.Lines.{whole_lines}
use Rattle.backlog.specs.Laws.{left_after, LeftFromPlaceLaw}
use Rattle.backlog.specs.Place.{Place}
use Rattle.spool.specs.Held.{Ends, GoesOn, IsUnderWay}
use Rattle.spool.specs.Turn.{IfOver}
use Rattle.spool.specs.declared.turn.Turn.{Turn}

-- what connections left begins where the cursor stands
pub left-from_start : LeftFromPlaceLaw → (lines : List ℕ) (over : List (List ℕ)) (taken : List ℕ) (cursor : Place) → IsUnderWay lines over taken cursor → drop cursor.start lines ≡ left_after (over ++ taken ∷ []) lines
left-from_start placed lines over taken cursor way =
    let base = length (flat_map whole_lines over) in
    let first : cursor.start ≡ base + length (whole_lines taken) = ap (λ (p : Place). p.start) way.place in
    let all : length (flat_map whole_lines (over ++ taken ∷ [])) ≡ base + length (whole_lines taken) =
    ap (λ (l : List ℕ). length l) (flat_map-append whole_lines over (taken ∷ []))
    ∙ length-append (flat_map whole_lines over) (whole_lines taken ++ [])
    ∙ ap (λ (l : List ℕ). base + length l) (append-nil (whole_lines taken)) in
    let place : cursor.start ≡ length (flat_map whole_lines (over ++ taken ∷ [])) + 0 = omega (arith, first, all) in
    ap (λ (n : ℕ). drop n lines) place ∙ sym (placed (over ++ taken ∷ []) lines)

-- a text is its first bytes, as many as it has
pub all-go_on : {W : Type 0} (contents : W → Option (List ℕ)) (text left : List ℕ) (end : ℕ) (first cursor after : Place) (before gained : Option W) → text ≡ left → first ≡ cursor → length text ≤ end → IfSome before (λ had. IfSome gained (λ has. GoesOn (take end text) first after (contents had) (contents has))) → IfSome before (λ had. IfSome gained (λ has. GoesOn left cursor after (contents had) (contents has)))
all-go_on {W = W} contents text left end first cursor after before gained is at_ most on =
    subst (λ (p : Place). IfSome before (λ had. IfSome gained (λ has. GoesOn left p after (contents had) (contents has)))) at_
    (subst (λ (l : List ℕ). IfSome before (λ had. IfSome gained (λ has. GoesOn l first after (contents had) (contents has)))) (take_all end text most ∙ is) on)

pub all-end : {W : Type 0} (contents : W → Option (List ℕ)) (text left : List ℕ) (end : ℕ) (first cursor : Place) (before : Option W) (result : Turn W) → text ≡ left → first ≡ cursor → length text ≤ end → IfSome before (λ had. IfOver result (λ sink. Ends (take end text) first (contents had) (contents sink))) → IfSome before (λ had. IfOver result (λ sink. Ends left cursor (contents had) (contents sink)))
all-end {W = W} contents text left end first cursor before result is at_ most ends =
    subst (λ (p : Place). IfSome before (λ had. IfOver result (λ sink. Ends left p (contents had) (contents sink)))) at_
    (subst (λ (l : List ℕ). IfSome before (λ had. IfOver result (λ sink. Ends l first (contents had) (contents sink)))) (take_all end text most ∙ is) ends)
