-- The lines of datapoints, one after another.
use Rattle.std.proofs.Common.{◌≡◌, ℕ, List, [], ◌∷◌, ◌++◌, length, reverse, Option, subst, ap, sym, ◌∙◌, append_assoc}
use Rattle.std.proofs.lemmas.List.{append-nil, reverse-append, nil_from_length}
use Rattle.std.proofs.lemmas.List.Concat.{flat_map-append}
use Rattle.std.specs.Io.KnownBytes.{Appends}
use Rattle.relay_base.proofs.Growth.{Appends-then}
use Rattle.line_text.specs.Datapoint.{Datapoint}
use Rattle.line_text.specs.Print.{printed_line, printed_lines}
use Rattle.line_text.specs.Reader.{GainsAlike}
use Rattle.relay_files.specs.Output.{GrowsByPart}
use Rattle.pass_lines.specs.Pass.{Relays, RelaysPart}
use Rattle.relay_files.proofs.BytesLemmas.{GrowsByPart-front, GrowsByPart-behind}

pub printed_lines-append : (a b : List Datapoint) → printed_lines (a ++ b) ≡ printed_lines a ++ printed_lines b
printed_lines-append a b = flat_map-append printed_line a b

pub printed_lines-one : (p : Datapoint) → printed_lines (p ∷ []) ≡ printed_line p
printed_lines-one p = append-nil (printed_line p)

-- ---- datapoints that are popped from a reversed list

pub popped : (all passed rest : List Datapoint) (p : Datapoint) → all ≡ passed ++ reverse (rest ++ p ∷ []) → all ≡ (passed ++ p ∷ []) ++ reverse rest
popped all passed rest p is =
    is ∙ ap (λ (left : List Datapoint). passed ++ left) (reverse-append rest (p ∷ [])) ∙ sym (append_assoc passed (p ∷ []) (reverse rest))

pub Appends-one_more : (a b c : Option (List ℕ)) (passed : List Datapoint) (p : Datapoint) → Appends a b (printed_lines passed) → Appends b c (printed_line p) → Appends a c (printed_lines (passed ++ p ∷ []))
Appends-one_more a b c passed p first second =
    let lines = printed_lines-append passed (p ∷ []) ∙ ap (λ (last : List ℕ). printed_lines passed ++ last) (printed_lines-one p) in
    subst (Appends a c) (sym lines) (Appends-then a b c (printed_lines passed) (printed_line p) first second)

pub part-of_passed : (a b : Option (List ℕ)) (all passed left : List Datapoint) → all ≡ passed ++ left → Appends a b (printed_lines passed) → GrowsByPart a b (printed_lines all)
part-of_passed a b all passed left is front =
    GrowsByPart-front a b (printed_lines passed) (printed_lines left) (printed_lines all) (ap printed_lines is ∙ printed_lines-append passed left) front

pub part-of_next : (a b c : Option (List ℕ)) (all passed left : List Datapoint) (p : Datapoint) → all ≡ (passed ++ p ∷ []) ++ left → Appends a b (printed_lines passed) → GrowsByPart b c (printed_line p) → GrowsByPart a c (printed_lines all)
part-of_next a b c all passed left p is front part =
    let lines = printed_lines-append passed (p ∷ []) ∙ ap (λ (last : List ℕ). printed_lines passed ++ last) (printed_lines-one p) in
    GrowsByPart-behind a b c (printed_lines passed) (printed_line p) (printed_lines left) (printed_lines all) front part
    (ap printed_lines is ∙ printed_lines-append (passed ++ p ∷ []) left ∙ ap (λ (front' : List ℕ). front' ++ printed_lines left) lines)

-- ---- datapoints that a reader adds to none

module _ (a b : Option (List ℕ)) (old points before after : List Datapoint) (none : length old ≡ 0) (gains : GainsAlike old points before after) where
  gained_alone : points ≡ gains.0
  gained_alone = gains.1 ∙ ap (λ (front : List Datapoint). front ++ gains.0) (nil_from_length old none)

  pub relays : Appends a b (printed_lines points) → Relays a b before after
  relays written = (gains.0, gains.2, subst (λ (l : List Datapoint). Appends a b (printed_lines l)) gained_alone written)

  pub relays_part : GrowsByPart a b (printed_lines points) → RelaysPart a b before after
  relays_part written = (gains.0, gains.2, subst (λ (l : List Datapoint). GrowsByPart a b (printed_lines l)) gained_alone written)
