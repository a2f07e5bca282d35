-- What one more piece, or the end of a connection, makes of a whole input.
use Rattle.std.proofs.Common.{◌≡◌, ℕ, ◌+◌, List, [], ◌∷◌, ◌++◌, refl, ap, sym, ◌∙◌, arith, append_assoc, append-nil}
use Rattle.std.specs.List.{flat_map, sum_by}
use Rattle.std.proofs.lemmas.List.Concat.{flat_map-append}
use Rattle.std.proofs.lemmas.List.Sums.{sum_by-cons, sum_by-append}
use Rattle.reader_core.specs.Input.{Stream, with_more, current, input_after_piece, input_after_end}
use Rattle.reader_core.specs.Scan.{gone_on}
use Rattle.reader_core.specs.declared.kind.ReaderKind.{ReaderKind}
use Rattle.reader_core.specs.declared.kind.ReaderKind.TheVariants.{Line, Pickle, Datagram}

-- ---- the current connection

current-push : (input : List Stream) (last : Stream) → current (input ++ last ∷ []) ≡ last
current-push [] last = refl
current-push (first ∷ []) last = refl
current-push (first ∷ second ∷ others) last = current-push (second ∷ others) last

current-with_more : (piece : Stream) (input : List Stream) → current (with_more piece input) ≡ current input ++ piece
current-with_more piece [] = refl
current-with_more piece (last ∷ []) = refl
current-with_more piece (first ∷ second ∷ []) = refl
current-with_more piece (first ∷ second ∷ third ∷ others) = current-with_more piece (second ∷ third ∷ others)

pub current-fed : (kind : ReaderKind) (piece : Stream) (input : List Stream) → current (input_after_piece kind piece input) ≡ gone_on kind (current input) ++ piece
current-fed Line piece input = current-with_more piece input
current-fed Pickle piece input = current-with_more piece input
current-fed Datagram piece input = current-push input piece

pub current-ended : (input : List Stream) → current (input ++ [] ∷ []) ≡ []
current-ended input = current-push input []

-- ---- what all streams give, joined

module _ {X : Type 0} (f : Stream → List X) (none : f [] ≡ []) where
  with_more-grows : (piece : Stream) (input : List Stream) (gained : List X) → f (current input ++ piece) ≡ f (current input) ++ gained
      → flat_map f (with_more piece input) ≡ flat_map f input ++ gained
  with_more-grows piece [] gained more = append-nil (f piece) ∙ more ∙ ap (λ (xs : List X). xs ++ gained) none
  with_more-grows piece (last ∷ []) gained more =
      append-nil (f (last ++ piece)) ∙ more ∙ ap (λ (xs : List X). xs ++ gained) (sym (append-nil (f last)))
  with_more-grows piece (first ∷ second ∷ others) gained more =
      ap (λ (xs : List X). f first ++ xs) (with_more-grows piece (second ∷ others) gained more)
      ∙ sym (append_assoc (f first) (flat_map f (second ∷ others)) gained)

  pub fed-grows : (kind : ReaderKind) (piece : Stream) (input : List Stream) (gained : List X)
      → f (gone_on kind (current input) ++ piece) ≡ f (gone_on kind (current input)) ++ gained
      → flat_map f (input_after_piece kind piece input) ≡ flat_map f input ++ gained
  fed-grows Line piece input gained more = with_more-grows piece input gained more
  fed-grows Pickle piece input gained more = with_more-grows piece input gained more
  fed-grows Datagram piece input gained more =
      flat_map-append f input (piece ∷ [])
      ∙ ap (λ (xs : List X). flat_map f input ++ xs) (append-nil (f piece) ∙ more ∙ ap (λ (xs : List X). xs ++ gained) none)

  new_connection : (input : List Stream) → flat_map f (input ++ [] ∷ []) ≡ flat_map f input
  new_connection input =
      flat_map-append f input ([] ∷ []) ∙ ap (λ (xs : List X). flat_map f input ++ (xs ++ [])) none ∙ append-nil (flat_map f input)

  pub ended-same : (kind : ReaderKind) (input : List Stream) → flat_map f (input_after_end kind input) ≡ flat_map f input
  ended-same Line input = new_connection input
  ended-same Pickle input = new_connection input
  ended-same Datagram input = refl

-- ---- what is counted for all streams

module _ (f : Stream → ℕ) (none : f [] ≡ 0) where
  with_more-counts : (piece : Stream) (input : List Stream) (more : ℕ) → f (current input ++ piece) ≡ f (current input) + more
      → sum_by f (with_more piece input) ≡ sum_by f input + more
  with_more-counts piece [] more counted = omega (arith, counted, none, sum_by-cons f piece [])
  with_more-counts piece (last ∷ []) more counted = omega (arith, counted, sum_by-cons f (last ++ piece) [], sum_by-cons f last [])
  with_more-counts piece (first ∷ second ∷ others) more counted =
      omega (arith, with_more-counts piece (second ∷ others) more counted, sum_by-cons f first (with_more piece (second ∷ others)), sum_by-cons f first (second ∷ others))

  pub fed-counts : (kind : ReaderKind) (piece : Stream) (input : List Stream) (more : ℕ)
      → f (gone_on kind (current input) ++ piece) ≡ f (gone_on kind (current input)) + more
      → sum_by f (input_after_piece kind piece input) ≡ sum_by f input + more
  fed-counts Line piece input more counted = with_more-counts piece input more counted
  fed-counts Pickle piece input more counted = with_more-counts piece input more counted
  fed-counts Datagram piece input more counted = omega (arith, counted, none, sum_by-append f input (piece ∷ []), sum_by-cons f piece [])

  no_connection : (input : List Stream) → sum_by f (input ++ [] ∷ []) ≡ sum_by f input
  no_connection input = omega (arith, none, sum_by-append f input ([] ∷ []), sum_by-cons f [] [])

  pub ended-counts : (kind : ReaderKind) (input : List Stream) → sum_by f (input_after_end kind input) ≡ sum_by f input
  ended-counts Line input = no_connection input
  ended-counts Pickle input = no_connection input
  ended-counts Datagram input = refl
