-- More input only adds accepted datapoints.
use Rattle.std.proofs.Common.{◌≡◌, true, List, [], ◌∷◌, ◌++◌, refl, sym, ap, ◌∙◌}
use Rattle.std.proofs.lemmas.List.{append-nil, append_assoc}
use Rattle.std.proofs.lemmas.List.Concat.{flat_map-append}
use Rattle.line_text.specs.Datapoint.{Datapoint}
use Rattle.reader_core.specs.declared.kind.ReaderKind.{ReaderKind}
use Rattle.reader_core.specs.declared.kind.ReaderKind.TheVariants.{Line, Pickle, Datagram}
use Rattle.reader_core.specs.Input.{Stream, has_connections, with_more, input_after_piece, input_after_end}
use Rattle.reader_core.specs.Reading.{Reading, IsOrderly, accepted_of}

module _ (reading : Reading) (orderly : IsOrderly reading) where
  gone_on_grows : (kind : ReaderKind) → has_connections kind ≡ true → (piece : Stream) (input : List Stream)
      → (gained : List Datapoint) × (accepted_of reading kind (with_more piece input) ≡ accepted_of reading kind input ++ gained)
  gone_on_grows kind h piece [] = (reading.points kind piece ++ [], refl)
  gone_on_grows kind h piece (last ∷ []) =
      let grown = orderly.grows kind h last piece in (grown.0, simp append-nil grown.1)
  gone_on_grows kind h piece (first ∷ second ∷ others) =
      let grown = gone_on_grows kind h piece (second ∷ others) in
      (grown.0, ap (λ points. reading.points kind first ++ points) grown.1 ∙ sym (append_assoc (reading.points kind first) (accepted_of reading kind (second ∷ others)) grown.0))

  -- a piece more
  pub accepted_of-fed : (kind : ReaderKind) (piece : Stream) (input : List Stream)
      → (gained : List Datapoint) × (accepted_of reading kind (input_after_piece kind piece input) ≡ accepted_of reading kind input ++ gained)
  accepted_of-fed Line piece input = gone_on_grows Line refl piece input
  accepted_of-fed Pickle piece input = gone_on_grows Pickle refl piece input
  accepted_of-fed Datagram piece input = (reading.points Datagram piece ++ [], flat_map-append (reading.points Datagram) input (piece ∷ []))

  empty_connection : (kind : ReaderKind) → has_connections kind ≡ true → (input : List Stream)
      → accepted_of reading kind (input ++ [] ∷ []) ≡ accepted_of reading kind input
  empty_connection kind h input =
      flat_map-append (reading.points kind) input ([] ∷ []) ∙ rw (orderly.nothing kind h) (append-nil _)

  -- the end of a connection
  pub accepted_of-ended : (kind : ReaderKind) (input : List Stream)
      → accepted_of reading kind (input_after_end kind input) ≡ accepted_of reading kind input
  accepted_of-ended Line input = empty_connection Line refl input
  accepted_of-ended Pickle input = empty_connection Pickle refl input
  accepted_of-ended Datagram input = refl
