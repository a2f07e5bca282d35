-- What the output gained while a batch was written.
use Rattle.std.proofs.Common.{◌≡◌, ℕ, List, [], ◌∷◌, ◌++◌, drop, true, Option, ap, sym, ◌∙◌, append_assoc}
use Rattle.std.proofs.lemmas.List.{append-nil, take-append-drop}
use Rattle.std.specs.Io.KnownBytes.{Appends}
use Rattle.relay_base.proofs.Growth.{Appends-then}
use Rattle.line_text.specs.Datapoint.{Datapoint}
use Rattle.line_text.specs.Print.{printed_line}
use Rattle.dest_writer.specs.Writer.{WriterState, bytes_left, bytes_written}
use Rattle.dest_writer.specs.Drive.{Writes}
use Rattle.dest_writer.specs.Laws.{LeavesTheRestLaw}
use Rattle.relay_files.specs.Output.{GrowsByPart}
use Rattle.relay_files.proofs.BytesLemmas.{GrowsByPart-front}

-- some bytes were written, and those after them are left
abbrev pub Sends : WriterState → WriterState → Option (List ℕ) → Option (List ℕ) → Type 0
Sends w v a b = (done : List ℕ) × (bytes_left w ≡ done ++ bytes_left v) × Appends a b done

pub sends-more : LeavesTheRestLaw → (w v x : WriterState) (a b c : Option (List ℕ)) (count : ℕ) → Sends w v a b → Writes count v x b c → Sends w x a c
sends-more law w v x a b c count sent more =
    let taken = bytes_written count v in
    let behind = drop count (bytes_left v) in
    let rest : bytes_left x ≡ behind = ap bytes_left more.step ∙ law count v more.within in (
      sent.0 ++ taken,
      sent.1
          ∙ ap (λ (left : List ℕ). sent.0 ++ left) (sym (take-append-drop count (bytes_left v)))
          ∙ sym (append_assoc sent.0 taken behind)
          ∙ ap (λ (left : List ℕ). (sent.0 ++ taken) ++ left) (sym rest),
      Appends-then a b c sent.0 taken sent.2 more.bytes,
    )

pub sends-part : (w v : WriterState) (a b : Option (List ℕ)) → Sends w v a b → GrowsByPart a b (bytes_left w)
sends-part w v a b sent = GrowsByPart-front a b sent.0 (bytes_left v) (bytes_left w) sent.1 sent.2

-- the line of a datapoint in hand is left
pub line-left : (w : WriterState) (p : Datapoint) → w ≡ record { hand = p ∷ []; written = 0; up = true } → bytes_left w ≡ printed_line p
line-left w p is = ap bytes_left is ∙ append-nil (printed_line p)
