-- What a piece of lines, or of frames, gives.
use Rattle.std.proofs.Common.{◌≡◌, ◌++◌, List, refl, sym, subst}
use Rattle.line_text.specs.Datapoint.{Datapoint}
use Rattle.line_text.specs.Connection as connections
use Rattle.line_text.specs.Reader as lines
use Rattle.line_text.specs.Reader.{GainsAlike, CountsMore}
use Rattle.line_text.specs.declared.found_lines.FoundLines.{FoundLines}
use Rattle.pickle_subset.specs.Accepted as accepted
use Rattle.pickle_subset.specs.Reader as pickles
use Rattle.pickle_subset.specs.declared.frames.FoundFrames.{FoundFrames}
use Rattle.reader_core.specs.Input.{Stream}
use Rattle.reader_core.specs.Scan.{Keeps, PieceFound, gone_on, kind_of}
use Rattle.reader_core.specs.declared.scan.Scan.{Scan}
use Rattle.reader_core.specs.declared.scan.Scan.TheVariants.{Lines, Pickles}
use Rattle.reader_core.specs.declared.scan.FoundInPiece.TheVariants.{InLines, InFrames}

pub lines_found : (scan : Scan) (reader : lines.ReaderModel) → scan ≡ Lines reader → (connection piece : Stream) (old new : List Datapoint) (found : FoundLines)
    → Keeps scan connection
    → ((c : Stream) → lines.Represents reader c → lines.Represents (lines.model_after reader found) (c ++ piece))
    → ((c : Stream) → lines.Represents reader c → GainsAlike old new (connections.accepted_points c) (connections.accepted_points (c ++ piece)))
    → ((c : Stream) → lines.Represents reader c → CountsMore found.bad_lines (connections.bad_lines c) (connections.bad_lines (c ++ piece)))
    → PieceFound scan (gone_on (kind_of scan) connection) piece old new (InLines found)
lines_found scan reader is connection piece old new found keeps represents gained bad =
    let kept : lines.Represents reader connection = subst (λ (s : Scan). Keeps s connection) is keeps in
    subst (λ (s : Scan). PieceFound s (gone_on (kind_of s) connection) piece old new (InLines found)) (sym is)
    (record {
      keeps = represents connection kept;
      points = gained connection kept;
      counts = record { bad_lines = bad connection kept; bad_pickles = (0, refl, refl); bad_rows = (0, refl, refl) };
    })

pub frames_found : (scan : Scan) (reader : pickles.ReaderModel) → scan ≡ Pickles reader → (connection piece : Stream) (old new : List Datapoint) (found : FoundFrames)
    → Keeps scan connection
    → ((c : Stream) → pickles.Represents reader c → pickles.Represents (pickles.model_after reader found) (c ++ piece))
    → ((c : Stream) → pickles.Represents reader c → GainsAlike old new (accepted.accepted_points c) (accepted.accepted_points (c ++ piece)))
    → ((c : Stream) → pickles.Represents reader c → CountsMore found.bad_pickles (accepted.bad_pickles c) (accepted.bad_pickles (c ++ piece)))
    → ((c : Stream) → pickles.Represents reader c → CountsMore found.bad_rows (accepted.bad_rows c) (accepted.bad_rows (c ++ piece)))
    → PieceFound scan (gone_on (kind_of scan) connection) piece old new (InFrames found)
frames_found scan reader is connection piece old new found keeps represents gained bad_pickles bad_rows =
    let kept : pickles.Represents reader connection = subst (λ (s : Scan). Keeps s connection) is keeps in
    subst (λ (s : Scan). PieceFound s (gone_on (kind_of s) connection) piece old new (InFrames found)) (sym is)
    (record {
      keeps = represents connection kept;
      points = gained connection kept;
      counts = record { bad_lines = (0, refl, refl); bad_pickles = bad_pickles connection kept; bad_rows = bad_rows connection kept };
    })
