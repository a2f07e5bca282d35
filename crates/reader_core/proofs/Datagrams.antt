-- What a datagram gives.
use Rattle.std.proofs.Common.{◌≡◌, ℕ, ◌+◌, List, [], ◌∷◌, ◌++◌, refl, ap, sym, subst, arith}
use Rattle.line_text.specs.Datapoint.{Datapoint}
use Rattle.line_text.specs.Line.{count_of}
use Rattle.line_text.specs.Connection.{arrivals}
use Rattle.line_text.specs.Datagram as datagrams
use Rattle.reader_core.specs.Input.{Stream}
use Rattle.reader_core.specs.Kinds.{bytes_of, points_in, bad_lines_in}
use Rattle.reader_core.specs.Scan.{PieceFound, gone_on, kind_of}
use Rattle.reader_core.specs.declared.kind.ReaderKind.TheVariants.{Datagram}
use Rattle.reader_core.specs.declared.scan.Scan.{Scan}
use Rattle.reader_core.specs.declared.scan.Scan.TheVariants.{Datagrams}
use Rattle.reader_core.specs.declared.scan.FoundInPiece.TheVariants.{InDatagram}

bytes_of-arrivals : (piece : List ℕ) (moment : ℕ) → bytes_of (arrivals piece moment) ≡ piece
bytes_of-arrivals [] moment = refl
bytes_of-arrivals (b ∷ piece) moment = ap (λ (others : List ℕ). b ∷ others) (bytes_of-arrivals piece moment)

points_in-arrivals : (piece : List ℕ) (moment : ℕ) → points_in Datagram (arrivals piece moment) ≡ datagrams.accepted_points piece moment
points_in-arrivals [] moment = refl
points_in-arrivals (b ∷ piece) moment = ap (λ (bytes : List ℕ). datagrams.accepted_points bytes moment) (bytes_of-arrivals (b ∷ piece) moment)

bad_lines_in-arrivals : (piece : List ℕ) (moment : ℕ) → bad_lines_in Datagram (arrivals piece moment) ≡ datagrams.bad_lines piece moment
bad_lines_in-arrivals [] moment = refl
bad_lines_in-arrivals (b ∷ piece) moment = ap (λ (bytes : List ℕ). datagrams.bad_lines bytes moment) (bytes_of-arrivals (b ∷ piece) moment)

pub datagram_found : (scan : Scan) → scan ≡ Datagrams → (connection : Stream) (piece : List ℕ) (moment : ℕ) (old new : List Datapoint) (bad : ℕ)
    → new ≡ old ++ datagrams.accepted_points piece moment → bad ≡ count_of (datagrams.bad_lines piece moment)
    → PieceFound scan (gone_on (kind_of scan) connection) (arrivals piece moment) old new (InDatagram bad)
datagram_found scan is connection piece moment old new bad gained reported =
    let more : bad_lines_in Datagram (arrivals piece moment) ≡ 0 + datagrams.bad_lines piece moment =
    omega (arith, bad_lines_in-arrivals piece moment) in
    subst (λ (s : Scan). PieceFound s (gone_on (kind_of s) connection) (arrivals piece moment) old new (InDatagram bad)) (sym is)
    (record {
      keeps = tt;
      points = (datagrams.accepted_points piece moment, gained, points_in-arrivals piece moment);
      counts = record {
        bad_lines = (datagrams.bad_lines piece moment, reported, more);
        bad_pickles = (0, refl, refl);
        bad_rows = (0, refl, refl);
      };
    })
