-- What a reader represents after a piece, and after the end of a connection.
use Rattle.std.proofs.Common.{◌≡◌, ℕ, ◌+◌, List, [], ◌++◌, length, refl, ap, sym, subst, ◌∙◌, arith, append-nil}
use Rattle.std.proofs.lemmas.List.{length-append}
use Rattle.std.proofs.lemmas.List.Concat.{flat_map-append}
use Rattle.std.proofs.lemmas.List.Sums.{sum_by-append}
use Rattle.line_text.specs.Datapoint.{Datapoint}
use Rattle.line_text.specs.Line.{count_of}
use Rattle.router.specs.Plan.{Plan}
use Rattle.reader_core.specs.Input.{Stream, current, input_after_piece, input_after_end}
use Rattle.reader_core.specs.Reading.{accepted_of}
use Rattle.reader_core.specs.Kinds.{points_in, bad_lines_in, bad_pickles_in, bad_rows_in, closes, relay_reading}
use Rattle.reader_core.specs.Configuration.{Dispatch}
use Rattle.reader_core.specs.Offers.{offers_of_point, offers_by, dropped_by}
use Rattle.reader_counts.specs.Counts.{totals_after}
use Rattle.reader_core.specs.Scan.{kind_of, is_closed, Keeps, gone_on, scan_after, counts_found, CountsFaults, PieceFound}
use Rattle.reader_core.specs.Taking.{PieceTaken}
use Rattle.reader_core.specs.Reader.{ReaderModel, Represents}
use Rattle.reader_counts.specs.declared.counts.ReaderCounts.{ReaderCounts}
use Rattle.reader_counts.specs.declared.totals.ReaderTotals.{ReaderTotals}
use Rattle.reader_core.specs.declared.kind.ReaderKind.{ReaderKind}
use Rattle.reader_core.specs.declared.kind.ReaderKind.TheVariants.{Line, Pickle, Datagram}
use Rattle.reader_core.specs.declared.scan.Scan.{Scan}
use Rattle.reader_core.specs.declared.scan.Scan.TheVariants.{Lines, Pickles, Datagrams}
use Rattle.reader_core.specs.declared.scan.FoundInPiece.{FoundInPiece}
use Rattle.reader_core.specs.declared.scan.FoundInPiece.TheVariants.{InLines, InFrames, InDatagram}
use Rattle.reader_core.proofs.Feeding.{current-fed, current-ended, fed-grows, ended-same, fed-counts, ended-counts}

-- ---- no bytes

each_kind : (P : ReaderKind → Type 0) → P Line → P Pickle → P Datagram → (kind : ReaderKind) → P kind
each_kind P line pickle datagram Line = line
each_kind P line pickle datagram Pickle = pickle
each_kind P line pickle datagram Datagram = datagram

no_points : (kind : ReaderKind) → points_in kind [] ≡ []
no_points = each_kind (λ k. points_in k [] ≡ []) refl refl refl

no_bad_lines : (kind : ReaderKind) → bad_lines_in kind [] ≡ 0
no_bad_lines = each_kind (λ k. bad_lines_in k [] ≡ 0) refl refl refl

no_bad_pickles : (kind : ReaderKind) → bad_pickles_in kind [] ≡ 0
no_bad_pickles = each_kind (λ k. bad_pickles_in k [] ≡ 0) refl refl refl

no_bad_rows : (kind : ReaderKind) → bad_rows_in kind [] ≡ 0
no_bad_rows = each_kind (λ k. bad_rows_in k [] ≡ 0) refl refl refl

-- ---- a piece

kind_of-after : (scan : Scan) (found : FoundInPiece) → kind_of (scan_after scan found) ≡ kind_of scan
kind_of-after (Lines reader) (InLines found) = refl
kind_of-after (Lines reader) (InFrames found) = refl
kind_of-after (Lines reader) (InDatagram bad) = refl
kind_of-after (Pickles reader) (InLines found) = refl
kind_of-after (Pickles reader) (InFrames found) = refl
kind_of-after (Pickles reader) (InDatagram bad) = refl
kind_of-after Datagrams (InLines found) = refl
kind_of-after Datagrams (InFrames found) = refl
kind_of-after Datagrams (InDatagram bad) = refl

counts_with : (kind : ReaderKind) (found : FoundInPiece) (n : ℕ) (before after : Stream)
    → CountsFaults kind (counts_found found 0) before after → CountsFaults kind (counts_found found n) before after
counts_with kind (InLines found) n before after c = record { bad_lines = c.bad_lines; bad_pickles = c.bad_pickles; bad_rows = c.bad_rows }
counts_with kind (InFrames found) n before after c = record { bad_lines = c.bad_lines; bad_pickles = c.bad_pickles; bad_rows = c.bad_rows }
counts_with kind (InDatagram bad) n before after c = record { bad_lines = c.bad_lines; bad_pickles = c.bad_pickles; bad_rows = c.bad_rows }

bad_names-found : (found : FoundInPiece) (n : ℕ) → (counts_found found n).bad_names ≡ n
bad_names-found (InLines found) n = refl
bad_names-found (InFrames found) n = refl
bad_names-found (InDatagram bad) n = refl

pub piece_taken : (old new : Scan) (found : FoundInPiece) (plan : Plan) (before piece : Stream) (points : List Datapoint) (offers : List Dispatch)
    (n : ℕ) (reported : ReaderTotals) → PieceFound old before piece [] points found → new ≡ scan_after old found
    → reported.faults ≡ counts_found found n → reported.datapoints ≡ count_of (length points) → offers ≡ offers_by plan points → n ≡ dropped_by plan points
    → PieceTaken old new plan before piece offers reported
piece_taken old new found plan before piece points offers n reported f moved counted read sends drops =
    let same : points ≡ f.points.0 = f.points.1 in
    record {
      kind = ap kind_of moved ∙ kind_of-after old found;
      keeps = subst (λ (s : Scan). Keeps s (before ++ piece)) (sym moved) f.keeps;
      gained = f.points.0;
      sent = record {
        points = f.points.2;
        waiting = sends ∙ ap (offers_by plan) same;
        dropped = ap (λ (c : ReaderCounts). c.bad_names) counted ∙ bad_names-found found n ∙ drops ∙ ap (dropped_by plan) same;
      };
      datapoints = read ∙ ap (λ (ps : List Datapoint). count_of (length ps)) same;
      faults = subst (λ (c : ReaderCounts). CountsFaults (kind_of old) c before (before ++ piece)) (sym counted)
          (counts_with (kind_of old) found n before (before ++ piece) f.counts);
    }

counted_more : (old reported new before after more : ℕ) → old ≡ count_of before → reported ≡ count_of more → after ≡ before + more
    → new ≡ count_of (old + reported) → new ≡ count_of after
counted_more old reported new before after more a b c d = omega (arith, a, b, c, d)

fed_same_kind : (s new : ReaderModel) (plan : Plan) (input : List Stream) (taken : List Dispatch) (piece : Stream) (reported : ReaderTotals)
    → Represents s (kind_of s.scan) plan input taken → s.waiting ≡ []
    → PieceTaken s.scan new.scan plan (gone_on (kind_of s.scan) (current input)) piece new.waiting reported
    → new.totals ≡ totals_after s.totals reported
    → Represents new (kind_of s.scan) plan (input_after_piece (kind_of s.scan) piece input) taken
fed_same_kind s new plan input taken piece reported represents empty t counted =
    let k = kind_of s.scan in
    let accepted_points = accepted_of relay_reading k input in
    let grows : accepted_of relay_reading k (input_after_piece k piece input) ≡ accepted_points ++ t.gained =
    fed-grows (points_in k) (no_points k) k piece input t.gained t.sent.points in
    let dropped : dropped_by plan (accepted_points ++ t.gained) ≡ dropped_by plan accepted_points + dropped_by plan t.gained = sum_by-append _ accepted_points t.gained in
    let none_lost : dropped_by plan (accepted_of relay_reading k (input_after_piece k piece input)) ≡ dropped_by plan accepted_points + reported.faults.bad_names =
    ap (dropped_by plan) grows ∙ dropped ∙ ap (λ (n : ℕ). dropped_by plan accepted_points + n) (sym t.sent.dropped) in
    record {
      kind = t.kind;
      keeps = subst (λ (c : Stream). Keeps new.scan c) (sym (current-fed k piece input)) t.keeps;
      waiting =
          ap (offers_by plan) grows
          ∙ flat_map-append (offers_of_point plan) accepted_points t.gained
          ∙ ap (λ (xs : List Dispatch). xs ++ offers_by plan t.gained) (represents.waiting ∙ ap (λ (w : List Dispatch). taken ++ w) empty ∙ append-nil taken)
          ∙ ap (λ (xs : List Dispatch). taken ++ xs) (sym t.sent.waiting);
      datapoints =
          counted_more s.totals.datapoints reported.datapoints new.totals.datapoints _ _ (length t.gained) represents.datapoints t.datapoints
          (ap (λ (ps : List Datapoint). length ps) grows ∙ length-append accepted_points t.gained)
          (ap (λ (c : ReaderTotals). c.datapoints) counted);
      bad_lines =
          counted_more s.totals.faults.bad_lines reported.faults.bad_lines new.totals.faults.bad_lines _ _ t.faults.bad_lines.0 represents.bad_lines t.faults.bad_lines.1
          (fed-counts (bad_lines_in k) (no_bad_lines k) k piece input t.faults.bad_lines.0 t.faults.bad_lines.2)
          (ap (λ (c : ReaderTotals). c.faults.bad_lines) counted);
      bad_pickles =
          counted_more s.totals.faults.bad_pickles reported.faults.bad_pickles new.totals.faults.bad_pickles _ _ t.faults.bad_pickles.0 represents.bad_pickles t.faults.bad_pickles.1
          (fed-counts (bad_pickles_in k) (no_bad_pickles k) k piece input t.faults.bad_pickles.0 t.faults.bad_pickles.2)
          (ap (λ (c : ReaderTotals). c.faults.bad_pickles) counted);
      bad_rows =
          counted_more s.totals.faults.bad_rows reported.faults.bad_rows new.totals.faults.bad_rows _ _ t.faults.bad_rows.0 represents.bad_rows t.faults.bad_rows.1
          (fed-counts (bad_rows_in k) (no_bad_rows k) k piece input t.faults.bad_rows.0 t.faults.bad_rows.2)
          (ap (λ (c : ReaderTotals). c.faults.bad_rows) counted);
      bad_names = omega (arith, represents.bad_names, none_lost, ap (λ (c : ReaderTotals). c.faults.bad_names) counted);
    }

pub Represents-fed : (s new : ReaderModel) (kind : ReaderKind) (plan : Plan) (input : List Stream) (taken : List Dispatch) (piece : Stream) (reported : ReaderTotals)
    → Represents s kind plan input taken → s.waiting ≡ []
    → PieceTaken s.scan new.scan plan (gone_on (kind_of s.scan) (current input)) piece new.waiting reported
    → new.totals ≡ totals_after s.totals reported
    → Represents new kind plan (input_after_piece kind piece input) taken
Represents-fed s new kind plan input taken piece reported represents empty t counted =
    subst (λ (k : ReaderKind). Represents new k plan (input_after_piece k piece input) taken) represents.kind
    (fed_same_kind s new plan input taken piece reported
    (subst (λ (k : ReaderKind). Represents s k plan input taken) (sym represents.kind) represents) empty t counted)

-- ---- the end of a connection

keeps_at_end : (scan : Scan) (input : List Stream) → Keeps scan [] → Keeps scan (current (input_after_end (kind_of scan) input))
keeps_at_end (Lines reader) input keeps = subst (λ (c : Stream). Keeps (Lines reader) c) (sym (current-ended input)) keeps
keeps_at_end (Pickles reader) input keeps = subst (λ (c : Stream). Keeps (Pickles reader) c) (sym (current-ended input)) keeps
keeps_at_end Datagrams input keeps = tt

pub Represents-ended : (s : ReaderModel) (scan : Scan) (kind : ReaderKind) (plan : Plan) (input : List Stream) (taken : List Dispatch)
    → Represents s kind plan input taken → kind_of scan ≡ kind_of s.scan → Keeps scan []
    → Represents (record s { scan = scan }) kind plan (input_after_end kind input) taken
Represents-ended s scan kind plan input taken represents same keeps =
    let is : kind_of scan ≡ kind = same ∙ represents.kind in
    let points : accepted_of relay_reading kind (input_after_end kind input) ≡ accepted_of relay_reading kind input =
    ended-same (points_in kind) (no_points kind) kind input in
    record {
      kind = is;
      keeps = subst (λ (k : ReaderKind). Keeps scan (current (input_after_end k input))) is (keeps_at_end scan input keeps);
      waiting = ap (offers_by plan) points ∙ represents.waiting;
      datapoints = represents.datapoints ∙ ap (λ (ps : List Datapoint). count_of (length ps)) (sym points);
      bad_lines = represents.bad_lines ∙ ap count_of (sym (ended-counts (bad_lines_in kind) (no_bad_lines kind) kind input));
      bad_pickles = represents.bad_pickles ∙ ap count_of (sym (ended-counts (bad_pickles_in kind) (no_bad_pickles kind) kind input));
      bad_rows = represents.bad_rows ∙ ap count_of (sym (ended-counts (bad_rows_in kind) (no_bad_rows kind) kind input));
      bad_names = represents.bad_names ∙ ap (λ (ps : List Datapoint). count_of (dropped_by plan ps)) (sym points);
    }

-- ---- whether it is closed

closed_of : (scan : Scan) (connection : Stream) → Keeps scan connection → is_closed scan ≡ closes (kind_of scan) connection
closed_of (Lines reader) connection keeps = keeps.closed
closed_of (Pickles reader) connection keeps = keeps.closed
closed_of Datagrams connection keeps = refl

pub Represents-closed : (s : ReaderModel) (kind : ReaderKind) (plan : Plan) (input : List Stream) (taken : List Dispatch)
    → Represents s kind plan input taken → is_closed s.scan ≡ closes kind (current input)
Represents-closed s kind plan input taken represents =
    closed_of s.scan (current input) represents.keeps ∙ ap (λ (k : ReaderKind). closes k (current input)) represents.kind
