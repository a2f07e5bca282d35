-- What each connection got is whole lines and a part of one, and the kept points are written whole, in hand or queued.
use Rattle.std.proofs.Common.{◌≡◌, ◌≤◌, ◌-◌, ◌+◌, ℕ, leb, Bool, true, false, List, [], ◌∷◌, ◌++◌, length, take, drop, refl, sym, ap, ◌∙◌}
use Rattle.std.proofs.lemmas.Bool.{and_parts, leb-true, true≢false, false≢true, not-true}
use Rattle.std.proofs.lemmas.List.{append-nil, append_assoc, take-append-drop, take_all, length-drop}
use Rattle.std.proofs.lemmas.List.Concat.{flat_map-append}
use Rattle.std.proofs.Math.Seq.{take-add}
use Rattle.dest_queue.specs.Queue.{has_room, batch}
use Rattle.line_text.specs.Datapoint.{Datapoint}
use Rattle.line_text.specs.Print.{printed_line, printed_lines}
use Rattle.reader_core.specs.Reading.{Reading}
use Rattle.dest_writer.specs.Writer.{is_empty_handed, left, unfinished_points}
use Rattle.relay_core.specs.Destination.{Destination, with_more_bytes, Act, Offered, Taken, Connected, Written, Lost, may_act, dest_after}
use Rattle.relay_core.specs.Run.{Run, Deed, points_kept}
use Rattle.relay_core.specs.Laws.{IsPartOfFirst, GotLines, WritesWhole}
use Rattle.relay_core.proofs.Destinations.{at_each}
use Rattle.relay_core.proofs.Kept.{points_kept-more}
use Rattle.relay_core.proofs.Cuts.{finished, finished-unfinished, unfinished_points-none, cut_at, take-nil, IsPartOfFirst-more}

-- ---- lists of connections

-- more points are added behind the others
GotLines-more : (connections : List (List ℕ)) (points rest more : List Datapoint) → GotLines connections points rest
    → GotLines connections (points ++ more) (rest ++ more)
GotLines-more [] points rest more e = ap (λ all. all ++ more) e
GotLines-more (bytes ∷ connections) points rest more (whole, others, part, split, got, begun, later) = (
  whole,
  others ++ more,
  part,
  ap (λ all. all ++ more) split ∙ append_assoc whole others more,
  got,
  IsPartOfFirst-more part others more begun,
  GotLines-more connections others rest more later,
)

-- one connection more
GotLines-push : (connections : List (List ℕ)) (points whole rest : List Datapoint) (part : List ℕ)
    → GotLines connections points (whole ++ rest) → IsPartOfFirst part rest
    → GotLines (connections ++ (printed_lines whole ++ part) ∷ []) points rest
GotLines-push [] points whole rest part e begun = (whole, rest, part, e, refl, begun, refl)
GotLines-push (bytes ∷ connections) points whole rest part (first, others, cut, split, got, cut_short, later) begun =
    (first, others, cut, split, got, cut_short, GotLines-push connections others whole rest part later begun)

with_more_bytes-last : (bytes : List ℕ) (closed : List (List ℕ)) (last : List ℕ)
    → with_more_bytes bytes (closed ++ last ∷ []) ≡ closed ++ (last ++ bytes) ∷ []
with_more_bytes-last bytes [] last = refl
with_more_bytes-last bytes (first ∷ []) last = refl
with_more_bytes-last bytes (first ∷ second ∷ closed) last = ap (λ others. first ∷ others) (with_more_bytes-last bytes (second ∷ closed) last)

empty_handed : (points : List Datapoint) → is_empty_handed points ≡ true → points ≡ []
empty_handed [] e = refl
empty_handed (point ∷ points) e = absurd (false≢true e)

-- ---- what the connection got, when it takes more of the hand

all_taken : (closed : List (List ℕ)) (done hand : List Datapoint) (written count : ℕ) → length (printed_lines hand) - written ≤ count
    → with_more_bytes (take count (drop written (printed_lines hand))) (closed ++ (printed_lines done ++ take written (printed_lines hand)) ∷ [])
    ≡ closed ++ (printed_lines (done ++ hand) ++ []) ∷ []
all_taken closed done hand written count l =
    with_more_bytes-last (take count (drop written (printed_lines hand))) closed (printed_lines done ++ take written (printed_lines hand))
    ∙ ap (λ last. closed ++ last ∷ [])
    (append_assoc (printed_lines done) (take written (printed_lines hand)) (take count (drop written (printed_lines hand)))
    ∙ ap (λ rest. printed_lines done ++ (take written (printed_lines hand) ++ rest)) (take_all count (drop written (printed_lines hand)) (rw length-drop l))
    ∙ ap (λ text. printed_lines done ++ text) (take-append-drop written (printed_lines hand))
    ∙ sym (append-nil (printed_lines (done ++ hand)) ∙ flat_map-append printed_line done hand))

some_taken : (closed : List (List ℕ)) (before text : List ℕ) (written count : ℕ)
    → with_more_bytes (take count (drop written text)) (closed ++ (before ++ take written text) ∷ []) ≡ closed ++ (before ++ take (written + count) text) ∷ []
some_taken closed before text written count =
    with_more_bytes-last (take count (drop written text)) closed (before ++ take written text)
    ∙ ap (λ last. closed ++ last ∷ [])
    (append_assoc before (take written text) (take count (drop written text)) ∙ ap (λ taken. before ++ taken) (sym (take-add written count text)))

-- the connection that is up, or was until now
GotLines-last : (closed : List (List ℕ)) (points done hand queued : List Datapoint) (written : ℕ)
    → GotLines closed points (done ++ hand ++ queued)
    → GotLines (closed ++ (printed_lines done ++ take written (printed_lines hand)) ∷ []) points (unfinished_points written hand ++ queued)
GotLines-last closed points done hand queued written lines =
    let cut = cut_at written hand in
    let same : printed_lines (done ++ finished written hand) ++ cut.part ≡ printed_lines done ++ take written (printed_lines hand) =
    ap (λ text. text ++ cut.part) (flat_map-append printed_line done (finished written hand))
    ∙ append_assoc (printed_lines done) (printed_lines (finished written hand)) cut.part
    ∙ ap (λ text. printed_lines done ++ text) (sym cut.taken) in
    let split : done ++ hand ++ queued ≡ done ++ finished written hand ++ (unfinished_points written hand ++ queued) =
    ap (λ points. done ++ points ++ queued) (sym (finished-unfinished written hand)) ∙ simp append_assoc in
    rw (← same)
    (GotLines-push closed points (done ++ finished written hand) (unfinished_points written hand ++ queued) cut.part (rw split at lines)
    (IsPartOfFirst-more cut.part (unfinished_points written hand) queued cut.begun))

-- ---- one destination

module _ (size limit : ℕ) where
  record IsWritten (dest : Destination) (deeds : List Deed) : Type 0 where
    -- the connections that are lost
    closed : List (List ℕ)
    -- the batches that the connection got whole
    done : List Datapoint
    while_up : dest.writer.up ≡ true
        → dest.connections ≡ closed ++ (printed_lines done ++ take dest.writer.written (printed_lines dest.writer.hand)) ∷ []
    while_down : dest.writer.up ≡ false → (dest.connections ≡ closed) × (done ≡ []) × (dest.writer.written ≡ 0)
    lines : GotLines closed (points_kept size deeds) (done ++ dest.writer.hand ++ dest.queue.points)

  -- an act that is not an offer keeps nothing
  same_kept : (deeds : List Deed) (deed : Deed) → points_kept size (deed ∷ []) ≡ [] → points_kept size (deeds ++ deed ∷ []) ≡ points_kept size deeds
  same_kept deeds deed e = points_kept-more size deeds deed ∙ ap (λ kept. points_kept size deeds ++ kept) e ∙ append-nil (points_kept size deeds)

  -- an offer queues what is kept
  offered_lines : (dest : Destination) (deeds : List Deed) (d r : ℕ) (point : Datapoint) (closed : List (List ℕ)) (before : List Datapoint)
      → GotLines closed (points_kept size deeds) (before ++ dest.queue.points) → (b : Bool) → has_room size dest.queue ≡ b
      → GotLines closed (points_kept size (deeds ++ record { dest = d; act = Offered r point; before = dest } ∷ []))
      (before ++ (dest_after size limit dest (Offered r point)).queue.points)
  offered_lines dest deeds d r point closed before lines true h =
      rw (points_kept-more, h, ← append_assoc before dest.queue.points (point ∷ []))
      (GotLines-more closed (points_kept size deeds) (before ++ dest.queue.points) (point ∷ []) lines)
  offered_lines dest deeds d r point closed before lines false h = rw (points_kept-more, h, append-nil) lines

  wrote : (dest : Destination) (deeds : List Deed) (d count : ℕ) → may_act dest (Written count) ≡ true → IsWritten dest deeds
      → (b : Bool) → leb (left dest.writer) count ≡ b
      → IsWritten (dest_after size limit dest (Written count)) (deeds ++ record { dest = d; act = Written count; before = dest } ∷ [])
  wrote dest deeds d count may i true h =
      record {
        closed = i.closed;
        done = i.done ++ dest.writer.hand;
        while_up = λ e. rw (h, i.while_up e) (all_taken i.closed i.done dest.writer.hand dest.writer.written count (leb-true _ _ h));
        while_down = λ e. absurd (true≢false (sym (and_parts _ _ may).0 ∙ e));
        lines = rw (h, same_kept deeds (record { dest = d; act = Written count; before = dest }) refl, append-nil) i.lines;
      }
  wrote dest deeds d count may i false h =
      record {
        closed = i.closed;
        done = i.done;
        while_up = λ e. rw (h, i.while_up e) (some_taken i.closed (printed_lines i.done) (printed_lines dest.writer.hand) dest.writer.written count);
        while_down = λ e. absurd (true≢false (sym (and_parts _ _ may).0 ∙ e));
        lines = rw (h, same_kept deeds (record { dest = d; act = Written count; before = dest }) refl) i.lines;
      }

  keeps_on : (dest : Destination) (deeds : List Deed) (d : ℕ) (act : Act) → may_act dest act ≡ true → IsWritten dest deeds
      → IsWritten (dest_after size limit dest act) (deeds ++ record { dest = d; act = act; before = dest } ∷ [])
  keeps_on dest deeds d (Offered r point) may i =
      record {
        closed = i.closed;
        done = i.done;
        while_up = i.while_up;
        while_down = i.while_down;
        lines = offered_lines dest deeds d r point i.closed (i.done ++ dest.writer.hand) i.lines (has_room size dest.queue) refl;
      }
  keeps_on dest deeds d Taken may i =
      let parts = and_parts _ _ may in
      let none = empty_handed dest.writer.hand parts.1 in
      let same : i.done ++ dest.writer.hand ++ dest.queue.points ≡ i.done ++ batch limit dest.queue ++ drop limit dest.queue.points =
      rw none (simp (append-nil, append_assoc, take-append-drop)) in
      record {
        closed = i.closed;
        done = i.done;
        while_up = λ e. i.while_up e ∙ rw (none, take-nil);
        while_down = λ e. absurd (true≢false (sym parts.0 ∙ e));
        lines = rw (same_kept deeds (record { dest = d; act = Taken; before = dest }) refl, ← same) i.lines;
      }
  keeps_on dest deeds d Connected may i =
      let down = i.while_down (not-true _ may) in
      record {
        closed = i.closed;
        done = i.done;
        while_up = λ e. rw (down.0, down.1, down.2);
        while_down = λ e. absurd (true≢false e);
        lines = rw (same_kept deeds (record { dest = d; act = Connected; before = dest }) refl) i.lines;
      }
  keeps_on dest deeds d (Written count) may i = wrote dest deeds d count may i (leb (left dest.writer) count) refl
  keeps_on dest deeds d Lost may i =
      record {
        closed = i.closed ++ (printed_lines i.done ++ take dest.writer.written (printed_lines dest.writer.hand)) ∷ [];
        done = [];
        while_up = λ e. absurd (false≢true e);
        while_down = λ e. (i.while_up may, refl, refl);
        lines =
            rw (same_kept deeds (record { dest = d; act = Lost; before = dest }) refl)
            (GotLines-last i.closed (points_kept size deeds) i.done dest.writer.hand dest.queue.points dest.writer.written i.lines);
      }

  at_end : (dest : Destination) (deeds : List Deed) → IsWritten dest deeds → (b : Bool) → dest.writer.up ≡ b
      → GotLines dest.connections (points_kept size deeds) (unfinished_points dest.writer.written dest.writer.hand ++ dest.queue.points)
  at_end dest deeds i true e =
      rw (i.while_up e) (GotLines-last i.closed (points_kept size deeds) i.done dest.writer.hand dest.queue.points dest.writer.written i.lines)
  at_end dest deeds i false e =
      let down = i.while_down e in rw (down.0, down.2, unfinished_points-none) (rw down.1 at i.lines)

pub writes_whole : (reading : Reading) (run : Run) → WritesWhole reading run
writes_whole reading run d l =
    let written =
    at_each reading run (IsWritten run.configuration.size run.configuration.limit)
    (keeps_on run.configuration.size run.configuration.limit)
    (record { closed = []; done = []; while_up = λ e. absurd (false≢true e); while_down = λ e. (refl, refl, refl); lines = refl })
    d l in
    at_end run.configuration.size run.configuration.limit _ _ written _ refl
