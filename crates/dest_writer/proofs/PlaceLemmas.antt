-- Places in the text of datapoints.
use Rattle.std.proofs.Common.{◌≡◌, ◌⊎◌, inl, inr, ℕ, get_or, zero, suc, ◌+◌, ◌-◌, ◌<◌, ◌≤◌, List, [], ◌∷◌, ◌++◌, length, take, drop, ap, sym, refl, subst, ◌∙◌, arith, zero-add, take-add, Bool, true, false, ◌==◌, eq-eqb}
use Rattle.std.proofs.lemmas.Bool.{cases_lt, ne_eqb, lt-leb}
use Rattle.std.proofs.lemmas.Grind.{common_steps}
use Rattle.std.proofs.lemmas.List.{drop_more, take-take, take-append-drop, drop-drop, length-append, length-drop, length-take, drop-take, drop-append-le, take-append-le, take_all}
use Rattle.std.proofs.Math.Seq.{drop-append-add}
use Rattle.line_text.specs.Datapoint.{Datapoint}
use Rattle.line_text.specs.Print.{printed_line, printed_lines}
use Rattle.dest_writer.specs.declared.place.Place.{Place}
use Rattle.dest_writer.specs.Place.{first_line, line_at, length_of_first, position, IsPlace}
use Rattle.dest_writer.specs.Gathered.{GatheredBytes, IsGathered}
use Rattle.dest_writer.specs.Writer.{WriterState, left, bytes_left, bytes_written, unfinished_points, line_left_of, writer_after_write}
use Rattle.dest_writer.proofs.LinesLemmas.{printed_lines-append, printed_lines-one, printed_line-some}

-- ---- the text, cut at an index

pub text-cut : (i : ℕ) (ps : List Datapoint) → printed_lines ps ≡ printed_lines (take i ps) ++ printed_lines (drop i ps)
text-cut i ps = ap printed_lines (sym (take-append-drop i ps)) ∙ printed_lines-append (take i ps) (drop i ps)

pub first-text : (ps : List Datapoint) → printed_lines ps ≡ first_line ps ++ printed_lines (drop 1 ps)
first-text [] = refl
first-text (p ∷ ps) = refl

pub length-cut : (i : ℕ) (ps : List Datapoint) → length (printed_lines ps) ≡ length_of_first i ps + length (printed_lines (drop i ps))
length-cut i ps = ap length (text-cut i ps) ∙ length-append (printed_lines (take i ps)) (printed_lines (drop i ps))

pub length-first : (i : ℕ) (ps : List Datapoint) → length (printed_lines (drop i ps)) ≡ length (line_at i ps) + length (printed_lines (drop (i + 1) ps))
length-first i ps =
    ap length (first-text (drop i ps))
    ∙ length-append (line_at i ps) (printed_lines (drop 1 (drop i ps)))
    ∙ ap (λ (qs : List Datapoint). length (line_at i ps) + length (printed_lines qs)) (drop-drop 1 i ps)

pub length-next : (i : ℕ) (ps : List Datapoint) → length_of_first (i + 1) ps ≡ length_of_first i ps + length (line_at i ps)
length-next i ps =
    let here = length-cut i ps in
    let next = length-cut (i + 1) ps in
    let first = length-first i ps in
    omega arith

-- ---- whether there is a line

first-some : (qs : List Datapoint) → 0 < length qs → 0 < length (first_line qs)
first-some [] some = absurd (omega arith)
first-some (q ∷ qs) some = printed_line-some q

first-none : (qs : List Datapoint) → 0 < length (first_line qs) → 0 < length qs
first-none [] some = absurd (omega arith)
first-none (q ∷ qs) some = let e = length-append (q ∷ []) qs in omega arith

pub line-some : (i : ℕ) (ps : List Datapoint) → i < length ps → 0 < length (line_at i ps)
line-some i ps inside = first-some (drop i ps) (let e = length-drop i ps in omega arith)

pub line-inside : (i : ℕ) (ps : List Datapoint) → 0 < length (line_at i ps) → i < length ps
line-inside i ps some =
    let more = first-none (drop i ps) some in
    let e = length-drop i ps in
    omega arith

-- ---- what is behind a place

pub position-left : (index offset : ℕ) (ps : List Datapoint) → drop (length_of_first index ps + offset) (printed_lines ps) ≡ drop offset (printed_lines (drop index ps))
position-left index offset ps =
    ap (drop (length_of_first index ps + offset)) (text-cut index ps)
    ∙ drop-append-add (printed_lines (take index ps)) (printed_lines (drop index ps)) offset

-- a place before a byte of its line has a byte of the text behind it
pub position-less : (index offset : ℕ) (ps : List Datapoint) → offset < length (line_at index ps) → length_of_first index ps + offset < length (printed_lines ps)
position-less index offset ps less =
    let cut = length-cut index ps in
    let first = length-first index ps in
    omega arith

pub length-all : (ps : List Datapoint) → length_of_first (length ps) ps ≡ length (printed_lines ps)
length-all ps = ap (λ (qs : List Datapoint). length (printed_lines qs)) (take_all (length ps) ps (omega arith))

pub length_of_first-most : (i : ℕ) (ps : List Datapoint) → length_of_first i ps ≤ length (printed_lines ps)
length_of_first-most i ps = let cut = length-cut i ps in omega arith

-- ---- where a connection is lost

unfinished-next : (p : Datapoint) (ps : List Datapoint) (n : ℕ) → unfinished_points (length (printed_line p) + n) (p ∷ ps) ≡ unfinished_points n ps
unfinished-next p ps n = grind (arith, common_steps)

unfinished-skip : (i o : ℕ) (ps : List Datapoint) → i ≤ length ps → unfinished_points (length_of_first i ps + o) ps ≡ unfinished_points o (drop i ps)
unfinished-skip zero o ps inside = ap (λ (n : ℕ). unfinished_points n ps) (zero-add o)
unfinished-skip (suc i) o [] inside = refl
unfinished-skip (suc i) o (p ∷ ps) inside =
    let e = length-append (printed_line p) (printed_lines (take i ps)) in
    let n : length (printed_line p ++ printed_lines (take i ps)) + o ≡ length (printed_line p) + (length_of_first i ps + o) = omega arith in
    ap (λ (n : ℕ). unfinished_points n (p ∷ ps)) n
    ∙ unfinished-next p ps (length_of_first i ps + o)
    ∙ unfinished-skip i o ps (let e = length-append (p ∷ []) ps in omega arith)

unfinished-first : (o : ℕ) (qs : List Datapoint) → o < length (first_line qs) → unfinished_points o qs ≡ qs
unfinished-first o [] less = refl
unfinished-first o (q ∷ qs) less = grind (arith, common_steps)

-- the lines that are not wholly before a place
pub unfinished-at : (index offset : ℕ) (ps : List Datapoint) → offset < length (line_at index ps) → unfinished_points (length_of_first index ps + offset) ps ≡ drop index ps
unfinished-at index offset ps less =
    let inside = line-inside index ps (omega arith) in
    unfinished-skip index offset ps (omega arith) ∙ unfinished-first offset (drop index ps) less

-- ---- the current line

left-next : (p : Datapoint) (ps : List Datapoint) (n : ℕ) → line_left_of (length (printed_line p) + n) (p ∷ ps) ≡ line_left_of n ps
left-next p ps n = grind (arith, common_steps)

left-skip : (i o : ℕ) (ps : List Datapoint) → i ≤ length ps → line_left_of (length_of_first i ps + o) ps ≡ line_left_of o (drop i ps)
left-skip zero o ps inside = ap (λ (n : ℕ). line_left_of n ps) (zero-add o)
left-skip (suc i) o [] inside = refl
left-skip (suc i) o (p ∷ ps) inside =
    let e = length-append (printed_line p) (printed_lines (take i ps)) in
    let n : length (printed_line p ++ printed_lines (take i ps)) + o ≡ length (printed_line p) + (length_of_first i ps + o) = omega arith in
    ap (λ (n : ℕ). line_left_of n (p ∷ ps)) n
    ∙ left-next p ps (length_of_first i ps + o)
    ∙ left-skip i o ps (let e = length-append (p ∷ []) ps in omega arith)

left-first : (o : ℕ) (qs : List Datapoint) → o < length (first_line qs) → line_left_of o qs ≡ drop o (first_line qs)
left-first o [] less = absurd (omega arith)
left-first o (q ∷ qs) less = grind (arith, common_steps)

-- what is left of the line at a place
pub left-at : (index offset : ℕ) (ps : List Datapoint) → offset < length (line_at index ps) → line_left_of (length_of_first index ps + offset) ps ≡ drop offset (line_at index ps)
left-at index offset ps less =
    let inside = line-inside index ps (omega arith) in
    left-skip index offset ps (omega arith) ∙ left-first offset (drop index ps) less

-- the lines from a place up to an index are the next bytes of the text
pub next-lines : (index offset count : ℕ) (ps : List Datapoint)
    → offset ≤ length (printed_lines (take count (drop index ps)))
    → drop offset (printed_lines (take count (drop index ps)))
    ≡ take (length_of_first (index + count) ps - (length_of_first index ps + offset)) (drop (length_of_first index ps + offset) (printed_lines ps))
next-lines index offset count ps within =
    let qs = drop index ps in
    let mine = printed_lines (take count qs) in
    let rest = printed_lines (drop count qs) in
    let split : printed_lines qs ≡ mine ++ rest = text-cut count qs in
    let first : length_of_first (index + count) ps ≡ length_of_first index ps + length mine =
    ap (λ (xs : List Datapoint). length (printed_lines xs)) (take-add index count ps)
    ∙ ap length (printed_lines-append (take index ps) (take count qs))
    ∙ length-append (printed_lines (take index ps)) mine in
    let behind : drop (length_of_first index ps + offset) (printed_lines ps) ≡ drop offset mine ++ rest =
    position-left index offset ps ∙ ap (drop offset) split ∙ drop-append-le offset mine rest within in
    let many : length_of_first (index + count) ps - (length_of_first index ps + offset) ≡ length (drop offset mine) =
    (let e = length-drop offset mine in omega arith) in
    sym (ap (λ (n : ℕ). take n (drop (length_of_first index ps + offset) (printed_lines ps))) many
    ∙ ap (take (length (drop offset mine))) behind
    ∙ take-append-le (length (drop offset mine)) (drop offset mine) rest (omega arith)
    ∙ take_all (length (drop offset mine)) (drop offset mine) (omega arith))

-- ---- where a writer is in its text

-- before a byte of a line, unless the hand is empty
abbrev pub IsWithin : ℕ → ℕ → List Datapoint → Type 0
IsWithin index offset ps = (offset < length (line_at index ps)) ⊎ ((ps ≡ []) × (index ≡ 0) × (offset ≡ 0))

none-unfinished : (index n : ℕ) (ps : List Datapoint) → ps ≡ [] → drop index ps ≡ unfinished_points n ps
none-unfinished zero n ps none = sym (ap (unfinished_points n) none ∙ sym none)
none-unfinished (suc index) n ps none = ap (drop (suc index)) none ∙ sym (ap (unfinished_points n) none)

pub within-unfinished : (index offset : ℕ) (ps : List Datapoint) → IsWithin index offset ps → drop index ps ≡ unfinished_points (length_of_first index ps + offset) ps
within-unfinished index offset ps (inl less) = sym (unfinished-at index offset ps less)
within-unfinished index offset ps (inr none) = none-unfinished index (length_of_first index ps + offset) ps none.0

pub place-less : (place : Place) (ps : List Datapoint) → IsPlace place ps → (place.index ≡ length ps → ⊥) → position place ps < length (printed_lines ps)
place-less place ps (inl less) not_end = position-less place.index place.offset ps less
place-less place ps (inr end) not_end = absurd (not_end end.0)

pub write-position : (w : WriterState) (n : ℕ) → w.written ≤ n → n < length (printed_lines w.hand) → record w { written = n } ≡ writer_after_write (n - w.written) w
write-position w n behind less = grind (arith, common_steps)

-- a place right behind a line, or behind the last
line-place-of : (index : ℕ) (ps : List Datapoint) → index ≤ length ps → (index < length ps) ⊎ (length ps ≤ index) → IsPlace (record { index = index; offset = 0 }) ps
line-place-of index ps within (inl less) = inl (line-some index ps less)
line-place-of index ps within (inr end) = inr (omega arith, refl)

pub line-place : (index : ℕ) (ps : List Datapoint) → index ≤ length ps → IsPlace (record { index = index; offset = 0 }) ps
line-place index ps within = line-place-of index ps within (cases_lt index (length ps))

-- nothing is left only of an empty hand
pub some-within : (index offset : ℕ) (ps : List Datapoint) → IsWithin index offset ps → 0 < length (printed_lines ps) - (length_of_first index ps + offset) → offset < length (line_at index ps)
some-within index offset ps (inl less) some = less
some-within index offset ps (inr none) some = let nothing = ap (λ (qs : List Datapoint). length (printed_lines qs)) none.0 in absurd (omega arith)

done-within : (done : Bool) (left : ℕ) (ps : List Datapoint) → 0 < left → 0 < length ps → (done ≡ true → ps ≡ []) → done ≡ (left == 0)
done-within true left ps some many none = let nothing = ap (λ (qs : List Datapoint). length qs) (none refl) in absurd (omega arith)
done-within false left ps some many none = sym (ne_eqb left 0 (λ e. omega arith))

pub done-is : (done : Bool) (index offset : ℕ) (ps : List Datapoint) → IsWithin index offset ps → (done ≡ true → ps ≡ []) → (ps ≡ [] → done ≡ true)
    → done ≡ (length (printed_lines ps) - (length_of_first index ps + offset) == 0)
done-is done index offset ps (inl less) none empty =
    let left = position-less index offset ps less in
    let some = line-inside index ps (omega arith) in
    done-within done (length (printed_lines ps) - (length_of_first index ps + offset)) ps (omega arith) (omega arith) none
done-is done index offset ps (inr nothing) none empty =
    let no = ap (λ (qs : List Datapoint). length (printed_lines qs)) nothing.0 in
    empty nothing.0 ∙ sym (eq-eqb (length (printed_lines ps) - (length_of_first index ps + offset)) 0 (omega arith))

-- ---- passing lines

pub line-behind : (i o : ℕ) (ps : List Datapoint) → o < length (line_at i ps) → length_of_first i ps + o ≤ length_of_first (i + 1) ps + 0
line-behind i o ps less = let next = length-next i ps in omega arith

pub line-count : (i o : ℕ) (ps : List Datapoint) → o < length (line_at i ps) → length_of_first (i + 1) ps + 0 - (length_of_first i ps + o) ≡ length (line_left_of (length_of_first i ps + o) ps)
line-count i o ps less =
    let left = ap length (left-at i o ps less) ∙ length-drop o (line_at i ps) in
    let next = length-next i ps in
    omega arith

-- an index in the datapoints from an index on
pub shift : (i j : ℕ) (ps : List Datapoint) → length_of_first (i + j) ps ≡ length_of_first i ps + length_of_first j (drop i ps)
shift i j ps =
    ap (λ (xs : List Datapoint). length (printed_lines xs)) (take-add i j ps)
    ∙ ap length (printed_lines-append (take i ps) (take j (drop i ps)))
    ∙ length-append (printed_lines (take i ps)) (printed_lines (take j (drop i ps)))

pub shift-line : (i j : ℕ) (ps : List Datapoint) → line_at j (drop i ps) ≡ line_at (i + j) ps
shift-line i j ps = ap first_line (drop-drop j i ps)

pub within-index : (i o : ℕ) (ps : List Datapoint) → IsWithin i o ps → i ≤ length ps
within-index i o ps (inl less) = let inside = line-inside i ps (omega arith) in omega arith
within-index i o ps (inr none) = let zero = none.1 in omega arith

pub within-offset : (i o : ℕ) (ps : List Datapoint) → IsWithin i o ps → o ≤ length (line_at 0 (drop i ps))
within-offset i o ps (inl less) = let e = ap length (shift-line i 0 ps) in omega arith
within-offset i o ps (inr none) = let zero = none.2 in omega arith

pub shift-place : (i : ℕ) (place : Place) (ps : List Datapoint) → i ≤ length ps → IsPlace place (drop i ps) → IsPlace (record { index = i + place.index; offset = place.offset }) ps
shift-place i place ps within (inl less) = inl (let e = ap length (shift-line i place.index ps) in omega arith)
shift-place i place ps within (inr end) = inr (let e = length-drop i ps in let at = end.0 in omega arith, end.1)

pub place-most : (place : Place) (ps : List Datapoint) → IsPlace place ps → position place ps ≤ length (printed_lines ps)
place-most place ps (inl less) = let most = position-less place.index place.offset ps less in omega arith
place-most place ps (inr end) = let most = length_of_first-most place.index ps in let zero = end.1 in omega arith

-- ---- datapoints in slices

pub rest-is : (i : ℕ) (xs ps : List Datapoint) → xs ≡ ps → take (length xs - i) (drop i xs) ≡ drop i ps
rest-is i xs ps is = take_all (length xs - i) (drop i xs) (let e = length-drop i xs in omega arith) ∙ ap (drop i) is

pub line-is : (i : ℕ) (d : Datapoint) (xs : List Datapoint) → i < length xs → line_at i xs ≡ printed_line (get_or xs i d)
line-is i d xs inside = ap first_line (drop_more xs i d inside)

-- ---- what is gathered

first-more : (more : ℕ) (qs : List Datapoint) → printed_lines (take (1 + more) qs) ≡ first_line qs ++ printed_lines (take more (drop 1 qs))
first-more more qs =
    ap printed_lines (take-add 1 more qs)
    ∙ printed_lines-append (take 1 qs) (take more (drop 1 qs))
    ∙ ap (λ (bytes : List ℕ). bytes ++ printed_lines (take more (drop 1 qs))) (first-one qs)
  where
    first-one : (qs : List Datapoint) → printed_lines (take 1 qs) ≡ first_line qs
    first-one [] = refl
    first-one (q ∷ qs) = printed_lines-one q

pub gathered-bytes : (i o more : ℕ) (ps : List Datapoint) → o < length (line_at i ps)
    → drop o (line_at i ps) ++ printed_lines (take more (drop (i + 1) ps)) ≡ drop o (printed_lines (take (i + 1 + more - i) (drop i ps)))
gathered-bytes i o more ps less =
    let qs = drop i ps in
    let rest = ap (λ (xs : List Datapoint). printed_lines (take more xs)) (drop-drop 1 i ps) in
    let count : i + 1 + more - i ≡ 1 + more = omega arith in
    sym (ap (λ (n : ℕ). drop o (printed_lines (take n qs))) count
    ∙ ap (drop o) (first-more more qs)
    ∙ drop-append-le o (line_at i ps) (printed_lines (take more (drop 1 qs))) (omega arith)
    ∙ ap (λ (bytes : List ℕ). drop o (line_at i ps) ++ bytes) rest)

first-least : (n : ℕ) (qs : List Datapoint) → 0 < n → length (first_line qs) ≤ length (printed_lines (take n qs))
first-least n qs some =
    let count : n ≡ 1 + (n - 1) = omega arith in
    let e = ap (λ (m : ℕ). length (printed_lines (take m qs))) count ∙ ap length (first-more (n - 1) qs) ∙ length-append (first_line qs) (printed_lines (take (n - 1) (drop 1 qs))) in
    omega arith

module _ (w : WriterState) (i o : ℕ) (at : w.written ≡ length_of_first i w.hand + o) (less : o < length (line_at i w.hand)) where
  -- the lines from the current one up to an end
  pub gathers : (g : GatheredBytes) → i < g.end → g.end ≤ length w.hand
      → g.bytes ≡ drop o (printed_lines (take (g.end - i) (drop i w.hand))) → IsGathered w g
  gathers g behind within bytes =
      let least = first-least (g.end - i) (drop i w.hand) (omega arith) in
      let end : i + (g.end - i) ≡ g.end = omega arith in
      let more = ap (λ (n : ℕ). length_of_first n w.hand) (sym end) ∙ shift i (g.end - i) w.hand in
      let is = next-lines i o (g.end - i) w.hand (omega arith) in
      record {
        within = within;
        behind = omega arith;
        bytes = bytes ∙ is
            ∙ ap (λ (n : ℕ). take (length_of_first n w.hand - (length_of_first i w.hand + o)) (drop (length_of_first i w.hand + o) (printed_lines w.hand))) end
            ∙ ap (λ (n : ℕ). take (length_of_first g.end w.hand - n) (drop n (printed_lines w.hand))) (sym at);
      }

  pub gathers-some : (g : GatheredBytes) → i < g.end
      → g.bytes ≡ drop o (printed_lines (take (g.end - i) (drop i w.hand))) → 0 < length g.bytes
  gathers-some g behind bytes =
      let least = first-least (g.end - i) (drop i w.hand) (omega arith) in
      let e = ap length bytes ∙ length-drop o (printed_lines (take (g.end - i) (drop i w.hand))) in
      omega arith

-- all that is gathered
pub gathered-length : (w : WriterState) (g : GatheredBytes) → IsGathered w g → length g.bytes ≡ length_of_first g.end w.hand - w.written
gathered-length w g is =
    let many = ap length is.bytes ∙ length-take (length_of_first g.end w.hand - w.written) (bytes_left w) in
    let left = length-drop w.written (printed_lines w.hand) in
    let most = length_of_first-most g.end w.hand in
    omega arith

pub gathered-fits : (w : WriterState) (g : GatheredBytes) (count : ℕ) → IsGathered w g → count ≤ length g.bytes → count ≤ left w
gathered-fits w g count is within =
    let many = gathered-length w g is in
    let most = length_of_first-most g.end w.hand in
    omega arith

pub gathered-next : (w : WriterState) (g : GatheredBytes) (count : ℕ) → IsGathered w g → count ≤ length g.bytes → take count g.bytes ≡ bytes_written count w
gathered-next w g count is within =
    let many = gathered-length w g is in
    ap (take count) is.bytes ∙ take-take count (length_of_first g.end w.hand - w.written) (bytes_left w) (omega arith)

write-some : (count : ℕ) (w : WriterState) → count < left w → writer_after_write count w ≡ record w { written = w.written + count }
write-some count w some = rw (lt-leb (left w) count some) refl

-- after some of it the rest is gathered
pub gathered-stays : (w : WriterState) (g rest : GatheredBytes) (count : ℕ) → IsGathered w g → count < length g.bytes
    → rest.bytes ≡ drop count g.bytes → rest.end ≡ g.end → IsGathered (writer_after_write count w) rest
gathered-stays w g rest count is some bytes end =
    let many = gathered-length w g is in
    let most = length_of_first-most g.end w.hand in
    let n = length_of_first g.end w.hand - w.written in
    let split : n ≡ count + (length_of_first g.end w.hand - (w.written + count)) = omega arith in
    subst (λ (v : WriterState). IsGathered v rest) (sym (write-some count w (omega arith)))
    (subst (λ (e : ℕ). IsGathered (record w { written = w.written + count }) (record { bytes = rest.bytes; end = e; full = rest.full })) (sym end)
    record {
      within = is.within;
      behind = omega arith;
      bytes = bytes ∙ ap (drop count) is.bytes
          ∙ ap (λ (m : ℕ). drop count (take m (bytes_left w))) split
          ∙ drop-take count (length_of_first g.end w.hand - (w.written + count)) (bytes_left w)
          ∙ ap (take (length_of_first g.end w.hand - (w.written + count))) (drop-drop count w.written (printed_lines w.hand));
    })

-- ---- the bytes of the current line

none-line : (i n : ℕ) (ps : List Datapoint) → ps ≡ [] → line_at i ps ≡ line_left_of n ps
none-line zero n ps none = ap first_line none ∙ sym (ap (line_left_of n) none)
none-line (suc i) n ps none = ap (line_at (suc i)) none ∙ sym (ap (line_left_of n) none)

pub current-line : (i o : ℕ) (ps : List Datapoint) → IsWithin i o ps → drop o (line_at i ps) ≡ line_left_of (length_of_first i ps + o) ps
current-line i o ps (inl less) = sym (left-at i o ps less)
current-line i o ps (inr none) = ap (λ (n : ℕ). drop n (line_at i ps)) none.2 ∙ none-line i (length_of_first i ps + o) ps none.0

pub current-within : (i o : ℕ) (ps : List Datapoint) → IsWithin i o ps → o ≤ length (line_at i ps)
current-within i o ps (inl less) = omega arith
current-within i o ps (inr none) = let zero = none.2 in omega arith

-- they are the next of the text
pub current-next : (i o : ℕ) (ps : List Datapoint) (bytes : List ℕ) → IsWithin i o ps → bytes ≡ drop o (line_at i ps)
    → bytes ≡ take (length bytes) (drop (length_of_first i ps + o) (printed_lines ps))
current-next i o ps bytes within is =
    let rest = printed_lines (drop 1 (drop i ps)) in
    let behind : drop (length_of_first i ps + o) (printed_lines ps) ≡ bytes ++ rest =
    position-left i o ps ∙ ap (drop o) (first-text (drop i ps))
    ∙ drop-append-le o (line_at i ps) rest (current-within i o ps within)
    ∙ ap (λ (xs : List ℕ). xs ++ rest) (sym is) in
    sym (ap (take (length bytes)) behind ∙ take-append-le (length bytes) bytes rest (omega arith) ∙ take_all (length bytes) bytes (omega arith))

-- a write of nothing changes nothing
pub done-same : (i o : ℕ) (ps : List Datapoint) (up : Bool) → IsWithin i o ps
    → record { hand = ps; written = length_of_first i ps + o; up = up } ≡ writer_after_write 0 (record { hand = ps; written = length_of_first i ps + o; up = up })
done-same i o ps up (inl less) = let some = position-less i o ps less in grind (arith, common_steps)
done-same i o ps up (inr none) = none-same i o ps up none.0 none.1 none.2
  where
    none-same : (i o : ℕ) (ps : List Datapoint) (up : Bool) → ps ≡ [] → i ≡ 0 → o ≡ 0
        → record { hand = ps; written = length_of_first i ps + o; up = up } ≡ writer_after_write 0 (record { hand = ps; written = length_of_first i ps + o; up = up })
    none-same i o ps up none first start = grind (arith, common_steps)

within-behind : (i o : ℕ) (ps : List Datapoint) → IsWithin i o ps → o ≤ length (printed_lines (drop i ps))
within-behind i o ps (inl less) = let first = length-first i ps in omega arith
within-behind i o ps (inr none) = let zero = none.2 in omega arith

-- fewer bytes behind an index than are asked for from a place in its line
pub few-left : (i o count : ℕ) (ps : List Datapoint) → IsWithin i o ps → length (printed_lines (drop i ps)) < o + count → length (printed_lines ps) - (length_of_first i ps + o) < count
few-left i o count ps within few =
    let cut = length-cut i ps in
    let behind = within-behind i o ps within in
    omega arith
