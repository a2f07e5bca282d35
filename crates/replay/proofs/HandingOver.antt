-- A destination that takes what is queued and writes it in parts that halve.
use Rattle.std.proofs.Common.{◌≡◌, ◌≤◌, ◌<◌, ℕ, zero, suc, ◌+◌, ◌-◌, ◌*◌, ◌^◌, leb, ltb, Bool, true, false, cond, List, [], ◌∷◌, ◌++◌, length, map, take, drop, refl, sym, ap, ap₂, ◌∙◌, arith, lt-ltb, pow-suc, add-zero, length-append}
use Rattle.std.specs.Prelude.{slice_set, slice_index}
use Rattle.std.proofs.lemmas.Bool.{leb-true, leb-false, lt-leb}
use Rattle.std.proofs.lemmas.Nat.{pow_pos}
use Rattle.std.proofs.lemmas.List.{append-nil, append_assoc, take-append-drop, take_all, drop_all, drop-drop, length-drop}
use Rattle.std.proofs.Math.Seq.{take-nil, drop-nil}
use Rattle.line_text.specs.Datapoint.{Datapoint}
use Rattle.line_text.specs.Print.{printed_line, printed_lines}
use Rattle.dest_queue.specs.Queue.{Queue}
use Rattle.relay_core.specs.Destination.{Destination, Act, Offered, Taken, Written, may_act, dest_after}

-- each is half of the one before, and the last is 1
abbrev pub halves : ℕ → List ℕ
halves zero = []
halves (suc k) = 2 ^ k ∷ halves k

-- a destination with one connection, which got these bytes
abbrev pub at_work : Queue → List Datapoint → ℕ → List ℕ → Destination
at_work queue hand written got =
    record { queue = queue; writer = record { hand = hand; written = written; up = true }; connections = got ∷ [] }

-- nothing is queued or in hand, and each datapoint of this many was kept and taken
abbrev pub all_out : ℕ → List ℕ → Queue
all_out count next =
    record { points = []; offered = count; kept = count; dropped = 0; taken = count; next = next; recorded = 2 * count }

abbrev pub idle : ℕ → List ℕ → List ℕ → Destination
idle count next got = at_work (all_out count next) [] 0 got

module _ (size limit : ℕ) where
  -- an act changes the destination if it may happen
  abbrev pub tried : Destination → Act → Destination
  tried dest act = cond (may_act dest act) (dest_after size limit dest act) dest

  -- one act after another; it does not unfold by itself, since each names the destination before it many times
  pub tried_all : Destination → List Act → Destination
  tried_all dest [] = dest
  tried_all dest (act ∷ acts) = tried_all (tried dest act) acts

  pub tried_all-nil : (dest : Destination) → tried_all dest [] ≡ dest
  unfolding tried_all
  tried_all-nil dest = refl

  pub tried_all-cons : (dest : Destination) (act : Act) (acts : List Act) → tried_all dest (act ∷ acts) ≡ tried_all (tried dest act) acts
  unfolding tried_all
  tried_all-cons dest act acts = refl

  -- with an empty hand no byte is left
  nothing_left : (k : ℕ) (queue : Queue) (got : List ℕ) → tried_all (at_work queue [] 0 got) (map Written (halves k)) ≡ at_work queue [] 0 got
  nothing_left zero queue got = tried_all-nil (at_work queue [] 0 got)
  nothing_left (suc k) queue got =
      let none : leb (2 ^ k) 0 ≡ false = lt-leb (2 ^ k) 0 (pow_pos k) in
      tried_all-cons (at_work queue [] 0 got) (Written (2 ^ k)) (map Written (halves k)) ∙ rw none (nothing_left k queue got)

  -- whatever was written, these parts write what is left if that is less than 2^k
  abbrev WritesRest : ℕ → Queue → List Datapoint → Type 0
  WritesRest k queue hand =
      (written : ℕ) (got : List ℕ) → written < length (printed_lines hand) → length (printed_lines hand) - written < 2 ^ k
      → tried_all (at_work queue hand written got) (map Written (halves k)) ≡ at_work queue [] 0 (got ++ drop written (printed_lines hand))

  -- one part, which is too large, is all that is left, or less than that
  next_part : (k : ℕ) (queue : Queue) (hand : List Datapoint) → WritesRest k queue hand
      → (written : ℕ) (got : List ℕ) → written < length (printed_lines hand) → length (printed_lines hand) - written < 2 ^ suc k
      → (fits : Bool) → leb (2 ^ k) (length (printed_lines hand) - written) ≡ fits
      → (ends : Bool) → leb (length (printed_lines hand) - written) (2 ^ k) ≡ ends
      → tried_all (tried (at_work queue hand written got) (Written (2 ^ k))) (map Written (halves k))
      ≡ at_work queue [] 0 (got ++ drop written (printed_lines hand))
  next_part k queue hand later written got some few true fits true ends =
      let rest = drop written (printed_lines hand) in
      let whole : take (2 ^ k) rest ≡ rest = take_all (2 ^ k) rest (rw length-drop (leb-true _ _ ends)) in
      rw (fits, ends, whole) (nothing_left k queue (got ++ rest))
  next_part k queue hand later written got some few true fits false ends =
      let text = printed_lines hand in
      let part = take (2 ^ k) (drop written text) in
      let more : 2 ^ k < length text - written = leb-false _ _ ends in
      let double : 2 ^ suc k ≡ 2 ^ k * 2 = pow-suc 2 k in
      let joined : part ++ drop (written + 2 ^ k) text ≡ drop written text =
      ap (λ (rest : List ℕ). part ++ rest) (sym (drop-drop (2 ^ k) written text)) ∙ take-append-drop (2 ^ k) (drop written text) in
      rw (fits, ends)
      (later (written + 2 ^ k) (got ++ part) (omega (arith, more)) (omega (arith, few, more, double))
      ∙ ap (at_work queue [] 0) (append_assoc got part (drop (written + 2 ^ k) text) ∙ ap (λ (rest : List ℕ). got ++ rest) joined))
  next_part k queue hand later written got some few false fits ends e =
      rw fits (later written got some (leb-false _ _ fits))

  -- parts from 2^(k-1) down to 1 write whatever is shorter than 2^k
  writes : (k : ℕ) (queue : Queue) (hand : List Datapoint) → WritesRest k queue hand
  writes zero queue hand written got some few = absurd (omega arith)
  writes (suc k) queue hand written got some few =
      tried_all-cons (at_work queue hand written got) (Written (2 ^ k)) (map Written (halves k))
      ∙ next_part k queue hand (writes k queue hand) written got some few
      (leb (2 ^ k) (length (printed_lines hand) - written)) refl (leb (length (printed_lines hand) - written) (2 ^ k)) refl

  module _ (k : ℕ) where
    -- it takes a batch, and writes it in parts
    abbrev pub handing : List Act
    handing = Taken ∷ map Written (halves k)

    -- where nothing is queued, nothing changes
    pub hands_nothing : (count : ℕ) (next got : List ℕ) → tried_all (idle count next got) handing ≡ idle count next got
    hands_nothing count next got =
        tried_all-cons (idle count next got) Taken (map Written (halves k))
        ∙ rw (take-nil limit, drop-nil limit, add-zero count) (nothing_left k (all_out count next) got)

    -- a datapoint that was offered is written whole
    pub hands_one : (count r : ℕ) (next got : List ℕ) (point : Datapoint) → 1 ≤ size → 1 ≤ limit → length (printed_line point) < 2 ^ k
        → (after : List ℕ) × (tried_all (dest_after size limit (idle count next got) (Offered r point)) handing ≡ idle (count + 1) after (got ++ printed_line point))
    hands_one count r next got point room some short =
        let one = point ∷ [] in
        let after = slice_set next r (slice_index next r + 1) in
        let queue : Queue =
        record { points = []; offered = count + 1; kept = count + 1; dropped = 0; taken = count + 1; next = after; recorded = 2 * count + 1 + 1 } in
        let line = printed_line point in
        let counted : 2 * count + 1 + 1 ≡ 2 * (count + 1) = omega arith in
        let newline_ends : 0 < length (line ++ []) = rw (append-nil, length-append) (omega arith) in
        let fits : length (line ++ []) - 0 < 2 ^ k = rw append-nil (omega (arith, short)) in
        let roomy : ltb 0 size ≡ true = lt-ltb 0 size room in
        let all : take limit one ≡ one = take_all limit one some in
        let none : drop limit one ≡ [] = drop_all limit one some in (
          after,
          tried_all-cons (dest_after size limit (idle count next got) (Offered r point)) Taken (map Written (halves k))
              ∙ rw (roomy, all, none)
              (writes k queue one 0 got newline_ends fits
              ∙ ap₂ (λ (n : ℕ) (bytes : List ℕ). at_work (record queue { recorded = n }) [] 0 (got ++ bytes)) counted (append-nil line)),
        )
