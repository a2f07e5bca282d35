-- What bytes begin with, and what a connection is after more bytes.
use Rattle.std.proofs.Common.{◌≡◌, ℕ, suc, ◌+◌, ◌-◌, ◌<◌, ◌≤◌, ◌⊎◌, inl, inr, Bool, true, false, cond, List, [], ◌∷◌, ◌++◌, length, get_or, take, drop, refl, sym, subst, ap, ◌∙◌, append_assoc, arith}
use Rattle.std.proofs.lemmas.Bool.{cases_lt, lt-ltb, le-ltb}
use Rattle.std.proofs.lemmas.List.{append-nil, length-append, length-take, map-append, take-append-drop, get_or-append_right}
use Rattle.std.proofs.Math.Seq.{take-suc, drop-cons}
use Rattle.std.specs.Prelude.{slice_index, zero}
use Rattle.byteorder.specs.Numbers.{big_from-append, big_from-take}
use Rattle.line_text.specs.Connection.{Arrival, arrivals}
use Rattle.pickle_subset.specs.Frame.{Frame, length_of, Front, Partial, TooLong, Whole, front, Reception, nothing, reception_with, with_byte, receive, reception}

-- ---- what bytes begin with

chosen : (b : Bool) (x y z : Front) → cond b x y ≡ z → ((b ≡ true) × (x ≡ z)) ⊎ ((b ≡ false) × (y ≡ z))
chosen true x y z is = inl (refl, is)
chosen false x y z is = inr (refl, is)

pub front-short : (xs : List ℕ) → length xs < 4 → front xs ≡ Partial
front-short xs short = rw (lt-ltb (length xs) 4 short) refl

pub front-partial : (xs : List ℕ) → 4 ≤ length xs → length_of xs ≤ 1048576 → length xs < 4 + length_of xs → front xs ≡ Partial
front-partial xs long fits short = rw (le-ltb (length xs) 4 long, le-ltb 1048576 (length_of xs) fits, lt-ltb (length xs) (4 + length_of xs) short) refl

pub front-whole : (xs : List ℕ) → 4 ≤ length xs → length_of xs ≤ 1048576 → 4 + length_of xs ≤ length xs → front xs ≡ Whole
front-whole xs long fits whole = rw (le-ltb (length xs) 4 long, le-ltb 1048576 (length_of xs) fits, le-ltb (length xs) (4 + length_of xs) whole) refl

front-too_long : (xs : List ℕ) → 4 ≤ length xs → 1048576 < length_of xs → front xs ≡ TooLong
front-too_long xs long over = rw (le-ltb (length xs) 4 long, lt-ltb 1048576 (length_of xs) over) refl

pub record IsTooLong (xs : List ℕ) : Type 0 where
  pub long : 4 ≤ length xs
  pub over : 1048576 < length_of xs

pub record IsWhole (xs : List ℕ) : Type 0 where
  pub long : 4 ≤ length xs
  pub fits : length_of xs ≤ 1048576
  pub whole : 4 + length_of xs ≤ length xs

-- what is known of bytes with this front
abbrev HasFront : List ℕ → Front → Type 0
HasFront xs Partial = Unit {0}
HasFront xs TooLong = IsTooLong xs
HasFront xs Whole = IsWhole xs

front-known : (xs : List ℕ) → HasFront xs (front xs)
front-known xs =
    elim (cases_lt (length xs) 4) [
      | inl short ↦ subst (HasFront xs) (sym (front-short xs short)) tt
      | inr long ↦
          elim (cases_lt 1048576 (length_of xs)) [
            | inl over ↦ subst (HasFront xs) (sym (front-too_long xs long over)) (record { long = long; over = over })
            | inr fits ↦
                elim (cases_lt (length xs) (4 + length_of xs)) [
                  | inl less ↦ subst (HasFront xs) (sym (front-partial xs long fits less)) tt
                  | inr whole ↦ subst (HasFront xs) (sym (front-whole xs long fits whole)) (record { long = long; fits = fits; whole = whole })
                ]
          ]
    ]

pub too_long_is : (xs : List ℕ) → front xs ≡ TooLong → IsTooLong xs
too_long_is xs is = subst (HasFront xs) is (front-known xs)

pub whole_is : (xs : List ℕ) → front xs ≡ Whole → IsWhole xs
whole_is xs is = subst (HasFront xs) is (front-known xs)

-- the front of less than a frame is less than a frame
pub front-prefix : (xs ys : List ℕ) → front (xs ++ ys) ≡ Partial → front xs ≡ Partial
front-prefix xs ys is = of_front (front xs) refl
  where
    apart_long : TooLong ≡ Partial → ⊥
    apart_long e = cc

    apart : Whole ≡ Partial → ⊥
    apart e = cc

    of_front : (f : Front) → front xs ≡ f → front xs ≡ Partial
    of_front Partial known = known
    of_front TooLong known =
        let t = too_long_is xs known in
        let same : length_of (xs ++ ys) ≡ length_of xs = big_from-append 4 xs ys t.long in
        absurd (apart_long (sym (front-too_long (xs ++ ys) (omega (arith, t.long, length-append xs ys)) (omega (arith, same, t.over))) ∙ is))
    of_front Whole known =
        let w = whole_is xs known in
        let same : length_of (xs ++ ys) ≡ length_of xs = big_from-append 4 xs ys w.long in
        absurd (apart (sym (front-whole (xs ++ ys) (omega (arith, w.long, length-append xs ys)) (omega (arith, same, w.fits)) (omega (arith, same, w.whole, length-append xs ys))) ∙ is))

-- ---- bytes that were kept, and then those of a piece

pub byte_left : (kept piece : List ℕ) (at : ℕ) → at < length kept → slice_index kept at ≡ slice_index (kept ++ piece) at
byte_left [] piece at inside = absurd (omega arith)
byte_left (b ∷ kept) piece zero inside = refl
byte_left (b ∷ kept) piece (suc at) inside = byte_left kept piece at (omega arith)

pub byte_right : (kept piece : List ℕ) (at : ℕ) → length kept ≤ at → slice_index piece (at - length kept) ≡ slice_index (kept ++ piece) at
byte_right kept piece at past = sym (get_or-append_right kept piece (length kept) at 0 refl past)

pub ruleset bytes_of_two = (byte_left, byte_right)

-- a frame that ends in a piece has not ended before
pub kept_within : (kept piece : List ℕ) → front kept ≡ Partial → front (kept ++ piece) ≡ Whole → length kept ≤ 4 + length_of (kept ++ piece)
kept_within kept piece waits is = of_kept (cases_lt (length kept) 4)
  where
    apart : Whole ≡ Partial → ⊥
    apart e = cc

    of_size : (length kept < 4 + length_of kept) ⊎ (4 + length_of kept ≤ length kept) → 4 ≤ length kept → length_of (kept ++ piece) ≡ length_of kept → length kept ≤ 4 + length_of (kept ++ piece)
    of_size (inl less) many same = omega (arith, same)
    of_size (inr whole) many same =
        let w = whole_is (kept ++ piece) is in
        absurd (apart (sym (front-whole kept many (omega (arith, w.fits, same)) whole) ∙ waits))

    of_kept : (length kept < 4) ⊎ (4 ≤ length kept) → length kept ≤ 4 + length_of (kept ++ piece)
    of_kept (inl few) = omega arith
    of_kept (inr many) = of_size (cases_lt (length kept) (4 + length_of kept)) many (big_from-append 4 kept piece many)

-- ---- more bytes

pub receive-append : (r : Reception) (c d : List Arrival) → receive r (c ++ d) ≡ receive (receive r c) d
receive-append r [] d = refl
receive-append r (a ∷ c) d = receive-append (with_byte a r) c d

pub arrivals-append : (xs ys : List ℕ) (moment : ℕ) → arrivals (xs ++ ys) moment ≡ arrivals xs moment ++ arrivals ys moment
arrivals-append xs ys moment = map-append (λ b. record { byte = b; moment = moment }) xs ys

-- a reader reads nothing of a closed connection
pub receive-closed : (r : Reception) (c : List Arrival) → r.closed ≡ true → receive r c ≡ r
receive-closed r [] closed = refl
receive-closed r (a ∷ c) closed =
    let same : with_byte a r ≡ r = ap (λ (b : Bool). cond b r (reception_with (front (r.partial ++ a.byte ∷ [])) r.frames (r.partial ++ a.byte ∷ []) a.moment)) closed in
    ap (λ (s : Reception). receive s c) same ∙ receive-closed r c closed

-- the earlier frames, in front
abbrev pub with_frames : List Frame → Reception → Reception
with_frames fs r = record r { frames = fs ++ r.frames }

reception_with-prefixed : (f : Front) (fs gs : List Frame) (bytes : List ℕ) (moment : ℕ) → reception_with f (fs ++ gs) bytes moment ≡ with_frames fs (reception_with f gs bytes moment)
reception_with-prefixed Partial fs gs bytes moment = refl
reception_with-prefixed TooLong fs gs bytes moment = refl
reception_with-prefixed Whole fs gs bytes moment =
    ap (λ (hs : List Frame). record { frames = hs; partial = []; closed = false }) (append_assoc fs gs ((record { pickle = drop 4 bytes; moment = moment }) ∷ []))

with_byte-prefixed : (a : Arrival) (fs gs : List Frame) (bytes : List ℕ) (closed : Bool) → with_byte a (record { frames = fs ++ gs; partial = bytes; closed = closed }) ≡ with_frames fs (with_byte a (record { frames = gs; partial = bytes; closed = closed }))
with_byte-prefixed a fs gs bytes true = refl
with_byte-prefixed a fs gs bytes false = reception_with-prefixed (front (bytes ++ a.byte ∷ [])) fs gs (bytes ++ a.byte ∷ []) a.moment

pub receive-prefixed : (fs : List Frame) (r : Reception) (c : List Arrival) → receive (with_frames fs r) c ≡ with_frames fs (receive r c)
receive-prefixed fs r [] = refl
receive-prefixed fs r (a ∷ c) =
    ap (λ (s : Reception). receive s c) (with_byte-prefixed a fs r.frames r.partial r.closed) ∙ receive-prefixed fs (with_byte a r) c

-- ---- less than a frame

abbrev pub open_with : List Frame → List ℕ → Reception
open_with fs partial = record { frames = fs; partial = partial; closed = false }

pub quiet : (fs : List Frame) (xs ys : List ℕ) (moment : ℕ) → front (xs ++ ys) ≡ Partial → receive (open_with fs xs) (arrivals ys moment) ≡ open_with fs (xs ++ ys)
quiet fs xs [] moment is = ap (open_with fs) (sym (append-nil xs))
quiet fs xs (y ∷ ys) moment is =
    let regroup : (xs ++ y ∷ []) ++ ys ≡ xs ++ y ∷ ys = append_assoc xs (y ∷ []) ys in
    let still : front ((xs ++ y ∷ []) ++ ys) ≡ Partial = ap front regroup ∙ is in
    ap (λ (f : Front). receive (reception_with f fs (xs ++ y ∷ []) moment) (arrivals ys moment)) (front-prefix (xs ++ y ∷ []) ys still)
    ∙ quiet fs (xs ++ y ∷ []) ys moment still
    ∙ ap (open_with fs) regroup

-- so earlier bytes may be joined with those of the piece
pub continued : (partial piece : List ℕ) (moment : ℕ) → front partial ≡ Partial → receive (open_with [] partial) (arrivals piece moment) ≡ reception (arrivals (partial ++ piece) moment)
continued partial piece moment is =
    sym (
    ap reception (arrivals-append partial piece moment)
    ∙ receive-append nothing (arrivals partial moment) (arrivals piece moment)
    ∙ ap (λ (r : Reception). receive r (arrivals piece moment)) (quiet [] [] partial moment is)
    )

-- what an open connection has since its last frame is less than a frame
IsWaiting : Reception → Type 0
IsWaiting r = r.closed ≡ false → front r.partial ≡ Partial

reception_with-waits : (f : Front) (fs : List Frame) (bytes : List ℕ) (moment : ℕ) → front bytes ≡ f → IsWaiting (reception_with f fs bytes moment)
unfolding IsWaiting
reception_with-waits Partial fs bytes moment is = λ goes. is
reception_with-waits TooLong fs bytes moment is = λ goes. absurd cc
reception_with-waits Whole fs bytes moment is = λ goes. refl

with_byte-waits : (a : Arrival) (fs : List Frame) (bytes : List ℕ) (closed : Bool) → IsWaiting (with_byte a (record { frames = fs; partial = bytes; closed = closed }))
unfolding IsWaiting
with_byte-waits a fs bytes true = λ goes. absurd cc
with_byte-waits a fs bytes false = reception_with-waits (front (bytes ++ a.byte ∷ [])) fs (bytes ++ a.byte ∷ []) a.moment refl

receive-waits : (r : Reception) (c : List Arrival) → IsWaiting r → IsWaiting (receive r c)
receive-waits r [] waits = waits
receive-waits r (a ∷ c) waits = receive-waits (with_byte a r) c (with_byte-waits a r.frames r.partial r.closed)

pub reception-waits : (c : List Arrival) → (reception c).closed ≡ false → front (reception c).partial ≡ Partial
unfolding IsWaiting
reception-waits c goes = receive-waits nothing c (λ _. refl) goes

-- ---- up to the byte that ends a frame, or a length that is too long

reaches : (xs : List ℕ) (k moment : ℕ) → k < length xs → front (take k xs) ≡ Partial
    → reception (arrivals xs moment) ≡ receive (reception_with (front (take (suc k) xs)) [] (take (suc k) xs) moment) (arrivals (drop (suc k) xs) moment)
reaches xs k moment inside waits =
    let b = get_or xs k 0 in
    let split : xs ≡ take k xs ++ (b ∷ drop (suc k) xs) = sym (take-append-drop k xs) ∙ ap (λ (ys : List ℕ). take k xs ++ ys) (drop-cons xs k 0 inside) in
    let took : take (suc k) xs ≡ take k xs ++ b ∷ [] = take-suc xs k 0 inside in
    ap (λ (ys : List ℕ). reception (arrivals ys moment)) split
    ∙ ap reception (arrivals-append (take k xs) (b ∷ drop (suc k) xs) moment)
    ∙ receive-append nothing (arrivals (take k xs) moment) (arrivals (b ∷ drop (suc k) xs) moment)
    ∙ ap (λ (r : Reception). receive r (arrivals (b ∷ drop (suc k) xs) moment)) (quiet [] [] (take k xs) moment waits)
    ∙ ap (λ (ys : List ℕ). receive (reception_with (front ys) [] ys moment) (arrivals (drop (suc k) xs) moment)) (sym took)

pub record IsClosedEmpty (r : Reception) : Type 0 where
  pub frames : r.frames ≡ []
  pub closed : r.closed ≡ true

pub reception-too_long : (xs : List ℕ) (moment : ℕ) → front xs ≡ TooLong → IsClosedEmpty (reception (arrivals xs moment))
reception-too_long xs moment is =
    let t = too_long_is xs is in
    let waits : front (take 3 xs) ≡ Partial = front-short (take 3 xs) (omega (arith, length-take 3 xs)) in
    let first : front (take 4 xs) ≡ TooLong = front-too_long (take 4 xs) (omega (arith, length-take 4 xs, t.long)) (omega (arith, big_from-take 0 4 4 xs (omega arith), t.over)) in
    let all : reception (arrivals xs moment) ≡ record { frames = []; partial = take 4 xs; closed = true } =
    reaches xs 3 moment (omega (arith, t.long)) waits
    ∙ ap (λ (f : Front). receive (reception_with f [] (take 4 xs) moment) (arrivals (drop 4 xs) moment)) first
    ∙ receive-closed (record { frames = []; partial = take 4 xs; closed = true }) (arrivals (drop 4 xs) moment) refl in
    record { frames = ap (λ (r : Reception). r.frames) all; closed = ap (λ (r : Reception). r.closed) all }

-- ---- a whole frame

abbrev pub frame : List ℕ → ℕ → Frame
frame bytes moment = record { pickle = drop 4 bytes; moment = moment }

whole_of : (xs : List ℕ) (n moment : ℕ) → length_of xs ≡ n → n ≤ 1048576 → 4 + n ≤ length xs
    → reception (arrivals xs moment) ≡ with_frames (frame (take (4 + n) xs) moment ∷ []) (reception (arrivals (drop (4 + n) xs) moment))
whole_of xs n moment is fits whole =
    let one_more : suc (3 + n) ≡ 4 + n = omega arith in
    let first : front (take (suc (3 + n)) xs) ≡ Whole =
    front-whole (take (suc (3 + n)) xs) (omega (arith, length-take (suc (3 + n)) xs)) (omega (arith, big_from-take 0 4 (suc (3 + n)) xs (omega arith), is)) (omega (arith, big_from-take 0 4 (suc (3 + n)) xs (omega arith), is, length-take (suc (3 + n)) xs)) in
    let reached = reaches xs (3 + n) moment (omega arith) (waits (cases_lt (3 + n) 4)) in
    reached
    ∙ ap (λ (f : Front). receive (reception_with f [] (take (suc (3 + n)) xs) moment) (arrivals (drop (suc (3 + n)) xs) moment)) first
    ∙ receive-prefixed (frame (take (suc (3 + n)) xs) moment ∷ []) nothing (arrivals (drop (suc (3 + n)) xs) moment)
    ∙ ap (λ (k : ℕ). with_frames (frame (take k xs) moment ∷ []) (reception (arrivals (drop k xs) moment))) one_more
  where
    waits : (3 + n < 4) ⊎ (4 ≤ 3 + n) → front (take (3 + n) xs) ≡ Partial
    waits (inl few) = front-short (take (3 + n) xs) (omega (arith, length-take (3 + n) xs))
    waits (inr many) =
        let same = big_from-take 0 4 (3 + n) xs (omega arith) in
        front-partial (take (3 + n) xs) (omega (arith, length-take (3 + n) xs)) (omega (arith, same, is)) (omega (arith, same, is, length-take (3 + n) xs))

pub reception-whole : (xs : List ℕ) (moment : ℕ) → front xs ≡ Whole
    → reception (arrivals xs moment) ≡ with_frames (frame (take (4 + length_of xs) xs) moment ∷ []) (reception (arrivals (drop (4 + length_of xs) xs) moment))
reception-whole xs moment is = let w = whole_is xs is in whole_of xs (length_of xs) moment refl w.fits w.whole
