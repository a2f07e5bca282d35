-- A door's record takes one offer more.
use Rattle.std.proofs.Common.{◌≡◌, ◌<◌, ◌≤◌, ◌+◌, ◌-◌, ◌*◌, ◌++◌, ◌∷◌, [], ◌∙◌, ℕ, zero, suc, List, map, length, replicate, get_or, slice_index, subst, refl, sym, ap, arith}
use Rattle.std.proofs.lemmas.Grind.{common_steps}
use Rattle.std.proofs.lemmas.List.{length-replicate, map-append}
use Rattle.std.specs.Vec.{vec_capacity}
use Rattle.std.specs.declared.vec.Vec.{Vec}
use Rattle.std.specs.declared.alloc.Global.{Global}
use Rattle.dest_queue.specs.declared.offer.OfferFault.{OfferFault}
use Rattle.dest_queue.specs.Offer.{last_count}
use Rattle.dest_queue.specs.declared.offer.Kept.{Kept}
use Rattle.dest_queue.specs.declared.offer.Kept.TheVariants.{Queued, Dropped}
use Rattle.line_text.specs.Datapoint.{Datapoint}
use Rattle.queue_records.specs.Offers.{OfferMade, OffersMade, IsReaderOf, dropped_by, number_place, next_number, counted_offer, after_offer, most_entries, readers_each}
use Rattle.queue_records.specs.Made.{offer_of}
use Rattle.queue_records.specs.DoorBook.{offers_made_of, IsSoundBook}
use Rattle.queue_records.specs.declared.made.Made.{Made}
use Rattle.queue_records.specs.declared.door_book.DoorBook.TheInside.{Inside}

-- the place of a reader's number is within the list
pub place-within : (b : Inside) (m : OffersMade) (reader dest : ℕ) → offers_made_of b ≡ m → IsSoundBook b → readers_each * b.receiver ≤ reader → reader < readers_each * b.receiver + readers_each → dest < length m.totals
    → number_place b.receiver reader dest < length b.next.items
place-within b m reader dest view sound above below lt =
    let within : dest < length b.totals.items = subst (λ (now : OffersMade). dest < length now.totals) (sym view) lt in
    let count = sound.next in
    omega (arith, count, above, below, within)

-- a number that was read is the same whatever stands for one past the end
number-read : (xs : List ℕ) (i n : ℕ) → i < length xs → n ≡ get_or xs i n → n ≡ get_or xs i 0
number-read xs i n lt is = grind (arith, common_steps)

-- a reader's next number was read
pub next-read : (b : Inside) (m : OffersMade) (reader dest n : ℕ) → offers_made_of b ≡ m → number_place b.receiver reader dest < length b.next.items → n ≡ get_or b.next.items (number_place b.receiver reader dest) n
    → n ≡ next_number reader dest m
next-read b m reader dest n view within is =
    number-read b.next.items (number_place b.receiver reader dest) n within is ∙ ap (λ (now : OffersMade). next_number reader dest now) view

-- a reader is the receiver's if its number is within the receiver's
pub readers-now : (b : Inside) (m : OffersMade) (reader : ℕ) → offers_made_of b ≡ m → readers_each * b.receiver ≤ reader → reader < readers_each * b.receiver + readers_each → IsReaderOf m.receiver reader
readers-now b m reader view above below = subst (λ (now : OffersMade). IsReaderOf now.receiver reader) view (record { above = above; below = below })

-- a destination's total was read
pub total-read : (b : Inside) (m : OffersMade) (dest n : ℕ) → offers_made_of b ≡ m → dest < length m.totals → n ≡ get_or b.totals.items dest n → n ≡ slice_index m.totals dest
total-read b m dest n view within is =
    number-read b.totals.items dest n (subst (λ (now : OffersMade). dest < length now.totals) (sym view) within) is ∙ ap (λ (now : OffersMade). slice_index now.totals dest) view

-- a total has room for one more, and so have the drops and each reader's number behind it
pub total-fits : (b : Inside) (m : OffersMade) (dest n : ℕ) → offers_made_of b ≡ m → dest < length m.totals → slice_index m.totals dest < last_count → n ≡ get_or b.totals.items dest n → n < last_count
total-fits b m dest n view within few is = let read = total-read b m dest n view within is in omega (arith, read, few)

dropped_one : (kept : Kept) → dropped_by kept ≤ 1
dropped_one Queued = omega arith
dropped_one Dropped = omega arith

pub drops-fit : (b : Inside) (m : OffersMade) (dest n more : ℕ) (kept : Kept) → offers_made_of b ≡ m → IsSoundBook b → dest < length m.totals → slice_index m.totals dest < last_count → n ≡ get_or b.drops.items dest n → more ≡ dropped_by kept
    → n + more ≤ last_count
drops-fit b m dest n more kept view sound within few is dropped =
    let same = sound.drops in
    let here : dest < length b.totals.items = subst (λ (now : OffersMade). dest < length now.totals) (sym view) within in
    let there : dest < length b.drops.items = omega (arith, same, here) in
    let read = number-read b.drops.items dest n there is in
    let below = sound.dropped dest in
    let total : slice_index b.totals.items dest < last_count = subst (λ (now : OffersMade). slice_index now.totals dest < last_count) (sym view) few in
    let one = dropped_one kept in
    omega (arith, read, below, total, one, dropped)

pub number-fits : (b : Inside) (m : OffersMade) (reader dest n : ℕ) → offers_made_of b ≡ m → IsSoundBook b → IsReaderOf m.receiver reader → dest < length m.totals → slice_index m.totals dest < last_count → n ≡ get_or b.next.items (number_place b.receiver reader dest) n
    → n < last_count
number-fits b m reader dest n view sound readers within few is =
    let own : IsReaderOf b.receiver reader = subst (λ (now : OffersMade). IsReaderOf now.receiver reader) (sym view) readers in
    let above = own.above in
    let below = own.below in
    let read = number-read b.next.items (number_place b.receiver reader dest) n (place-within b m reader dest view sound above below within) is in
    let place : reader - readers_each * b.receiver < readers_each = omega (arith, above, below) in
    let at_most = sound.numbers dest (reader - readers_each * b.receiver) place in
    let total : slice_index b.totals.items dest < last_count = subst (λ (now : OffersMade). slice_index now.totals dest < last_count) (sym view) few in
    omega (arith, read, at_most, total)

-- a datapoint more is an entry more
pub with-made : (b : Inside) (made : Vec Made Global) (x : Made) (m n : OffersMade) → offers_made_of b ≡ m → n ≡ offers_made_of (record b { made = made }) → made.items ≡ b.made.items ++ x ∷ [] → n ≡ record m { entries = m.entries ++ offer_of x ∷ [] }
with-made b made x m n view is items =
    is
    ∙ ap (λ (es : List OfferMade). record (offers_made_of b) { entries = es }) (ap (map offer_of) items ∙ map-append offer_of b.made.items (x ∷ []))
    ∙ ap (λ (now : OffersMade). record now { entries = now.entries ++ offer_of x ∷ [] }) view

-- the entry is there, and the offer is counted
pub entered : (reader dest number : ℕ) (seen point : Datapoint) (kept : Kept) (m n : OffersMade) → number ≡ next_number reader dest m → seen ≡ point → length m.entries < most_entries
    → n ≡ record m { entries = m.entries ++ record { reader = reader; dest = dest; number = number; point = seen; kept = kept } ∷ [] }
    → counted_offer reader dest kept n ≡ after_offer reader dest point kept m
entered reader dest number seen point kept m n next same few is = ap (counted_offer reader dest kept) is ∙ grind (arith, common_steps)

-- there was no room for the entry, and the offer is counted
pub left-out : (reader dest : ℕ) (point : Datapoint) (kept : Kept) (m n : OffersMade) → most_entries ≤ length m.entries → n ≡ m → counted_offer reader dest kept n ≡ after_offer reader dest point kept m
left-out reader dest point kept m n many is = ap (counted_offer reader dest kept) is ∙ grind (arith, common_steps)

-- one entry more, and the rest as before
pub sound-entered : (b : Inside) (made : Vec Made Global) → vec_capacity made ≡ vec_capacity b.made → length made.items ≤ most_entries → IsSoundBook b → IsSoundBook (record b { made = made })
sound-entered b made capacity few sound =
    record {
      room = subst (λ (n : ℕ). most_entries ≤ n) (sym capacity) sound.room;
      few = few;
      receiver = sound.receiver;
      dests = sound.dests;
      drops = sound.drops;
      next = sound.next;
      dropped = sound.dropped;
      numbers = sound.numbers;
    }

-- ---- an empty record

pub zeros-at : (count i : ℕ) → slice_index (replicate count 0) i ≡ 0
zeros-at zero i = refl
zeros-at (suc count) zero = refl
zeros-at (suc count) (suc i) = zeros-at count i

pub sound-fresh : (b : Inside) (dests : ℕ) → most_entries ≤ vec_capacity b.made → b.made.items ≡ [] → b.receiver < 8 → dests ≤ 64
    → b.totals.items ≡ replicate dests 0 → b.drops.items ≡ replicate dests 0 → b.next.items ≡ replicate (readers_each * dests) 0 → IsSoundBook b
sound-fresh b dests room none receiver low totals drops next =
    let count : length b.totals.items ≡ dests = ap length totals ∙ length-replicate dests 0 in
    let entries = ap length none in
    record {
      room = room;
      few = omega (arith, entries);
      receiver = receiver;
      dests = omega (arith, count, low);
      drops = ap length drops ∙ length-replicate dests 0 ∙ sym count;
      next = ap length next ∙ length-replicate (readers_each * dests) 0 ∙ ap (λ (n : ℕ). readers_each * n) (sym count);
      dropped = λ dest. (let zero_here = ap (λ (xs : List ℕ). slice_index xs dest) drops ∙ zeros-at dests dest in omega (arith, zero_here));
      numbers = λ dest k lt. (let zero_here = ap (λ (xs : List ℕ). slice_index xs (readers_each * dest + k)) next ∙ zeros-at (readers_each * dests) (readers_each * dest + k) in omega (arith, zero_here));
    }

-- ---- faults that differ

pub memory-reader : OfferFault.NoMemory ≡ OfferFault.NoSuchReader → ⊥
memory-reader e = grind (arith, common_steps)

pub memory-turn : (n : ℕ) → OfferFault.NoMemory ≡ OfferFault.OutOfTurn n → ⊥
memory-turn n e = grind (arith, common_steps)

pub memory-exhausted : OfferFault.NoMemory ≡ OfferFault.Exhausted → ⊥
memory-exhausted e = grind (arith, common_steps)
