-- What the fields of a `DoorBook` mean, and what holds of them.
use Rattle.std.specs.Prelude.{ℕ, ◌≡◌, ◌+◌, ◌*◌, ◌<◌, ◌≤◌, length, map, slice_index}
use Rattle.std.specs.Vec.{vec_capacity}
use Rattle.queue_records.specs.Offers.{OffersMade, most_entries, readers_each}
use Rattle.queue_records.specs.Made.{offer_of}
use Rattle.queue_records.specs.declared.door_book.DoorBook.TheInside.{Inside}

abbrev pub offers_made_of : Inside → OffersMade
offers_made_of b =
    record {
      receiver = b.receiver;
      entries = map offer_of b.made.items;
      totals = b.totals.items;
      drops = b.drops.items;
      next = b.next.items;
    }

pub record IsSoundBook (b : Inside) : Type 0 where
  -- the room for all entries is there from the start
  pub room : most_entries ≤ vec_capacity b.made
  pub few : length b.made.items ≤ most_entries
  pub receiver : b.receiver < 8
  pub dests : length b.totals.items ≤ 64
  pub drops : length b.drops.items ≡ length b.totals.items
  pub next : length b.next.items ≡ readers_each * length b.totals.items
  -- what was dropped was offered
  pub dropped : (dest : ℕ) → slice_index b.drops.items dest ≤ slice_index b.totals.items dest
  -- a reader's offers are among all
  pub numbers : (dest k : ℕ) → k < readers_each
      → slice_index b.next.items (readers_each * dest + k) ≤ slice_index b.totals.items dest
