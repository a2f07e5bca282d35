-- The destinations that another list does not have, one after the other.
use Rattle.std.proofs.Common.{◌≡◌, ℕ, true, false, List, [], ◌∷◌, ◌++◌, append-nil}
use Rattle.std.proofs.lemmas.Grind.{flat_map-append}
use Rattle.std.proofs.lemmas.List.Elements.{filter-append}
use Rattle.conf_text.specs.Destination.{Destination}
use Rattle.config_changes.specs.Kept.{place_of, is_missing}
use Rattle.config_changes.specs.ReloadLine.{listed, dest_words}

pub listed-append : (other : List Destination) (words : List ℕ) (first second : List Destination) → listed other words (first ++ second) ≡ listed other words first ++ listed other words second
listed-append other words first second = simp (filter-append, flat_map-append)

-- one that the list does not have
pub listed-lacked : (other : List Destination) (words : List ℕ) (dest : Destination) → is_missing (place_of dest other) ≡ true → listed other words (dest ∷ []) ≡ dest_words words dest
listed-lacked other words dest lacked = rw lacked (append-nil (dest_words words dest))

-- one that it has
pub listed-there : (other : List Destination) (words : List ℕ) (dest : Destination) → is_missing (place_of dest other) ≡ false → listed other words (dest ∷ []) ≡ []
listed-there other words dest there = rw there
