-- What a queue kept was handed over, or is still queued.
use Rattle.std.proofs.Common.{◌≡◌, ℕ, Bool, true, false, List, [], ◌∷◌, ◌++◌, refl}
use Rattle.std.proofs.lemmas.List.{append-nil, append_assoc, take-append-drop}
use Rattle.std.proofs.lemmas.List.Elements.{filter_map-append}
use Rattle.std.proofs.lemmas.List.Concat.{flat_map-append}
use Rattle.dest_queue.specs.Queue.{has_room}
use Rattle.reader_core.specs.Reading.{Reading}
use Rattle.relay_core.specs.Destination.{Destination, Act, Offered, Taken, Connected, Written, Lost, may_act, dest_after}
use Rattle.relay_core.specs.Run.{Run, Deed, point_kept, points_kept, batch_handed, points_handed_over}
use Rattle.relay_core.specs.Laws.{HandsOverKept}
use Rattle.relay_core.proofs.Destinations.{at_each}

-- with one deed more
pub points_kept-more : (size : ℕ) (deeds : List Deed) (deed : Deed) → points_kept size (deeds ++ deed ∷ []) ≡ points_kept size deeds ++ points_kept size (deed ∷ [])
points_kept-more size deeds deed = filter_map-append (λ deed. point_kept size deed.before deed.act) deeds (deed ∷ [])

points_handed_over-more : (limit : ℕ) (deeds : List Deed) (deed : Deed) → points_handed_over limit (deeds ++ deed ∷ []) ≡ points_handed_over limit deeds ++ points_handed_over limit (deed ∷ [])
points_handed_over-more limit deeds deed = flat_map-append (λ deed. batch_handed limit deed.before deed.act) deeds (deed ∷ [])

module _ (size limit : ℕ) where
  abbrev IsKept : Destination → List Deed → Type 0
  IsKept dest deeds = points_kept size deeds ≡ points_handed_over limit deeds ++ dest.queue.points

  keeps_on : (dest : Destination) (deeds : List Deed) (d : ℕ) (act : Act) → may_act dest act ≡ true → IsKept dest deeds
      → IsKept (dest_after size limit dest act) (deeds ++ record { dest = d; act = act; before = dest } ∷ [])
  keeps_on dest deeds d (Offered r point) may e = by_case (has_room size dest.queue) refl
    where
      by_case : (b : Bool) → has_room size dest.queue ≡ b
          → IsKept (dest_after size limit dest (Offered r point)) (deeds ++ record { dest = d; act = Offered r point; before = dest } ∷ [])
      by_case true h = rw (points_kept-more, points_handed_over-more, e, h) (simp (append-nil, append_assoc))
      by_case false h = rw (points_kept-more, points_handed_over-more, e, h) (simp append-nil)
  keeps_on dest deeds d Taken may e =
      rw (points_kept-more, points_handed_over-more, e) (simp (append-nil, append_assoc, take-append-drop))
  keeps_on dest deeds d Connected may e = rw (points_kept-more, points_handed_over-more, e) (simp append-nil)
  keeps_on dest deeds d (Written count) may e = rw (points_kept-more, points_handed_over-more, e) (simp append-nil)
  keeps_on dest deeds d Lost may e = rw (points_kept-more, points_handed_over-more, e) (simp append-nil)

pub hands_over_kept : (reading : Reading) (run : Run) → HandsOverKept reading run
hands_over_kept reading run =
    at_each reading run (IsKept run.configuration.size run.configuration.limit)
    (keeps_on run.configuration.size run.configuration.limit) refl
