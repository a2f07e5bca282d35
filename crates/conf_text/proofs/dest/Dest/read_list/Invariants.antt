use Rattle.std.proofs.Common.{◌≡◌, length, drop, eqb}
use Rattle.std.specs.List.{slice_split}
use Rattle.conf_text.specs.Destination.{destinations_of}
use Rattle.conf_text.proofs.Lists.{followed_by, dests_in}
use Rattle.conf_text.proofs.dest.Dest.read_list.Given as goal

abbrev pub invariant-loop-item : goal.invariant-loop-item
invariant-loop-item l = followed_by l.dests.items (dests_in (drop (length l.yielded) (slice_split (λ b. eqb b 44) l.text))) ≡ destinations_of l.text
