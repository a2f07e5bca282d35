use Rattle.std.proofs.Common.{◌≡◌, sym, ap, ◌∙◌, arith}
use Rattle.std.proofs.lemmas.Bool.Decides.{nat_tests}
use Rattle.std.specs.Prelude.{slice_index}
use Rattle.locked_queues.specs.Shares.{at_place}
use Rattle.locked_queues.proofs.SharedSums.{splits_place, keeps_last, index_at_place}
use Rattle.locked_queues.proofs.opening.next_total.Goals as goal

pub split_seat-seat-requires : goal.split_seat-seat-requires
split_seat-seat-requires g c =
    (c.requires.first.0 ∙ sym c.requires.table.0, omega (arith, c.requires.table.1), λ s h e. splits_place s.views _ c.args.place _ c.requires.first.1 h e)

pub of-requires-clause-keeps : goal.of-requires-clause-keeps
of-requires-clause-keeps g c =
    let last : c.split_seat-seat.result.me.0.keeps ≡ at_place c.args.place 1 = ap (λ m. m.0.keeps) c.split_seat-seat.ensures.4 ∙ ap (λ v. v.keeps) (keeps_last c.args.place _ c.requires.first.1) in
    let at = index_at_place c.args.place 1 c.args.place in
    ap (λ xs. slice_index xs c.args.place) last ∙ (grind (arith, nat_tests))
