use Rattle.std.proofs.Common.{◌<◌, length, sym, subst}
use Rattle.dest_queue.specs.Offer.{last_count}
use Rattle.relay_core.specs.WorldModel.{SizedDestination}
use Rattle.relay_core.proofs.Refusals.{only_memory}
use Rattle.relay_core.proofs.destination.Destination.offer.Goals as goal

pub no_memory-requires : goal.no_memory-requires
no_memory-requires c =
    let there = subst (λ (s : SizedDestination). c.args.reader < length s.destination.queue.next) (sym c.self.view_is) c.requires.reader in
    let few = subst (λ (s : SizedDestination). s.destination.queue.offered < last_count) (sym c.self.view_is) c.requires.counted in
    only_memory c.self.inside.queue.queue c.args.reader c.in-Some.number c.offer.result c.in-Err.fault c.in-Err.is
    there c.in-Some.ensures.number few
    c.offer.ensures.no_such_reader.0 (λ expected. (c.offer.ensures.out_of_turn expected).0) c.offer.ensures.exhausted.0
