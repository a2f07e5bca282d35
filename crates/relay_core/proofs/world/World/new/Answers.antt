use Rattle.std.proofs.Common.{ℕ, List, length, replicate, sym, ap, subst, ◌∙◌}
use Rattle.std.specs.List.{All}
use Rattle.relay_core.specs.Destination.{fresh_destination}
use Rattle.relay_core.specs.WorldModel.{SizedDestination, with_sizes, IsFresh}
use Rattle.relay_core.specs.Stored.{TakesOffers}
use Rattle.std.proofs.lemmas.Slice.Zip.{AllZip-long}
use Rattle.relay_core.proofs.Fresh.{fresh-are, map-replicate, takes-fresh}
use Rattle.relay_core.proofs.world.World.new.Goals as goal

pub invariant_of-result : goal.invariant_of-result
invariant_of-result c =
    let kinds = c.args.kinds.now in
    let readers = c.in-Ok.readers.items in
    let all : All (TakesOffers (length kinds) 0) c.in-Ok.destinations.items =
    subst (λ (l : List SizedDestination). All (TakesOffers (length kinds) 0) l) (sym c.in-Ok.ensures.destinations) (takes-fresh c.args.size c.args.limit (length kinds) c.args.destinations) in
    subst (λ (n : ℕ). All (TakesOffers n 0) c.in-Ok.destinations.items) (AllZip-long IsFresh readers kinds c.in-Ok.ensures.readers) all

pub returns-in-Ok-clause-represents : goal.returns-in-Ok-clause-represents
returns-in-Ok-clause-represents c =
    let kinds = c.args.kinds.now in
    record {
      readers_are = fresh-are c.args.plan c.in-Ok.readers.items kinds c.in-Ok.ensures.readers;
      destinations_are = c.in-Ok.ensures.destinations
          ∙ sym (ap (λ (n : ℕ). replicate n (with_sizes c.args.size c.args.limit (fresh_destination (length kinds)))) c.requires.destinations)
          ∙ sym (map-replicate (with_sizes c.args.size c.args.limit) c.args.plan.destinations (fresh_destination (length kinds)));
    }

pub returns-in-Ok-clause-readers : goal.returns-in-Ok-clause-readers
returns-in-Ok-clause-readers c = sym (AllZip-long IsFresh c.in-Ok.readers.items c.args.kinds.now c.in-Ok.ensures.readers)
