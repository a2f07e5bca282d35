use Rattle.std.proofs.Common.{◌≡◌, ◌*◌, ◌^◌, arith, ap}
use Rattle.pickle_subset.proofs.BinaryLemmas.{past_room, in_room}
use Rattle.pickle_subset.proofs.binary.product.Goals as goal

pub returns-then-places-gt-ROOM-clause-none : goal.returns-then-places-gt-ROOM-clause-none
returns-then-places-gt-ROOM-clause-none c = λ _. past_room c.args.significand c.args.places c.requires.0 (omega arith)

pub overflow_mul-result : goal.overflow_mul-result
overflow_mul-result c =
    let same : c.args.significand * c.power.result ≡ c.args.significand * 2 ^ c.args.places = ap (λ n. c.args.significand * n) c.power.ensures.value in
    omega (arith, same, in_room c.args.significand c.args.places c.requires.1 (omega arith))
