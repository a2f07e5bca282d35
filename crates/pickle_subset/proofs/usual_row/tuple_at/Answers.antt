use Rattle.std.proofs.Common.{ap, ◌∙◌, ◌∷◌, ℕ}
use Rattle.pickle_subset.proofs.UsualRowLemmas.{tuple_first}
use Rattle.pickle_subset.proofs.usual_row.tuple_at.Goals as goal

pub returns-then-byte : goal.returns-then-byte
returns-then-byte c =
    let tail = c.in_ok-byte.bytes.now in
    tuple_first c.place_at.result (λ rest. rest.now) c.args.bytes.now tail
    (c.in_ok-byte.ensures.cases.0 ∙ ap (λ (byte : ℕ). byte ∷ tail) c.if-byte.true) c.place_at.ensures
