use Rattle.std.proofs.Common.{ℕ, ◌∷◌, ap, ◌∙◌, rules}
use Rattle.pickle_subset.proofs.UsualRowLemmas.{whole_of_one, whole_of_two, whole_of_four, binary_of_eight}
use Rattle.pickle_subset.proofs.usual_row.number_at.Goals as goal

pub returns-in-Ok : goal.returns-in-Ok
returns-in-Ok c =
    whole_of_four c.args.bytes.now c.in_ok-byte.bytes.now c.in-Ok.number.bytes.now c.in-Ok.number.rest.now _ (c.in_ok-byte.ensures.cases.0 ∙ ap (λ (byte : ℕ). byte ∷ c.in_ok-byte.bytes.now) c.in-74.is) c.in-Ok.ensures.part (search rules)

pub returns-in-Ok-bytes_at : goal.returns-in-Ok-bytes_at
returns-in-Ok-bytes_at c =
    binary_of_eight c.args.bytes.now c.in_ok-byte.bytes.now c.in-Ok-bytes_at.number.bytes.now c.in-Ok-bytes_at.number.rest.now _ (c.in_ok-byte.ensures.cases.0 ∙ ap (λ (byte : ℕ). byte ∷ c.in_ok-byte.bytes.now) c.in-71.is) c.in-Ok-bytes_at.ensures.part c.read_u64-bits.ensures

pub returns-in-Ok-bytes_at-2 : goal.returns-in-Ok-bytes_at-2
returns-in-Ok-bytes_at-2 c =
    whole_of_one c.args.bytes.now c.in_ok-byte.bytes.now c.in-Ok-bytes_at-2.number.bytes.now c.in-Ok-bytes_at-2.number.rest.now _ (c.in_ok-byte.ensures.cases.0 ∙ ap (λ (byte : ℕ). byte ∷ c.in_ok-byte.bytes.now) c.in-75.is) c.in-Ok-bytes_at-2.ensures.part (search rules)

pub returns-in-Ok-bytes_at-3 : goal.returns-in-Ok-bytes_at-3
returns-in-Ok-bytes_at-3 c =
    whole_of_two c.args.bytes.now c.in_ok-byte.bytes.now c.in-Ok-bytes_at-3.number.bytes.now c.in-Ok-bytes_at-3.number.rest.now _ (c.in_ok-byte.ensures.cases.0 ∙ ap (λ (byte : ℕ). byte ∷ c.in_ok-byte.bytes.now) c.in-77.is) c.in-Ok-bytes_at-3.ensures.part (search rules)
