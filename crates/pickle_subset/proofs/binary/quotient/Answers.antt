use Rattle.std.proofs.Common.{◌≡◌, ℕ, ◌/◌, ◌^◌, min, ap, ◌∙◌}
use Rattle.pickle_subset.proofs.BinaryLemmas.{div-most}
use Rattle.pickle_subset.proofs.binary.quotient.Goals as goal

pub returns : goal.returns
returns c =
    let unit : c.power.result ≡ 2 ^ min c.args.places 53 = c.power.ensures.value ∙ ap (λ (k : ℕ). 2 ^ k) c.min.ensures in
    ap (λ (u : ℕ). c.args.significand / u) unit ∙ div-most c.args.significand c.args.places c.requires
