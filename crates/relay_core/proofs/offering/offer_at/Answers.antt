use Rattle.std.proofs.lemmas.Result.{IfOk-from_err}
use Rattle.relay_core.proofs.offering.offer_at.Goals as goal

pub returns-in_err-offer-clause-destinations : goal.returns-in_err-offer-clause-destinations
returns-in_err-offer-clause-destinations c = IfOk-from_err _ _ c.from_residual.ensures.0

pub returns-in_err-offer-clause-answer : goal.returns-in_err-offer-clause-answer
returns-in_err-offer-clause-answer c = IfOk-from_err _ _ c.from_residual.ensures.0
