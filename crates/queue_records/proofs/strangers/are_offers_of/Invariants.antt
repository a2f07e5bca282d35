use Rattle.std.proofs.Common.{◌≡◌, ◌<◌, ℕ, slice_get, Some}
use Rattle.queue_records.specs.Strangers.{IsOfferOf}
use Rattle.queue_records.specs.declared.made.Made.{Made}
use Rattle.queue_records.proofs.strangers.are_offers_of.Given as goal

-- the first offers are
abbrev pub invariant-loop-entry : goal.invariant-loop-entry
invariant-loop-entry l = (i : ℕ) (e : Made) → i < l.entry-index → slice_get l.made i ≡ Some e → IsOfferOf l.dests l.receiver e
