use Rattle.std.proofs.Common.{◌≡◌, List, [], ◌∷◌, false, Option, Some, None, sym, ap, subst, ◌∙◌}
use Rattle.std.proofs.lemmas.Bool.{true≢false}
use Rattle.std.specs.Prelude.{MatchOption, IfSome}
use Rattle.std.specs.Arc.{arc_value}
use Rattle.reader_core.specs.Configuration.{Dispatch}
use Rattle.relay_core.specs.World.{is_nothing}
use Rattle.relay_core.specs.Offering.{OfFirst}
use Rattle.relay_core.proofs.offering.offer_first.Goals as goal

-- what holds for the offer that was taken out holds for the first that waited
of_first : {X : Type 0} (taken : Option X) (sent : X → Dispatch) (waiting new : List Dispatch) (P : Dispatch → Type 0)
    → MatchOption taken (waiting ≡ []) (λ x. waiting ≡ sent x ∷ new) → IfSome taken (λ x. P (sent x)) → is_nothing waiting ≡ false → OfFirst waiting P
of_first None sent waiting new P e p some = absurd (true≢false (sym (ap is_nothing e) ∙ some))
of_first (Some x) sent waiting new P e p some = subst (λ (w : List Dispatch). OfFirst w P) (sym e) p

pub returns-clause-reader : goal.returns-clause-reader
returns-clause-reader c =
    of_first c.next_offer.result (λ offer. record { dest = offer.0.0; point = arc_value offer.1 }) _ _ _
    c.next_offer.ensures.offer c.next_offer.ensures.represents c.requires.waits
