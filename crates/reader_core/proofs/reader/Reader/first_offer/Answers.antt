use Rattle.std.proofs.Common.{◌≡◌, ◌<◌, List, [], ◌∷◌, length, get_or, ap, sym, ◌∙◌, arith}
use Rattle.reader_core.specs.Configuration.{Dispatch}
use Rattle.reader_core.specs.Reader.{ReaderModel}
use Rattle.reader_core.proofs.reader.Reader.first_offer.Goals as goal

-- the first of a list that has one
first_of : (all : List Dispatch) (x : Dispatch) → 0 < length all → x ≡ get_or all 0 x → (others : List Dispatch) × (all ≡ x ∷ others)
first_of [] x some is = absurd (omega arith)
first_of (y ∷ ys) x some is = (ys, ap (λ (z : Dispatch). z ∷ ys) (sym is))

pub returns : goal.returns
returns c =
    let found = first_of c.self.inside.waiting.items c.in_ok-offer.offer.now c.in_ok-offer.ensures.item.3.0 c.in_ok-offer.ensures.lookup in
    let waits = ap (λ (s : ReaderModel). s.waiting) (sym c.self.view_is) in
    (found.0, waits ∙ found.1 ∙ ap (λ (o : Dispatch). o ∷ found.0) (sym c.offer.view_is))
