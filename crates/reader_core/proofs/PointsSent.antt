-- What waits, and what rewriting dropped, when one datapoint more is sent.
use Rattle.std.proofs.Common.{◌≡◌, ℕ, ◌+◌, Bool, cond, List, ◌∷◌, ◌++◌, sym, ap, ◌∙◌, arith}
use Rattle.std.proofs.lemmas.List.{append_assoc}
use Rattle.std.proofs.lemmas.List.Sums.{sum_by-cons}
use Rattle.std.specs.Option.{is_none}
use Rattle.line_text.specs.Datapoint.{Datapoint}
use Rattle.router.specs.Plan.{Plan, sent_by}
use Rattle.reader_core.specs.Configuration.{Dispatch}
use Rattle.reader_core.specs.Offers.{offers_of_point, offers_by, dropped_by}

pub waits_more : (now plan : Plan) (point : Datapoint) (all others : List Datapoint) (waiting new whole : List Dispatch) → now ≡ plan → all ≡ point ∷ others
    → new ≡ waiting ++ offers_of_point now point → waiting ++ offers_by plan all ≡ whole → new ++ offers_by plan others ≡ whole
waits_more now plan point all others waiting new whole same next is held =
    rw (is, same) (append_assoc waiting (offers_of_point plan point) (offers_by plan others) ∙ sym (ap (λ (l : List Datapoint). waiting ++ offers_by plan l) next) ∙ held)

pub dropped_more : (now plan : Plan) (point : Datapoint) (all others : List Datapoint) (dropped more whole : ℕ) (flag : Bool) → now ≡ plan → all ≡ point ∷ others
    → more ≡ cond flag 1 0 → flag ≡ is_none (sent_by now point).point → dropped + dropped_by plan all ≡ whole → dropped + more + dropped_by plan others ≡ whole
dropped_more now plan point all others dropped more whole flag same next counted is held =
    let one : more ≡ cond (is_none (sent_by plan point).point) 1 0 = counted ∙ ap (λ (b : Bool). cond b 1 0) (is ∙ ap (λ (p : Plan). is_none (sent_by p point).point) same) in
    let before : dropped + (cond (is_none (sent_by plan point).point) 1 0 + dropped_by plan others) ≡ whole =
    ap (λ (n : ℕ). dropped + n) (sym (sum_by-cons (λ (p : Datapoint). cond (is_none (sent_by plan p).point) 1 0) point others))
    ∙ sym (ap (λ (l : List Datapoint). dropped + dropped_by plan l) next) ∙ held in
    omega (arith, one, before)
