use Rattle.std.proofs.Common.{◌≡◌, Option, Some, None, Bor, refl, sym, ap, ◌∙◌, option_map}
use Rattle.std.specs.Prelude.{slice_get}
use Rattle.std.specs.Option.{option_copied}
use Rattle.std.proofs.lemmas.Option.{slice_get-get_or, slice_get_past}
use Rattle.numbered_memo.proofs.MemoLemmas.{get-first, get-others}
use Rattle.numbered_memo.proofs.memo.stored_under.Goals as goal

seen : {X V : Type 0} (meaning : X → V) (found : Option (Bor X)) → option_map (λ stored. meaning stored.now) found ≡ option_map meaning (option_copied found)
seen meaning None = refl
seen meaning (Some stored) = refl

pub returns-in-Some : goal.returns-in-Some
returns-in-Some g c =
    let x = c.in-Some.stored.now in
    let lookup = c.in-Some.ensures.lookup in
    let found : slice_get c.args.first.now c.args.number ≡ Some x = slice_get-get_or c.args.first.now c.args.number x lookup.3.0 ∙ ap Some (sym lookup.1) in
    sym (get-first g.T.Meaning.meaning c.args.first.now c.args.others.now.entries c.args.number c.in-Some.stored.now found)

pub returns-in-None : goal.returns-in-None
returns-in-None g c =
    seen g.T.Meaning.meaning c.get-in-None.result ∙ ap (option_map g.T.Meaning.meaning) c.get-in-None.ensures.value
    ∙ sym (get-others g.T.Meaning.meaning c.args.first.now c.args.others.now.entries c.args.number (slice_get_past c.args.first.now c.args.number c.in-None.ensures.lookup.3))
