use Rattle.std.proofs.Common.{◌≡◌, option_map, sym, ap, ◌∙◌}
use Rattle.std.specs.FinMap as fin
use Rattle.numbered_memo.specs.Memo as specs
use Rattle.numbered_memo.proofs.MemoLemmas.{memo, counted}
use Rattle.numbered_memo.proofs.memo.Memo.insert.Goals as goal

pub invariant_of-self-inside-2 : goal.invariant_of-self-inside-2
invariant_of-self-inside-2 g c =
    let meaning = g.T.Meaning.meaning in
    let s = memo meaning c.self.inside.first.items c.self.inside.others.entries in
    let found : option_map (λ stored. meaning stored.now) c.get.result ≡ fin.get s c.args.number =
    c.get.ensures ∙ ap (λ v. fin.get (specs.memo meaning v) c.args.number) (sym c.self.view_is) in (
      counted meaning s c.args.number c.self.inside.count _ (meaning c.args.stored) c.get.result _ c.self.inside.counted found c.is_some-is_taken.ensures c.in_ok-count.ensures
          ∙ ap fin.len (sym c.in_ok-store.ensures.ok),
      tt,
    )
