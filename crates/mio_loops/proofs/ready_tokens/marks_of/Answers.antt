use Rattle.std.proofs.Common.{◌||◌, ◌==◌, ◌∙◌, Bool, false, ap, sym, get_or}
use Rattle.std.proofs.lemmas.List.{get_or-replicate}
use Rattle.mio_loops.specs.declared.token.Token.{Token}
use Rattle.mio_loops.proofs.ReadTurnLemmas.{ready-more}
use Rattle.mio_loops.proofs.ready_tokens.marks_of.Goals as goal

pub loop-token-init : goal.loop-token-init
loop-token-init c = λ token low. get_or-replicate 1024 token false false low

pub loop-token-preserved : goal.loop-token-preserved
loop-token-preserved c =
    let ready = c.args.ready.now in
    let place = c.loop-token.token-index in
    let first : Token = record { 0 = 0 } in
    λ token low. c.mark.ensures token low
    ∙ ap (λ (b : Bool). b || ((get_or ready place first).0 == token)) (c.loop-token.invariant token low)
    ∙ sym (ready-more ready place first token c.loop-token-test.true)
