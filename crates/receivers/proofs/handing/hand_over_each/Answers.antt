use Rattle.std.proofs.Common.{◌≢◌, ◌≤◌, ◌+◌, ◌∙◌, refl, arith}
use Rattle.receivers.proofs.HandingLemmas.{none-handed, one-more_handed}
use Rattle.receivers.proofs.handing.hand_over_each.Goals as goal

pub loop-token-init : goal.loop-token-init
loop-token-init g c = record {
  given = none-handed g.T.ConnectionTaker.takes c.args.leaving.now c.args.taker.now;
  there = λ other at_least. refl;
  readers = refl;
  log = refl;
}

pub loop-token-preserved : goal.loop-token-preserved
loop-token-preserved g c =
    let before = c.loop-token.invariant in
    let token = c.loop-token.token in
    let one = c.hand_over_one.ensures in
    let here : token ≤ token = omega arith in
    record {
      given = one-more_handed g.T.ConnectionTaker.takes c.args.leaving.now c.loop-token.leaving token (token + 1) c.args.taker.now c.loop-token.taker
          c.hand_over_one.new.taker refl (before.there token here) before.readers before.given one.given;
      there = λ other more.
          let is_other : other ≢ token = λ same. omega (arith, more, same) in
          let at_least : token ≤ other = omega (arith, more) in
          one.others other is_other ∙ before.there other at_least;
      readers = one.rest.0 ∙ before.readers;
      log = one.rest.1 ∙ before.log;
    }
