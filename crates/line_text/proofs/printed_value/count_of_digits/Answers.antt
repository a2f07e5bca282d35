use Rattle.std.proofs.Common.{◌<◌, arith}
use Rattle.line_text.proofs.PrintLemmas.{all_is_left, HasCounted-more, HasCounted-all, places-few}
use Rattle.line_text.proofs.printed_value.count_of_digits.Goals as goal

pub loop-left-init : goal.loop-left-init
loop-left-init c = record {
  counted = record { rest_is = all_is_left c.args.fraction c.requires; count = omega arith };
  small = c.requires;
  places = omega arith;
}

pub loop-left-preserved : goal.loop-left-preserved
loop-left-preserved c =
    let few : c.loop-left.places < 10 = places-few _ _ c.loop-left.invariant.counted.rest_is c.loop-left-test.true in
    record {
      counted = HasCounted-more _ _ _ c.loop-left.invariant.counted c.loop-left-test.true;
      small = omega arith;
      places = omega (arith, few);
    }

pub returns-clause-value : goal.returns-clause-value
returns-clause-value c = HasCounted-all _ _ _ c.loop-left.invariant.counted c.loop-left-test.false
