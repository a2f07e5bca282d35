use Rattle.std.proofs.Common.{◌<◌, arith, refl}
use Rattle.line_text.proofs.PrintLemmas.{all_is_left, HasWritten-more, HasWritten-all, places-few}
use Rattle.line_text.proofs.printed_value.append_digits.Goals as goal

pub loop-rest-init : goal.loop-rest-init
loop-rest-init c = record {
  written = record { rest_is = all_is_left c.args.fraction c.requires.fraction; items = refl };
  small = c.requires.fraction;
  places = omega arith;
  len = omega arith;
  capacity = omega arith;
}

pub loop-rest-preserved : goal.loop-rest-preserved
loop-rest-preserved c =
    let few : c.loop-rest.places < 10 = places-few _ _ c.loop-rest.invariant.written.rest_is c.loop-rest-test.true in
    record {
      written = HasWritten-more _ _ _ _ _ _ _ c.loop-rest.invariant.written c.loop-rest-test.true (omega (arith, c.loop-rest.invariant.small)) c.append.ensures.items;
      small = omega arith;
      places = omega (arith, few);
      len = omega (arith, c.append.ensures.len, c.loop-rest.invariant.len);
      capacity = omega (arith, c.append.ensures.capacity, c.loop-rest.invariant.capacity);
    }

pub returns-clause-items : goal.returns-clause-items
returns-clause-items c = HasWritten-all _ _ _ _ _ c.loop-rest.invariant.written c.loop-rest-test.false
