use Rattle.std.proofs.Common.{◌≡◌, length, eqb, List, Option, ap, lit<, arith}
use Rattle.std.specs.List.{slice_split}
use Rattle.std.specs.Option.{ok_or}
use Rattle.std.proofs.lemmas.Result.{err_from_is_err_and}
use Rattle.std.proofs.lemmas.List.{length_push}
use Rattle.std.proofs.lemmas.Iterator.Splits.{YieldsList-from_str_split}
use Rattle.std.proofs.lemmas.Iterator.Consumers.{YieldsList-turn, YieldsList-end}
use Rattle.relay_base.specs.White.{strip}
use Rattle.conf_text.specs.Destination.{Destination, destination_of, destinations_of}
use Rattle.relay_base.specs.Memory.{Fails}
use Rattle.conf_text.specs.declared.dest.DestFault.TheVariants.{BadDestination, NoMemory}
use Rattle.conf_text.proofs.Lists.{goes_on, is_done, fails, ok_or_is, at_least_one}
use Rattle.conf_text.proofs.dest.Dest.read_list.Goals as goal

pub returns-in_err-dest-clause-gives : goal.returns-in_err-dest-clause-gives
returns-in_err-dest-clause-gives c =
    let text = c.args.text.now in
    let items = slice_split (λ b. eqb b 44) text in
    let turn = YieldsList-turn (YieldsList-from_str_split 44 text (lit< tt) (cc) (cc) (cc)) c.loop-item.yielded _ c.loop-item.yielded_by _ _ c.in-Some.item c.in-Some.is c.next.ensures.steps in
    let same : c.strip.result.now ≡ strip c.in-Some.item.now = c.strip.ensures in
    let reported : Fails NoMemory (ok_or (destination_of (strip c.in-Some.item.now)) BadDestination) c.in_err-dest.field-0.0 = rw (← same) c.in_err-dest.ensures in
    let p = err_from_is_err_and c.from_residual.result c.from_residual.ensures.1 in
    rw (p.1, p.2) (fails c.in_err-dest.field-0.0 c.loop-item.dests.items items (length c.loop-item.yielded) c.in-Some.item.now (destinations_of text) turn reported c.loop-item.invariant)

pub loop-item-preserved : goal.loop-item-preserved
loop-item-preserved c =
    let text = c.args.text.now in
    let items = slice_split (λ b. eqb b 44) text in
    let turn = YieldsList-turn (YieldsList-from_str_split 44 text (lit< tt) (cc) (cc) (cc)) c.loop-item.yielded _ c.loop-item.yielded_by _ _ c.in-Some.item c.in-Some.is c.next.ensures.steps in
    let read = ok_or_is (destination_of c.strip.result.now) c.in_ok-dest.dest c.in_ok-dest.ensures in
    rw (c.in_ok-push.ensures.items, length_push)
    (goes_on c.loop-item.dests.items items (length c.loop-item.yielded) c.in-Some.item.now c.in_ok-dest.dest (destinations_of text) turn (rw (← c.strip.ensures) read) c.loop-item.invariant)

pub returns-clause-gives : goal.returns-clause-gives
returns-clause-gives c =
    let text = c.args.text.now in
    let end = YieldsList-end (YieldsList-from_str_split 44 text (lit< tt) (cc) (cc) (cc)) c.loop-item.yielded _ c.loop-item.yielded_by _ _ c.in-None.is c.next.ensures.steps in
    let all = is_done c.loop-item.dests.items (slice_split (λ b. eqb b 44) text) (length c.loop-item.yielded) (destinations_of text) (omega (arith, end.1)) c.loop-item.invariant in
    ap (λ (o : Option (List Destination)). ok_or o BadDestination) all

pub returns-clause-some : goal.returns-clause-some
returns-clause-some c = at_least_one c.args.text.now c.loop-item.dests.items (ok_or_is (destinations_of c.args.text.now) c.loop-item.dests.items (returns-clause-gives c))
