use Rattle.std.proofs.Common.{List, ◌≡◌, ◌+◌, ◌++◌, ◌∷◌, [], length, map, take, sym, ap, ◌∙◌, subst}
use Rattle.std.proofs.lemmas.List.{length-map, map-append}
use Rattle.std.proofs.lemmas.Result.{IfOk-from_err}
use Rattle.std.specs.Prelude.{slice_get, Some}
use Rattle.std.proofs.lemmas.Option.{slice_get-get_or}
use Rattle.queue_records.specs.FoundStep.{found_by_key}
use Rattle.queue_records.specs.Met.{AreMet, Meets}
use Rattle.queue_records.specs.Numbered.{StepAt, with_numbers}
use Rattle.queue_records.proofs.Numbering.{take_whole}
use Rattle.queue_records.proofs.RecordsMet.{meets_more}
use Rattle.queue_records.proofs.order_lists.record_numbers.Goals as goal

pub loop-record-preserved : goal.loop-record-preserved
loop-record-preserved g c =
    let f : g.row.R.Denot → List StepAt = λ r. map g.E.Entry.step_of (g.R.Record.entries_of r) in
    let i = c.loop-record.record-index in
    let rs = c.args.records.now in
    let r = c.record-item.result in
    let found = found_by_key c.args.found.now in
    let own = c.in_ok-own.own in
    let new = c.numbers_of.new.self in
    let nss = map (λ list. list.items) c.loop-record.numbers.items in
    let at : slice_get rs i ≡ Some r = slice_get-get_or rs i r c.loop-record-test.true ∙ ap Some (sym c.record-item.is) in
    let count : length nss ≡ i = length-map c.loop-record.numbers.items (λ list. list.items) ∙ sym c.loop-record.numbers.ok.0 ∙ c.loop-record.invariant.numbers in
    let own_count : length own.items ≡ length (f r) = sym own.ok.0 ∙ c.in_ok-own.ensures.count ∙ ap length c.entries.ensures ∙ sym (length-map (g.R.Record.entries_of r) g.E.Entry.step_of) in
    let listed : map (λ list. list.items) c.push_reserved.new.self.items ≡ nss ++ own.items ∷ [] = ap (map (λ list. list.items)) c.push_reserved.ensures.items ∙ map-append (λ list. list.items) c.loop-record.numbers.items (own ∷ []) in
    let met = meets_more f c.args.readers found rs r i nss own.items c.loop-record.matching.least new.least c.args.matching.now.reached.items c.loop-record.matching.reached.items new.reached.items c.loop-record-test.true at count own_count c.in_ok-own.ensures.none c.loop-record.invariant.met
    (λ none seen met. subst (λ es. AreMet c.args.readers found (seen ++ with_numbers (map g.E.Entry.step_of es) own.items) new.reached.items) c.entries.ensures (c.in_ok-own.ensures.met none seen met)) in
    record {
      none = λ none. c.loop-record.invariant.none (c.in_ok-own.ensures.none none);
      met = subst (λ ns. Meets c.args.readers found (map f (take (i + 1) rs)) ns new.least c.args.matching.now.reached.items new.reached.items) (sym listed) met;
      keys = c.in_ok-own.ensures.keys ∙ c.loop-record.invariant.keys;
      numbers = c.push_reserved.ensures.len ∙ ap (λ n. n + 1) c.loop-record.invariant.numbers;
      room = c.push_reserved.ensures.capacity ∙ c.loop-record.invariant.room;
    }

pub returns-in_err-numbers-clause-met : goal.returns-in_err-numbers-clause-met
returns-in_err-numbers-clause-met g c = IfOk-from_err _ _ c.from_residual.ensures.0

pub returns-in_err-own-clause-met : goal.returns-in_err-own-clause-met
returns-in_err-own-clause-met g c = IfOk-from_err _ _ c.from_residual-in_err-own.ensures.0

pub returns-clause-met : goal.returns-clause-met
returns-clause-met g c =
    let rs = c.args.records.now in
    let whole : take c.loop-record.record-index rs ≡ rs = take_whole rs c.loop-record.record-index c.loop-record-test.false in
    subst (λ (r : List g.row.R.Denot). Meets c.args.readers (found_by_key c.args.found.now) (map (λ x. map g.E.Entry.step_of (g.R.Record.entries_of x)) r) (map (λ list. list.items) c.loop-record.numbers.items) c.loop-record.matching.least c.args.matching.now.reached.items c.loop-record.matching.reached.items) whole c.loop-record.invariant.met
