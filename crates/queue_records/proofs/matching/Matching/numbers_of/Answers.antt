use Rattle.std.proofs.Common.{◌≡◌, ◌+◌, ◌++◌, ◌∷◌, [], length, map, take, sym, ap, ◌∙◌, arith, subst}
use Rattle.std.proofs.lemmas.Grind.{common_steps}
use Rattle.std.specs.Prelude.{slice_get, Some}
use Rattle.std.proofs.lemmas.Option.{slice_get-get_or}
use Rattle.queue_records.specs.FoundStep.{found_by_key}
use Rattle.queue_records.specs.Met.{AreMet}
use Rattle.queue_records.specs.Numbered.{with_number, with_numbers}
use Rattle.queue_records.proofs.Numbering.{entries_more, take_whole, append-assoc}
use Rattle.queue_records.proofs.matching.Matching.numbers_of.Goals as goal

pub loop-entry-preserved : goal.loop-entry-preserved
loop-entry-preserved g c =
    let f = g.E.Entry.step_of in
    let i = c.loop-entry.entry-index in
    let es = c.args.entries.now in
    let e = c.entry-item.result in
    let ns = c.loop-entry.numbers.items in
    let n = c.number_of-number.result in
    let at : slice_get es i ≡ Some e = slice_get-get_or es i e c.loop-entry-test.true ∙ ap Some (sym c.entry-item.is) in
    let count : length ns ≡ i = grind (arith, common_steps) in
    let more : with_numbers (map f (take (i + 1) es)) (ns ++ n ∷ []) ≡ with_numbers (map f (take i es)) ns ++ with_number n (f e) ∷ [] = entries_more f es e ns i n c.loop-entry-test.true at count in
    let all : with_numbers (map f (take (i + 1) es)) c.push_reserved.new.self.items ≡ with_numbers (map f (take i es)) ns ++ with_number n (f e) ∷ [] = ap (λ xs. with_numbers (map f (take (i + 1) es)) xs) c.push_reserved.ensures.items ∙ more in
    record {
      none = λ none. c.loop-entry.invariant.none (c.number_of-number.ensures.none none);
      met = λ none seen met.
          let before = c.number_of-number.ensures.none none in
          let so_far = c.loop-entry.invariant.met before seen met in
          let next = c.number_of-number.ensures.met none (seen ++ with_numbers (map f (take i es)) ns) so_far in
          subst (λ xs. AreMet c.args.readers (found_by_key c.args.found.now) xs c.number_of-number.new.self.reached.items) (append-assoc seen (with_numbers (map f (take i es)) ns) (with_number n (f e) ∷ []) ∙ ap (λ r. seen ++ r) (sym all)) next;
      numbers = grind (arith, common_steps);
      room = grind (arith, common_steps);
      keys = grind (arith, common_steps);
    }

pub returns-clause-met : goal.returns-clause-met
returns-clause-met g c = λ none seen met.
    let whole : take c.loop-entry.entry-index c.args.entries.now ≡ c.args.entries.now = take_whole c.args.entries.now c.loop-entry.entry-index (grind (arith, common_steps)) in
    subst (λ es. AreMet c.args.readers (found_by_key c.args.found.now) (seen ++ with_numbers (map g.E.Entry.step_of es) c.loop-entry.numbers.items) c.loop-entry.self.reached.items) whole (c.loop-entry.invariant.met none seen met)
