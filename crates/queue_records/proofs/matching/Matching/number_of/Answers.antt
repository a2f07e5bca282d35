use Rattle.std.proofs.Common.{◌≡◌, ◌<◌, ◌^◌, ◌-◌, [], map, length, slice_get, slice_index, slice_index_or, Some, ap, sym, ◌∙◌, arith}
use Rattle.std.proofs.lemmas.Grind.{common_steps}
use Rattle.std.proofs.lemmas.List.{get_or-map}
use Rattle.queue_records.specs.FoundStep.{found_by_key, numbered_of}
use Rattle.queue_records.specs.Numbered.{key_of, with_number}
use Rattle.queue_records.proofs.Meeting.{met_more}
use Rattle.queue_records.proofs.matching.Matching.number_of.Goals as goal

pub returns-in-Some-clause-met : goal.returns-in-Some-clause-met
returns-in-Some-clause-met g c = λ none seen met.
    let x = with_number c.in-Some.number (g.E.Entry.step_of c.args.entry.now) in
    let key = c.key-key.result in
    let found = c.args.found.now in
    let few : key < 2 ^ 64 - 1 = grind (arith, common_steps) in
    let is : key ≡ key_of c.args.readers x.dest x.step = c.key-key.ensures few in
    let in_found : key < length found = grind (arith, common_steps) in
    let within : key < length c.args.self.now.reached.items = grind (arith, common_steps) in
    let place = c.index-place.result.now in
    let own = c.index-found-key.result in
    let there : slice_index_or found key own ≡ own = grind (arith, common_steps) in
    let seen_as : slice_index_or (found_by_key found) key [] ≡ map numbered_of own.items = get_or-map (λ s. map numbered_of s.items) found key own [] in_found ∙ ap (λ s. map numbered_of s.items) there in
    let step : slice_get (map numbered_of own.items) place ≡ Some x = ap (λ ys. slice_get (map numbered_of ys) place) (sym c.as_slice.ensures.value) ∙ c.in-Some.ensures.step in
    let at : slice_index c.args.self.now.reached.items key ≡ place = grind (arith, common_steps) in
    met_more c.args.readers (found_by_key found) seen x key place c.args.self.now.reached.items is within at (ap (λ ys. slice_get ys place) seen_as ∙ step) met
