use Rattle.std.proofs.Common.{◌≡◌, ◌<◌, ◌++◌, [], length, map, take, sym, ap, ◌∙◌, arith}
use Rattle.std.proofs.lemmas.Grind.{common_steps}
use Rattle.std.proofs.lemmas.List.{map-append, length-map}
use Rattle.std.specs.Prelude.{slice_index_or, None}
use Rattle.queue_records.specs.FoundStep.{found_by_key}
use Rattle.queue_records.specs.Met.{AreMet}
use Rattle.queue_records.specs.Numbered.{all_with_numbers, made_by}
use Rattle.queue_records.specs.Records.{steps_of_door, steps_of_outlet}
use Rattle.queue_records.proofs.Numbering.{take_whole}
use Rattle.queue_records.proofs.RecordsMet.{all_numbers_join}
use Rattle.queue_records.proofs.order_lists.lists_of_found.Goals as goal

pub returns : goal.returns
returns c =
    let readers = c.args.readers in
    let F = found_by_key c.args.found.now in
    let ds = map steps_of_door c.args.doors.now in
    let os = map steps_of_outlet c.args.outlets.now in
    let ns = map (λ list. list.items) c.in_ok-of_doors.of_doors.items in
    let ms = map (λ list. list.items) c.in_ok-of_outlets.of_outlets.items in
    let none : c.difference.result ≡ None = c.in_default.is in
    let none_outlets = c.difference.ensures.none none in
    let none_doors = c.in_ok-of_outlets.ensures.none none_outlets in
    let by_doors = c.in_ok-of_doors.ensures.met in
    let by_outlets = c.in_ok-of_outlets.ensures.met in
    let start : AreMet readers F [] c.in_ok-matching.matching.reached.items = λ key lt. sym (ap (λ n. take n (slice_index_or F key [])) (c.in_ok-matching.ensures.zeros key)) in
    let after_doors = by_doors.met none_doors [] start in
    let after_all = by_outlets.met none_outlets (all_with_numbers ds ns) after_doors in
    let same : length ns ≡ length ds = sym (length-map ns (λ a. length a)) ∙ (ap length by_doors.lengths ∙ length-map ds (λ a. length a)) in
    record {
      numbers = ns ++ ms;
      steps = record {
        lengths = map-append (λ a. length a) ns ms ∙ (ap (λ a. a ++ map (λ b. length b) ms) by_doors.lengths ∙ (ap (λ b. map (λ a. length a) ds ++ b) by_outlets.lengths ∙ sym (map-append (λ a. length a) ds os)));
        same = λ key lt.
            let in_found : key < length F = grind (arith, common_steps) in
            let in_slice : key < length c.args.found.now = grind (arith, common_steps) in
            ap (made_by readers key) (all_numbers_join ds os ns ms same)
            ∙ (after_all key in_found
            ∙ (take_whole (slice_index_or F key []) _ (c.difference.ensures.all none key in_slice)
            ∙ c.requires.found key in_slice));
      };
      all = c.in_ok-lists.ensures;
    }
