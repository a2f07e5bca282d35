use Rattle.std.proofs.Common.{◌++◌, map, ap, ◌∙◌}
use Rattle.std.proofs.lemmas.List.{map-append}
use Rattle.queue_records.proofs.Numbering.{append-assoc}
use Rattle.queue_records.proofs.order_lists.all_lists.Goals as goal

pub returns : goal.returns
returns c =
    let lists = c.in_ok-lists.lists.items in
    let doors = c.args.of_doors.now.items in
    let outlets = c.args.of_outlets.now.items in
    let ns = map (λ list. list.items) doors in
    let ms = map (λ list. list.items) outlets in
    ap (map (λ list. list.items)) (c.in_ok-append-2.ensures.items ∙ ap (λ xs. xs ++ outlets) c.in_ok-append.ensures.items)
    ∙ (map-append (λ list. list.items) (lists ++ doors) outlets
    ∙ (ap (λ a. a ++ ms) (map-append (λ list. list.items) lists doors)
    ∙ (append-assoc (map (λ list. list.items) lists) ns ms ∙ ap (λ a. a ++ (ns ++ ms)) c.in_ok-lists.ensures)))
