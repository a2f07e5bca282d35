use Rattle.std.proofs.Common.{rules}
use Rattle.pickle_subset.proofs.UsualRowLemmas.{row_whole}
use Rattle.pickle_subset.proofs.usual_row.usual_row.Goals as goal

pub returns : goal.returns
returns c =
    row_whole c.args.bytes.now c.in_ok-text.rest.now c.in_ok-path_place.rest.now c.in_ok-pair.rest.now c.in_ok-row_place.rest.now _ _ _ _ _ _
    (search rules) c.in_ok-path_place.ensures c.in_ok-pair.ensures c.in_ok-row_place.ensures
