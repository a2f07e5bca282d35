use Rattle.pickle_subset.proofs.usual_row.pair_at.Goals as goal

pub returns : goal.returns
returns c =
    (c.in_ok-time.rest.now, (c.in_ok-time.ensures, (c.in_ok-value.rest.now, (c.in_ok-value.ensures, c.in_ok-place.ensures))))
