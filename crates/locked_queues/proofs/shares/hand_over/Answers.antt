use Rattle.std.proofs.Common.{◌∙◌, ap}
use Rattle.locked_queues.specs.Shares.{with_shares_of}
use Rattle.locked_queues.proofs.SharedSums.{splits_shares, joins}
use Rattle.locked_queues.proofs.shares.hand_over.Goals as goal

pub split_seat-note-requires : goal.split_seat-note-requires
split_seat-note-requires c = (c.requires.from, c.requires.words, λ st h e. splits_shares st.views _ _ h e)

pub join_seat-requires : goal.join_seat-requires
join_seat-requires c =
    let note = c.split_seat-note.ensures in (
      c.requires.to,
      note.3 ∙ c.requires.from,
      ap (λ m. m.1) note.4,
      c.requires.words,
      λ st h e ne e'. joins st.views _ _ _ _ (ap (λ m. m.0.keeps) note.4) (ap (λ m. m.0.totals) note.4) h e e',
    )

pub returns-clause-from : goal.returns-clause-from
returns-clause-from c = (c.split_seat-note.ensures.0, ap (λ m. m.0) c.split_seat-note.ensures.2)

pub returns-clause-to : goal.returns-clause-to
returns-clause-to c =
    (c.join_seat.ensures.0, ap (λ m. m.0) c.join_seat.ensures.2 ∙ ap (λ m. with_shares_of c.args.to.now.me.0 m.0) c.split_seat-note.ensures.4)
