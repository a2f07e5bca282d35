use Rattle.std.proofs.Common.{sym, ◌∙◌}
use Rattle.line_text.proofs.FeedLemmas.{GivesNoMore-moved}
use Rattle.line_text.proofs.reader.LineReader.feed.Goals as goal

pub returns-in-Ok-clause-ends : goal.returns-in-Ok-clause-ends
returns-in-Ok-clause-ends c = λ reported before represents.
    GivesNoMore-moved _ _ _ _ _ c.in-Ok.ensures.moved c.find.ensures.same (c.in_ok-found.ensures.represents before represents) (sym c.in-Ok.ensures.end ∙ reported)
