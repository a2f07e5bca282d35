use Rattle.std.proofs.Common.{◌≡◌, true, List, [], ◌++◌}
use Rattle.line_text.specs.Datapoint.{Datapoint}
use Rattle.line_text.specs.Laws as lines
use Rattle.pickle_subset.specs.Laws as pickles
use Rattle.reader_core.specs.declared.kind.ReaderKind.{ReaderKind}
use Rattle.reader_core.specs.declared.kind.ReaderKind.TheVariants.{Line, Pickle, Datagram}
use Rattle.reader_core.specs.Input.{Stream, has_connections}
use Rattle.reader_core.specs.Kinds.{points_in}
use Rattle.reader_core.proofs.laws.orderly.Goals as goal

nothing : lines.NothingAtFirstLaw → pickles.NothingAtFirstLaw → (kind : ReaderKind) → has_connections kind ≡ true → points_in kind [] ≡ []
nothing of_lines of_pickles Line has = of_lines
nothing of_lines of_pickles Pickle has = of_pickles
nothing of_lines of_pickles Datagram has = cc

grows : lines.AcceptedGrowsLaw → pickles.AcceptedGrowsLaw → (kind : ReaderKind) → has_connections kind ≡ true → (bytes more : Stream)
    → (gained : List Datapoint) × (points_in kind (bytes ++ more) ≡ points_in kind bytes ++ gained)
grows of_lines of_pickles Line has bytes more = of_lines bytes more
grows of_lines of_pickles Pickle has bytes more = of_pickles bytes more
grows of_lines of_pickles Datagram has bytes more = cc

pub returns : goal.returns
returns c = record {
  nothing = nothing c.orderly.ensures.nothing c.orderly-2.ensures.nothing;
  grows = grows c.orderly.ensures.grows c.orderly-2.ensures.grows;
}
