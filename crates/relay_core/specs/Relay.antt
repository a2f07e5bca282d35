-- The runs of a plan, and what was wrong with a reader's input in them.
use Rattle.std.specs.Prelude.{ℕ, List}
use Rattle.line_text.specs.Line.{count_of}
use Rattle.router.specs.Plan.{Plan}
use Rattle.reader_core.specs.Kinds.{bad_lines_of, bad_pickles_of, bad_rows_of}
use Rattle.reader_core.specs.Offers.{bad_names_of}
use Rattle.reader_core.specs.PlanConfiguration.{configuration_of}
use Rattle.reader_counts.specs.declared.counts.ReaderCounts.{ReaderCounts}
use Rattle.reader_core.specs.declared.kind.ReaderKind.{ReaderKind}
use Rattle.relay_core.specs.World.{RunEvent, ReaderState}
use Rattle.relay_core.specs.Run.{Run}

-- a run of a plan, with queues of this size and batches of this limit
abbrev pub run_of : Plan → ℕ → ℕ → List ReaderKind → List RunEvent → Run
run_of plan size limit kinds events =
    record { configuration = configuration_of plan size limit; kinds = kinds; events = events }

-- what was wrong with a reader's input under the plan
abbrev pub counts_read : Plan → ReaderState → ReaderCounts
counts_read plan r =
    record {
      bad_lines = count_of (bad_lines_of r.kind r.input);
      bad_pickles = count_of (bad_pickles_of r.kind r.input);
      bad_rows = count_of (bad_rows_of r.kind r.input);
      bad_names = count_of (bad_names_of plan r.kind r.input);
    }
