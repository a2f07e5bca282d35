use Rattle.std.proofs.Common.{◌++◌, List, ℕ, length, ap, sym, ◌∙◌}
use Rattle.std.specs.String.{string_bytes}
use Rattle.reader_core.specs.Kinds.{relay_reading}
use Rattle.reader_counts.specs.declared.counts.ReaderCounts.{ReaderCounts}
use Rattle.relay_core.specs.World.{waiting_of}
use Rattle.relay_core.specs.Run.{reader_in}
use Rattle.relay_core.specs.Relay.{run_of}
use Rattle.replay.specs.RunText.{reader_line, reader_text}
use Rattle.replay.proofs.RunLines.{of_each-next}
use Rattle.std.proofs.lemmas.Result.{IfOk-from_err}
use Rattle.replay.proofs.run_text.readers_text.Goals as goal

pub returns-in_err-push_reader : goal.returns-in_err-push_reader
returns-in_err-push_reader c = IfOk-from_err _ _ c.from_residual.ensures.0

pub loop-reader-preserved : goal.loop-reader-preserved
loop-reader-preserved c = λ size limit kinds events represents.
    let plan = c.args.world.now.plan in
    let run = run_of plan size limit kinds events in
    let r = c.loop-reader.reader in
    let before = string_bytes c.loop-reader.text in
    let waits = length (waiting_of relay_reading run.configuration (reader_in relay_reading run r)) in
    c.in_ok-push_reader.ensures
    ∙ ap (λ (n : ℕ). before ++ reader_line r n c.reader_counts.result) (c.waiting.ensures size limit kinds events represents)
    ∙ ap (λ (k : ReaderCounts). before ++ reader_line r waits k) (c.reader_counts.ensures size limit kinds events represents)
    ∙ ap (λ (l : List ℕ). l ++ reader_text plan run r) (c.loop-reader.invariant size limit kinds events represents)
    ∙ sym (of_each-next (reader_text plan run) r)
