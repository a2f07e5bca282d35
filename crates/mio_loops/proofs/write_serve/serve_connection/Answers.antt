use Rattle.std.proofs.Common.{None, sym, ◌∙◌}
use Rattle.dest_writer.specs.Counting.{stream_of}
use Rattle.mio_loops.specs.WriteServe.{Moved}
use Rattle.mio_loops.proofs.StepsLemmas.{unwritten-after}
use Rattle.mio_loops.proofs.TurnLemmas.{sound-served}
use Rattle.mio_loops.proofs.ServeLemmas.{served-stays, served-leaves, ends-leaves}
use Rattle.mio_loops.proofs.write_serve.serve_connection.Goals as goal

pub take_batch-requires-clause-limit : goal.take_batch-requires-clause-limit
take_batch-requires-clause-limit g c = (c.requires.sound.least, c.requires.sound.most)

pub take_batch-requires-clause-fits : goal.take_batch-requires-clause-fits
take_batch-requires-clause-fits g c = c.requires.sound.fits

pub take_batch-requires-clause-empty : goal.take_batch-requires-clause-empty
take_batch-requires-clause-empty g c = c.requires.sound.empty

pub take_batch-requires-clause-room : goal.take_batch-requires-clause-room
take_batch-requires-clause-room g c = c.requires.sound.room

pub drive_connection-report-requires-clause-unwritten :
    goal.drive_connection-report-requires-clause-unwritten
drive_connection-report-requires-clause-unwritten g c =
    unwritten-after _ _ _ _ c.requires.sound.unwritten (c.take_batch.ensures.took.2 None)

pub returns-then-is_failed-clause-served : goal.returns-then-is_failed-clause-served
returns-then-is_failed-clause-served g c =
    let drive = c.drive_connection-report in
    let moved : Moved = record {
      batch = c.take_batch.ensures.took.0;
      count = drive.result.wrote;
    } in
    let failed = sym c.if-is_failed.ensures in (
      moved,
      record {
        handed = c.take_batch.ensures.took.1;
        steps = served-leaves c.args.dest.0 c.args.logged.now.limit moved drive.result.driven _ _ _ _
            (c.take_batch.ensures.took.2 (g.W.Write.contents (stream_of c.args.sink.now)))
            (drive.ensures.wrote c.args.dest.0 (g.S.Supply.record_of c.take_batch.new.supply))
            (c.lose_connection.ensures.lost c.args.dest.0 (g.S.Supply.record_of c.take_batch.new.supply) (g.W.Write.contents (stream_of drive.new.sink)))
            failed;
        ends = ends-leaves drive.result.driven _ _ _ _ failed drive.ensures.ends;
      },
    )

pub returns-else-is_failed-clause-served : goal.returns-else-is_failed-clause-served
returns-else-is_failed-clause-served g c =
    let drive = c.drive_connection-report in
    let moved : Moved = record {
      batch = c.take_batch.ensures.took.0;
      count = drive.result.wrote;
    } in (
      moved,
      record {
        handed = c.take_batch.ensures.took.1;
        steps = served-stays c.args.dest.0 c.args.logged.now.limit moved drive.result.driven _ _ _
            (c.take_batch.ensures.took.2 (g.W.Write.contents (stream_of c.args.sink.now)))
            (drive.ensures.wrote c.args.dest.0 (g.S.Supply.record_of c.take_batch.new.supply))
            (sym c.if-is_failed.ensures);
        ends = drive.ensures.ends;
      },
    )

pub returns-then-is_failed-clause-sound : goal.returns-then-is_failed-clause-sound
returns-then-is_failed-clause-sound g c =
    let took = c.take_batch.ensures in
    let served = returns-then-is_failed-clause-served g c in
    sound-served c.args.logged.now.limit _ _ _ _ c.requires.sound (c.lose_connection.ensures.limit ∙ c.drive_connection-report.ensures.limit ∙ took.limit) took.emptied took.room
    (unwritten-after _ _ _ _ c.requires.sound.unwritten served.1.steps)

pub returns-else-is_failed-clause-sound : goal.returns-else-is_failed-clause-sound
returns-else-is_failed-clause-sound g c =
    let took = c.take_batch.ensures in
    let served = returns-else-is_failed-clause-served g c in
    sound-served c.args.logged.now.limit _ _ _ _ c.requires.sound (c.drive_connection-report.ensures.limit ∙ took.limit) took.emptied took.room
    (unwritten-after _ _ _ _ c.requires.sound.unwritten served.1.steps)
