use Rattle.std.proofs.Common.{arith}
use Rattle.std.proofs.lemmas.Grind.{common_steps}
use Rattle.spool.proofs.SendingLemmas.{text-goes_on, text-goes_on_not}
use Rattle.spool.proofs.pieces.send_piece.Goals as goal

pub returns-in-Bytes-clause-sent : goal.returns-in-Bytes-clause-sent
returns-in-Bytes-clause-sent g c = grind (arith, common_steps)

pub returns-in-Bytes-clause-goes_on : goal.returns-in-Bytes-clause-goes_on
returns-in-Bytes-clause-goes_on g c =
    let text = g.F.HeldText.text c.args.file.now in
    let first = text-goes_on_not text c.args.end c.args.cursor.now (g.W.Write.contents c.args.sink.now) in
    text-goes_on c.nothing_is_lost.ensures c.left_from_place.ensures text c.args.end _ _ _ _ _ _ (omega (arith, c.ranges.end.fits)) first (returns-in-Bytes-clause-sent g c)
