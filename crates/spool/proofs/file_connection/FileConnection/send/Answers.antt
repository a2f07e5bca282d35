use Rattle.std.proofs.Common.{ap, sym, ◌∙◌}
use Rattle.spool.proofs.SendingLemmas.{text-ends, text-ends_kept, text-stops, text-stops_kept}
use Rattle.spool.proofs.file_connection.FileConnection.send.Goals as goal

pub returns-in-All-clause-lines : goal.returns-in-All-clause-lines
returns-in-All-clause-lines g c =
    let text = g.F.HeldText.text c.args.file.now in
    text-ends_kept g.W.Write.contents text c.args.end c.args.cursor.now c.args.self.now.sink c.in-Some.sink c.send_piece.new.sink (ap (λ s. s.sink) (sym c.self.view_is) ∙ sym c.take.ensures.value ∙ c.in-Some.is)
    (text-ends c.nothing_is_lost.ensures text c.args.end c.args.cursor.now c.send_piece.new.cursor (g.W.Write.contents c.in-Some.sink) (g.W.Write.contents c.send_piece.new.sink) (c.send_piece.ensures.all c.in-All.is) c.send_piece.ensures.goes_on)

pub returns-then-is_between_lines-clause-given_up : goal.returns-then-is_between_lines-clause-given_up
returns-then-is_between_lines-clause-given_up g c =
    let text = g.F.HeldText.text c.args.file.now in
    text-stops_kept g.W.Write.contents text c.args.end c.args.cursor.now c.args.self.now.sink c.in-Some.sink c.send_piece.new.sink (ap (λ s. s.sink) (sym c.self.view_is) ∙ sym c.take.ensures.value ∙ c.in-Some.is)
    (text-stops text c.args.end c.args.cursor.now c.send_piece.new.cursor (g.W.Write.contents c.in-Some.sink) (g.W.Write.contents c.send_piece.new.sink) (c.is_between_lines.ensures.0 c.if-is_between_lines.true) c.send_piece.ensures.goes_on)
