use Rattle.line_text.specs.Connection.{arrivals}
use Rattle.reader_core.proofs.Datagrams.{datagram_found}
use Rattle.reader_core.proofs.PiecesFound.{lines_found, frames_found}
use Rattle.reader_core.proofs.scan.Scan.find.Goals as goal

pub returns-in_ok-found-in-Lines-clause-found : goal.returns-in_ok-found-in-Lines-clause-found
returns-in_ok-found-in-Lines-clause-found c =
    λ connection keeps.
    let read = c.in_ok-found-in-Lines.ensures in
    lines_found c.args.self.now _ c.in-Lines.is connection (arrivals c.args.piece.now c.args.moment) _ _ _ keeps read.represents read.gained read.bad

pub returns-in_ok-found-in-Pickles-clause-found : goal.returns-in_ok-found-in-Pickles-clause-found
returns-in_ok-found-in-Pickles-clause-found c =
    λ connection keeps.
    let read = c.in_ok-found-in-Pickles.ensures in
    frames_found c.args.self.now _ c.in-Pickles.is connection (arrivals c.args.piece.now c.args.moment) _ _ _ keeps read.represents read.gained read.bad_pickles read.bad_rows

pub returns-in_ok-bad_lines-in-Datagrams-clause-found :
    goal.returns-in_ok-bad_lines-in-Datagrams-clause-found
returns-in_ok-bad_lines-in-Datagrams-clause-found c =
    λ connection keeps.
    let read = c.in_ok-bad_lines-in-Datagrams.ensures in
    datagram_found c.args.self.now c.in-Datagrams.is connection c.args.piece.now c.args.moment _ _ _ read.gained read.bad
