use Rattle.spool.proofs.SendingLemmas.{under-way_again}
use Rattle.spool.proofs.file_connection.FileConnection.lose.Goals as goal

pub returns-then-is_some-clause-again : goal.returns-then-is_some-clause-again
returns-then-is_some-clause-again g c = λ some lines over taken way. under-way_again lines over taken c.args.cursor.now _ way (c.reconnect.ensures.over over taken way.place)
