use Rattle.relay_core.proofs.world.World.apply.Goals as goal

pub returns-in-Piece : goal.returns-in-Piece
returns-in-Piece c = let e = c.feed.ensures in record { applies = rw c.in-Piece.is e.applies; plan = e.plan; places = e.places; err = e.err; memory = rw c.in-Piece.is e.memory }

pub returns-in-End : goal.returns-in-End
returns-in-End c = let e = c.end.ensures in record { applies = rw c.in-End.is e.applies; plan = e.plan; places = e.places; err = tt; memory = tt }

pub returns-in-Offer : goal.returns-in-Offer
returns-in-Offer c = let e = c.offer.ensures in record { applies = rw c.in-Offer.is e.applies; plan = e.plan; places = e.places; err = e.err; memory = rw c.in-Offer.is e.memory }

pub returns-in-Take : goal.returns-in-Take
returns-in-Take c = let e = c.act.ensures in record { applies = rw c.in-Take.is e.applies; plan = e.plan; places = e.places; err = e.err; memory = rw c.in-Take.is e.memory }

pub returns-in-Up : goal.returns-in-Up
returns-in-Up c = let e = c.act-in-Up.ensures in record { applies = rw c.in-Up.is e.applies; plan = e.plan; places = e.places; err = e.err; memory = rw c.in-Up.is e.memory }

pub returns-in-Wrote : goal.returns-in-Wrote
returns-in-Wrote c = let e = c.act-in-Wrote.ensures in record { applies = rw c.in-Wrote.is e.applies; plan = e.plan; places = e.places; err = e.err; memory = rw c.in-Wrote.is e.memory }

pub returns-in-Down : goal.returns-in-Down
returns-in-Down c = let e = c.act-in-Down.ensures in record { applies = rw c.in-Down.is e.applies; plan = e.plan; places = e.places; err = e.err; memory = rw c.in-Down.is e.memory }
