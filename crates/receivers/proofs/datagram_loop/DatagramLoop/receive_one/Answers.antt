use Rattle.std.proofs.Common.{[], ◌++◌, refl}
use Rattle.queue_records.specs.Offers.{IsRefusedBy}
use Rattle.mio_loops.proofs.ReadingLemmas.{went-waiting, went-then}
use Rattle.receivers.specs.Datagrams.{is_at}
use Rattle.receivers.proofs.DatagramLemmas.{datagrams-offered, datagrams-went}
use Rattle.receivers.proofs.MomentLemmas.{fed-moments}
use Rattle.receivers.proofs.datagram_loop.DatagramLoop.receive_one.Goals as goal

pub returns-then-not-make_offers : goal.returns-then-not-make_offers
returns-then-not-make_offers g c =
    let plan = c.args.plan.now in
    let loop = c.args.self.now in
    let made = c.make_offers.ensures.made in
    datagrams-offered (IsRefusedBy g.D.Door.may_refuse) (is_at c.args.moment) plan _ made.0 loop _ _ _ c.requires
    (went-waiting plan loop.number made.0 _ _ _ _ loop.log made.1) refl c.destinations.ensures c.make_offers.ensures.dests c.make_offers.ensures.waits

pub returns-in-Ok : goal.returns-in-Ok
returns-in-Ok g c =
    let plan = c.args.plan.now in
    let loop = c.args.self.now in
    let n = loop.number in
    let made = c.make_offers.ensures.made in
    let fed = c.feed_piece-fed.ensures.went in
    datagrams-went (IsRefusedBy g.D.Door.may_refuse) (is_at c.args.moment) plan _ fed.0 (made.0 ++ fed.1) loop _ _ _ c.requires
    (went-then plan n [] fed.0 made.0 fed.1 _ _ _ _ _ _ _ _ _ (went-waiting plan n made.0 _ _ _ _ loop.log made.1) fed.2) (fed-moments _ c.args.moment fed.0 c.feed_piece-fed.result fed.3) refl c.feed_piece-fed.ensures.plan
    c.feed_piece-fed.ensures.dests c.feed_piece-fed.ensures.waits

pub returns-in-Err : goal.returns-in-Err
returns-in-Err g c =
    let plan = c.args.plan.now in
    let loop = c.args.self.now in
    let made = c.make_offers.ensures.made in
    datagrams-offered (IsRefusedBy g.D.Door.may_refuse) (is_at c.args.moment) plan _ made.0 loop _ _ _ c.requires
    (went-waiting plan loop.number made.0 _ _ _ _ loop.log made.1) refl c.destinations.ensures c.make_offers.ensures.dests c.make_offers.ensures.waits
