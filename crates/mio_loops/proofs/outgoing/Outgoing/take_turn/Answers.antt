use Rattle.std.proofs.Common.{◌≡◌, ◌||◌, true, Some, None, sym, refl, rules}
use Rattle.queue_records.specs.Takes.{IsHandedBy}
use Rattle.mio_loops.specs.OutgoingState.{OutgoingState}
use Rattle.mio_loops.specs.WriteTurn.{is_in_again_list}
use Rattle.mio_loops.proofs.TurnLemmas.{no-connection, not-due, turn-passed, turn-served}
use Rattle.mio_loops.proofs.outgoing.Outgoing.take_turn.Goals as goal

pub invariant_of-self-then-is_failed : goal.invariant_of-self-then-is_failed
invariant_of-self-then-is_failed g c =
    let e = c.serve_connection-driven.ensures in
    (e.sound, e.up (sym c.if-is_failed.ensures))

pub invariant_of-self-else-is_failed : goal.invariant_of-self-else-is_failed
invariant_of-self-else-is_failed g c =
    let e = c.serve_connection-driven.ensures in
    (e.sound, e.stays (sym c.if-is_failed.ensures))

pub returns-then-is_failed-clause-turn : goal.returns-then-is_failed-clause-turn
returns-then-is_failed-clause-turn g c =
    let serve = c.serve_connection-driven in
    let end : OutgoingState g.row.W.Denot = record {
      limit = serve.new.logged.limit;
      writer = serve.new.logged.writer.writer;
      sink = None;
      log = serve.new.logged.log;
      last = Some serve.result;
    } in
    let same : c.match-self-2.self ≡ end = search rules in
    let due : (c.args.is_ready || is_in_again_list c.args.self.now) ≡ true = search rules in
    let failed = sym c.if-is_failed.ensures in
    turn-served g.W.Write.contents (IsHandedBy g.S.Supply.record_of g.S.Supply.may_hand) c.args.dest.0 c.args.is_ready _ c.args.self.now end c.match-self-2.self c.in-Some.sink serve.new.sink serve.result _ _ serve.ensures.served.0
    c.self.view_is c.in-Some.is due serve.ensures.served.1 (rw failed refl) refl serve.ensures.limit same

pub returns-else-is_failed-clause-turn : goal.returns-else-is_failed-clause-turn
returns-else-is_failed-clause-turn g c =
    let serve = c.serve_connection-driven in
    let end : OutgoingState g.row.W.Denot = record {
      limit = serve.new.logged.limit;
      writer = serve.new.logged.writer.writer;
      sink = Some serve.new.sink;
      log = serve.new.logged.log;
      last = Some serve.result;
    } in
    let due : (c.args.is_ready || is_in_again_list c.args.self.now) ≡ true = search rules in
    let stays = sym c.if-is_failed.ensures in
    turn-served g.W.Write.contents (IsHandedBy g.S.Supply.record_of g.S.Supply.may_hand) c.args.dest.0 c.args.is_ready _ c.args.self.now end end c.in-Some.sink serve.new.sink serve.result _ _ serve.ensures.served.0
    c.self.view_is c.in-Some.is due serve.ensures.served.1 (rw stays refl) refl serve.ensures.limit refl

pub returns-then-not-is_due-clause-turn : goal.returns-then-not-is_due-clause-turn
returns-then-not-is_due-clause-turn g c =
    turn-passed g.W.Write.contents (IsHandedBy g.S.Supply.record_of g.S.Supply.may_hand) c.args.dest.0 c.args.is_ready c.args.self.now c.args.self.now _ refl (not-due c.args.is_ready c.args.self.now (sym c.if-not-is_due.ensures))

pub returns-in_default-clause-turn : goal.returns-in_default-clause-turn
returns-in_default-clause-turn g c =
    turn-passed g.W.Write.contents (IsHandedBy g.S.Supply.record_of g.S.Supply.may_hand) c.args.dest.0 c.args.is_ready c.args.self.now _ _ c.self.view_is (no-connection c.args.is_ready _ c.args.self.now c.self.view_is c.in_default.is)
