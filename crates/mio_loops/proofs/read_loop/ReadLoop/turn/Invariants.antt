use Rattle.std.proofs.Common.{◌≡◌, ◌<◌, ◌≤◌, List, Option, length}
use Rattle.reader_core.specs.Entries.{LoggedEntry}
use Rattle.mio_loops.specs.LoopState.{NoneForgotten}
use Rattle.queue_records.specs.Offers.{IsRefusedBy}
use Rattle.mio_loops.specs.LoopSteps.{NoneHeldBack}
use Rattle.mio_loops.specs.Reading.{ReaderOffer}
use Rattle.mio_loops.specs.ReadTurn.{is_ready}
use Rattle.mio_loops.specs.declared.served.Served.{Served}
use Rattle.mio_loops.proofs.ReadTurnLemmas.{TurnSoFar}
use Rattle.mio_loops.proofs.read_loop.ReadLoop.turn.Given as goal

-- the tokens so far
abbrev pub invariant-loop-token : goal.invariant-loop-token
invariant-loop-token g l = record {
  so_far : (answers : List (Option Served)) × (gained : List LoggedEntry) × (offered : List ReaderOffer)
      × TurnSoFar l.fn.plan g.S.Read.remaining l.moment (is_ready l.ready) l.token answers gained offered
      l.fn.self l.self (g.D.Door.record_of l.fn.door) (g.D.Door.record_of l.door) l.report;
  none_forgotten : 0 < l.token → NoneForgotten l.self;
  dests : l.fn.plan.destinations ≤ length (g.D.Door.record_of l.door).totals;
  plan : l.plan ≡ l.fn.plan;
  waits : NoneHeldBack (IsRefusedBy g.D.Door.may_refuse) l.fn.plan.destinations l.fn.self → NoneHeldBack (IsRefusedBy g.D.Door.may_refuse) l.fn.plan.destinations l.self;
}
