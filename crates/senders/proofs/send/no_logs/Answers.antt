use Rattle.std.proofs.Common.{sym, subst}
use Rattle.senders.specs.Record.{AreNone}
use Rattle.senders.proofs.RecordLemmas.{none-pushed, none-none}
use Rattle.senders.proofs.send.no_logs.Goals as goal

pub loop-init : goal.loop-init
loop-init c = subst AreNone (sym c.new-logs.ensures.items) none-none

pub loop-preserved : goal.loop-preserved
loop-preserved c =
    none-pushed _ c.loop.logs.items c.push.new.self.items c.none.result c.push.ensures.items c.none.ensures c.loop.invariant
