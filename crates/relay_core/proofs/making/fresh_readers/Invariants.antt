use Rattle.std.proofs.Common.{take}
use Rattle.std.specs.List.{AllZip}
use Rattle.relay_core.specs.WorldModel.{IsFresh}
use Rattle.relay_core.proofs.making.fresh_readers.Given as goal

-- a reader of each kind so far
abbrev pub invariant-loop-kind : goal.invariant-loop-kind
invariant-loop-kind l = AllZip IsFresh l.readers.items (take l.kind-index l.kinds)
