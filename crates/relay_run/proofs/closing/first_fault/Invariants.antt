use Rattle.std.proofs.Common.{◌≡◌, map, drop}
use Rattle.relay_run.specs.Running.{first_fault}
use Rattle.relay_run.proofs.closing.first_fault.Given as goal

-- those before have none
abbrev pub invariant-loop-end : goal.invariant-loop-end
invariant-loop-end g l =
    first_fault (map (λ end. end.fault) (drop l.end-index l.ends)) ≡ first_fault (map (λ end. end.fault) l.ends)
