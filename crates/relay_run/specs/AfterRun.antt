-- How one of several runs of a process ended.
use Rattle.std.specs.Prelude.{◌≡◌, ⊤, ℕ, Bool, false, List, Option, Result, IfOk, IfErr}
use Rattle.std.specs.Io.KnownBytes.{Appends}
use Rattle.std.specs.Option.{is_none}
use Rattle.relay_files.specs.declared.fault.RelayFault.{RelayFault}
use Rattle.relay_files.specs.declared.fault.Status.{Status}
use Rattle.relay_run.specs.Running.{RunEnds, RunFails}
use Rattle.relay_run.specs.declared.run_command.NextRun.{NextRun}
use Rattle.relay_run.specs.declared.run_command.AfterRun.{AfterRun}
use Rattle.relay_run.specs.declared.run_command.AfterRun.TheVariants as end

module _ {L : Type 0} where
  -- what holds of the status, if the run was stopped
  abbrev pub IfStopped : AfterRun L → (Status → Type 0) → Type 0
  IfStopped (end.Stopped status) holds = holds status
  IfStopped (end.Followed next) holds = ⊤

  -- what holds of the next run, if one follows
  abbrev pub IfFollowed : AfterRun L → (NextRun L → Type 0) → Type 0
  IfFollowed (end.Stopped status) holds = ⊤
  IfFollowed (end.Followed next) holds = holds next

-- a run that writes this opening once its threads have begun ended so
pub record EndsARun {L : Type 0} (opening : List ℕ) (before after : Option (List ℕ)) (end : Result (AfterRun L) RelayFault) : Type 0 where
  -- it was stopped
  pub stopped : IfOk end (λ e. IfStopped e (RunEnds opening before after))
  -- another one follows, for which a connection waits: nothing but the opening was written
  pub followed : IfOk end (λ e. IfFollowed e (λ next. Appends before after opening × (is_none next.before.waiting ≡ false)))
  -- it failed
  pub err : IfErr end (RunFails opening before after)
