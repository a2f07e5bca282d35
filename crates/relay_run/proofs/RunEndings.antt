-- How the parts of a run's end make the whole.
use Rattle.std.proofs.Common.{◌≡◌, ◌⊎◌, inl, inr, ℕ, Bool, true, false, List, [], Option, Result, Ok, Err, IsErrOf, OnOk, IfOk, IfErr, refl, sym, subst, ◌∙◌, append-nil}
use Rattle.std.specs.Io.KnownBytes.{Appends}
use Rattle.locked_queues.specs.declared.settled.Settled.{Settled}
use Rattle.locked_queues.specs.declared.settled.SettleFault.{SettleFault}
use Rattle.locked_queues.specs.declared.settled.SettleFault.TheVariants as settle
use Rattle.mio_loops.specs.declared.readiness.ReadinessFault.{ReadinessFault}
use Rattle.mio_loops.specs.declared.readiness.ReadinessFault.TheVariants as readiness
use Rattle.relay_base.proofs.Growth.{Appends-then}
use Rattle.relay_files.proofs.BytesLemmas.{Appends-kept, Keeps-self, GrowsByPart-behind}
use Rattle.relay_files.specs.Output.{GrowsByPart}
use Rattle.relay_files.specs.declared.fault.RelayFault.{RelayFault}
use Rattle.relay_files.specs.declared.fault.RelayFault.TheVariants.{NoMemory}
use Rattle.relay_ports.specs.StartFault.{is_start_fault}
use Rattle.relay_run.specs.Closing.{closing_line, output_fault}
use Rattle.relay_run.specs.AfterRun.{IfStopped, IfFollowed}
use Rattle.relay_run.specs.declared.run_command.NextRun.{NextRun}
use Rattle.relay_run.specs.declared.run_command.AfterRun.{AfterRun}
use Rattle.relay_run.specs.declared.run_command.AfterRun.TheVariants as end
use Rattle.relay_files.specs.declared.fault.Status.{Status}
use Rattle.run_threads.proofs.ServedLemmas.{Served-part}
use Rattle.run_threads.specs.Served.{ready_line, opening, is_output_fault, Served}
use Rattle.relay_run.specs.Running.{run_text, FailsBeforeClosing, ClosesWith, IsThreadFault, RunEnds, RunFails, AtStart, AtLines, OfThread, RelayFails}

-- the fault of a sender that cannot begin is one of the start
pub starts-output : (fault : ReadinessFault) → is_start_fault (output_fault fault) ≡ true
starts-output readiness.Device = refl
starts-output readiness.NoMemory = refl

-- a fault of the start, with nothing written
pub fails-at_start : (begins : List ℕ) (held : Option (List ℕ)) (fault : RelayFault) → is_start_fault fault ≡ true → RunFails begins held held fault
fails-at_start begins held fault is = AtStart is (Keeps-self held)

-- the opening, by another word for whether no run was before
pub opens-as : (a b : Option (List ℕ)) (is same : Bool) → is ≡ same → Appends a b (opening is) → Appends a b (opening same)
opens-as a b is same e wrote = subst (λ (is_first : Bool). Appends a b (opening is_first)) e wrote

-- the opening and the closing line, one after the other
pub writes-both : (begins : List ℕ) (a b c : Option (List ℕ)) (settled : Result Settled SettleFault) → Appends a b begins → Appends b c (closing_line settled) → Appends a c (run_text begins settled)
writes-both begins a b c settled opened line = Appends-then a b c begins (closing_line settled) opened line

-- a fault before the closing line is one of the run
pub fails-early : (begins : List ℕ) (a b : Option (List ℕ)) (fault : RelayFault) → FailsBeforeClosing begins a b fault → RunFails begins a b fault
fails-early begins a b fault (inl start) = AtStart start.0 start.1
fails-early begins a b fault (inr part) =
    AtLines (Err settle.NoMemory) part.0 (subst (GrowsByPart a b) (sym (append-nil begins)) part.1)

-- and so is one of the closing
pub fails-closing : (begins : List ℕ) (a b c : Option (List ℕ)) (settled : Result Settled SettleFault) (thread : Option RelayFault) (fault : RelayFault) → Appends a b begins → IsThreadFault thread → ClosesWith b c settled thread fault → RunFails begins a c fault
fails-closing begins a b c settled thread fault opened left (inl part) =
    AtLines settled part.0 (GrowsByPart-behind a b c begins (closing_line settled) [] (run_text begins settled) opened part.1 (sym (append-nil (run_text begins settled))))
fails-closing begins a b c settled thread fault opened left (inr known) =
    OfThread settled left.0 left.1 (sym left.2 ∙ known.0) (writes-both begins a b c settled opened known.1)

-- ---- one run after another

-- what runs have written before one: nothing before the first, and before the others that the relay is ready
abbrev pub Begun : (is_first : Bool) → (before after : Option (List ℕ)) → Type 0
Begun true before after = before ≡ after
Begun false before after = Appends before after ready_line

pub begun-next : (is_first : Bool) (a b c : Option (List ℕ)) → Begun is_first a b → Appends b c (opening is_first) → Appends a c ready_line
begun-next true a b c same wrote = subst (λ (o : Option (List ℕ)). Appends o c ready_line) (sym same) wrote
begun-next false a b c wrote nothing = subst (Appends a c) (append-nil ready_line) (Appends-then a b c ready_line [] wrote nothing)

pub ends-last : (is_first : Bool) (a b c : Option (List ℕ)) (status : Status) → Begun is_first a b → RunEnds (opening is_first) b c status → RunEnds ready_line a c status
ends-last true a b c status same ends = subst (λ (o : Option (List ℕ)). RunEnds ready_line o c status) (sym same) ends
ends-last false a b c status wrote ends =
    record {
      settled = ends.settled;
      wrote = Appends-then a b c ready_line (closing_line ends.settled) wrote ends.wrote;
      says = ends.says;
    }

pub fails-last : (is_first : Bool) (a b c : Option (List ℕ)) (fault : RelayFault) → Begun is_first a b → RunFails (opening is_first) b c fault → RelayFails a c fault
fails-last true a b c fault same fails = inl (subst (λ (o : Option (List ℕ)). RunFails ready_line o c fault) (sym same) fails)
fails-last false a b c fault wrote (AtStart is keeps) = inr (is, Appends-kept a b c ready_line wrote keeps)
fails-last false a b c fault wrote (AtLines settled is part) =
    inl (AtLines settled is (GrowsByPart-behind a b c ready_line (closing_line settled) [] (run_text ready_line settled) wrote part (sym (append-nil (run_text ready_line settled)))))
fails-last false a b c fault wrote (OfThread settled receivers senders is closed) =
    inl (OfThread settled receivers senders is (Appends-then a b c ready_line (closing_line settled) wrote closed))

-- ---- a fault before the closing line

-- of the start
pub fails-unwritten : (begins : List ℕ) (held : Option (List ℕ)) (fault : RelayFault) → is_start_fault fault ≡ true → FailsBeforeClosing begins held held fault
fails-unwritten begins held fault is = inl (is, Keeps-self held)

-- of the first thread, or of memory after it
pub fails-served : (begins : List ℕ) (a b : Option (List ℕ)) (served : Result (Unit {0}) RelayFault) (fault : RelayFault) → Served begins a b served → IsErrOf served fault ⊎ (fault ≡ NoMemory) → FailsBeforeClosing begins a b fault
fails-served begins a b (Ok done) fault wrote (inl is) = absurd (cc)
fails-served begins a b (Err kind) fault fails (inl is) =
    let same : kind ≡ fault = cc in
    inr (subst (λ (f : RelayFault). is_output_fault f ≡ true) same fails.0, fails.1)
fails-served begins a b served fault wrote (inr is) =
    inr (subst (λ (f : RelayFault). is_output_fault f ≡ true) (sym is) refl, Served-part begins a b served wrote)

-- ---- how a run ended

module _ {A E : Type 0} where
  pub err-is : (r : Result A E) (holds : E → Type 0) (fault : E) → r ≡ Err fault → IfErr r holds → holds fault
  err-is r holds fault is h = subst (λ (t : Result A E). IfErr t holds) is h

  pub ok-is : (r : Result A E) (holds : A → Type 0) (value : A) → r ≡ Ok value → IfOk r holds → holds value
  ok-is r holds value is h = subst (λ (t : Result A E). IfOk t holds) is h

  pub on_ok-is : (r : Result A E) (holds : Type 0) (value : A) → r ≡ Ok value → OnOk r holds → holds
  on_ok-is r holds value is on = subst (λ (t : Result A E). OnOk t holds) is on

module _ {L : Type 0} where
  pub stopped-is : (e : AfterRun L) (holds : Status → Type 0) (status : Status) → e ≡ end.Stopped status → IfStopped e holds → holds status
  stopped-is e holds status is h = subst (λ (t : AfterRun L). IfStopped t holds) is h

  pub followed-is : (e : AfterRun L) (holds : NextRun L → Type 0) (next : NextRun L) → e ≡ end.Followed next → IfFollowed e holds → holds next
  followed-is e holds next is h = subst (λ (t : AfterRun L). IfFollowed t holds) is h

  pub stopped-weaker : (e : AfterRun L) (holds more : Status → Type 0) → ((status : Status) → holds status → more status) → IfStopped e holds → IfStopped e more
  stopped-weaker (end.Stopped status) holds more weaker is = weaker status is
  stopped-weaker (end.Followed next) holds more weaker is = tt

  pub never-followed : (e : AfterRun L) (more : NextRun L → Type 0) → IfFollowed e (λ next. ⊥) → IfFollowed e more
  never-followed (end.Stopped status) more never = tt
  never-followed (end.Followed next) more never = absurd never
