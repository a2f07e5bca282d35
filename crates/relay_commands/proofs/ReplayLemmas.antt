-- What `replay` writes for files and a script.
use Rattle.std.proofs.Common.{◌≡◌, ◌⊎◌, inl, inr, Ok, Err, refl, ap, sym}
use Rattle.std.specs.Prelude.{Option, Result, IsErrAnd, IfErr}
use Rattle.std.proofs.lemmas.Result.{err_from_is_err_and}
use Rattle.replay.specs.ScriptText.{ScriptText, script_of}
use Rattle.replay.specs.declared.script_fault.ScriptFault.{ScriptFault}
use Rattle.replay.specs.declared.script_fault.ScriptFault.TheVariants as script
use Rattle.relay_base.specs.Memory.{Fails as FailsOrMemory}
use Rattle.relay_files.specs.declared.role.Role.TheVariants.{Script as TheScript}
use Rattle.relay_files.specs.declared.fault.RelayFault.{RelayFault}
use Rattle.relay_files.specs.declared.fault.RelayFault.TheVariants.{NoMemory, CannotRead}
use Rattle.relay_files.specs.declared.source.Sources.{Sources}
use Rattle.relay_files.specs.Files.{File, Unreadable, Bytes, Files, ReadAs, AllReadAs}
use Rattle.relay_files.specs.Configuration.{Configuration, configuration_of, files_of, text_in}
use Rattle.relay_files.specs.declared.configuration.Configuration.{Configuration as ReadConfiguration}
use Rattle.relay_files.specs.Faults.{Fails, EndsAt}
use Rattle.relay_commands.specs.Replay.{EndsAtScript, AtFiles, script_fault, script_in, lines_in, text_of_replay, text_of_lines, replay_answer, replay_lines_answer}
use Rattle.replay.specs.declared.handed_form.HandedForm.{HandedForm}
use Rattle.std.proofs.Common.{List, ℕ}

-- what was read from the files, as definitions see it
abbrev pub configuration_seen : ReadConfiguration → Configuration
configuration_seen read =
    record {
      settings = read.settings;
      plan = read.plan;
      files = files_of (λ v. v.items) read.config read.rules read.rewrite;
    }

-- a command that ends at its files has not read its script
pub ends_at_files : {S T X U : Type 0} (known : S → Option (List ℕ)) (bytes : Option (List ℕ)) (old new : Sources S) (given : T) (script : File → Result X RelayFault) (reported : RelayFault) (result : Result U RelayFault)
    → IsErrAnd result (λ fault. fault ≡ reported) → AllReadAs known old (λ files. EndsAt old new files reported)
    → IfErr result (λ fault. AllReadAs known old (λ files. ReadAs bytes (λ file. EndsAtScript old new given given fault files (script file))))
ends_at_files known bytes old new given script reported result is read =
    let end = err_from_is_err_and result is in
    rw (end.1, end.2) (read.0, read.1, (Unreadable, tt, AtFiles read.2 refl))

pub script_unread : (fault : RelayFault) → (fault ≡ NoMemory) ⊎ (fault ≡ CannotRead TheScript) → Fails (script_in Unreadable) fault
script_unread fault (inl memory) = inl memory
script_unread fault (inr device) = inr (ap (λ (f : RelayFault). let r : Result ScriptText RelayFault = Err f in r) (sym device))

-- a script that cannot be read
pub script_fails : (file : File) (text : List ℕ) → text_in TheScript file ≡ Ok text → (fault : ScriptFault)
    → FailsOrMemory script.NoMemory (script_of text) fault → Fails (script_in file) (script_fault fault)
script_fails file text is fault (inl memory) = inl (ap script_fault memory)
script_fails file text is fault (inr read) = inr (rw (is, read) refl)

pub replay_is : (form : HandedForm) (files : Files) (file : File) (c : Configuration) (reported : ScriptText) → configuration_of files ≡ Ok c → script_in file ≡ Ok reported
    → replay_answer form files file ≡ Ok (text_of_replay form c reported)
replay_is form files file c reported configured read = rw (configured, read) refl

pub lines_unread : (fault : RelayFault) → (fault ≡ NoMemory) ⊎ (fault ≡ CannotRead TheScript) → Fails (lines_in Unreadable) fault
lines_unread fault (inl memory) = inl memory
lines_unread fault (inr device) = inr (ap (λ (f : RelayFault). let r : Result (List ℕ) RelayFault = Err f in r) (sym device))

pub replay_lines_is : (form : HandedForm) (files : Files) (c : Configuration) (lines : List ℕ) → configuration_of files ≡ Ok c
    → replay_lines_answer form files (Bytes lines) ≡ Ok (text_of_lines form c lines)
replay_lines_is form files c lines configured = rw configured refl
