-- What is written for the files of a configuration and a name or a file of names.
use Rattle.std.proofs.Common.{◌≡◌, ℕ, false, List, Option, Result, Ok, Err, inl, inr, ◌⊎◌, ap, sym}
use Rattle.std.specs.Io.KnownBytes.{Appends}
use Rattle.line_text.specs.Name.{is_name}
use Rattle.relay_files.specs.declared.role.Role.TheVariants.{Names}
use Rattle.relay_files.specs.declared.fault.RelayFault.{RelayFault}
use Rattle.relay_files.specs.declared.fault.RelayFault.TheVariants.{NoMemory, CannotRead, BadName}
use Rattle.relay_files.specs.declared.source.Sources.{Sources}
use Rattle.relay_files.specs.Files.{Unreadable, Bytes, Files}
use Rattle.relay_files.specs.Configuration.{Configuration, configuration_of}
use Rattle.relay_files.specs.Faults.{Fails, AtAnswer}
use Rattle.relay_files.specs.Output.{Writes}
use Rattle.relay_commands.specs.Faults.{EndsAtName}
use Rattle.relay_commands.specs.Names.{names_in, names_output, notes_of_names, names_answer, names_notes_answer}

-- ---- a name

pub name_fails : {S : Type 0} (old new : Sources S) (files : Files) (c : Configuration) → configuration_of files ≡ Ok c → (text : List ℕ) (fault : RelayFault)
    → (fault ≡ NoMemory) ⊎ ((fault ≡ BadName) × (is_name text ≡ false)) → EndsAtName old new text fault files
name_fails old new files c is text fault (inl memory) = inl (AtAnswer c is memory)
name_fails old new files c is text fault (inr bad) = inr (record { configuration = c; is_read = is; is_none = bad.1; is_bad_name = bad.0 })

-- ---- the file of names

pub names_unread : (fault : RelayFault) → (fault ≡ NoMemory) ⊎ (fault ≡ CannotRead Names) → Fails (names_in Unreadable) fault
names_unread fault (inl memory) = inl memory
names_unread fault (inr device) = inr (ap (λ (f : RelayFault). let r : Result (List ℕ) RelayFault = Err f in r) (sym device))

-- what is written under a configuration is the answer of its files
pub names_written : (files : Files) (c : Configuration) (text : List ℕ) (old new : Option (List ℕ)) → configuration_of files ≡ Ok c
    → Appends old new (names_output c text) → Writes old new (names_answer files (Bytes text))
names_written files c text old new read written = rw read written

pub names_noted : (files : Files) (c : Configuration) (text : List ℕ) (old new : Option (List ℕ)) → configuration_of files ≡ Ok c
    → Appends old new (notes_of_names text) → Writes old new (names_notes_answer files (Bytes text))
names_noted files c text old new read written = rw read written
