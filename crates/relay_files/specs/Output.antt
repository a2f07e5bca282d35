-- What a writer gains.
use Rattle.std.specs.Prelude.{◌≡◌, ℕ, List, take, Option, Result, Ok, Err}
use Rattle.std.specs.Io.KnownBytes.{Appends}
use Rattle.relay_files.specs.declared.fault.RelayFault.{RelayFault}
use Rattle.relay_files.specs.declared.fault.RelayFault.TheVariants.{Output}

-- a writer's known bytes grow by a first part of a text
abbrev pub GrowsByPart : Option (List ℕ) → Option (List ℕ) → List ℕ → Type 0
GrowsByPart old new text = (count : ℕ) × Appends old new (take count text)

-- a writer's known bytes grow by the text that is due, and there is one
abbrev pub Writes : Option (List ℕ) → Option (List ℕ) → Result (List ℕ) RelayFault → Type 0
Writes old new (Ok text) = Appends old new text
Writes old new (Err fault) = ⊥

-- a writer that failed gained a first part of the text that was due, and there was one
abbrev pub OutputFails : Option (List ℕ) → Option (List ℕ) → Result (List ℕ) RelayFault
    → RelayFault → Type 0
OutputFails old new (Ok text) fault = (fault ≡ Output) × GrowsByPart old new text
OutputFails old new (Err other) fault = ⊥
