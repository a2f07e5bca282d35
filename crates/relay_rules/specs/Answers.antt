-- What reading a file of rules returns.
use Rattle.std.specs.Prelude.{◌≡◌, ℕ, Bool, false, List, ◌==◌, Result, Ok, Err}
use Rattle.patterns.specs.declared.case.Case.TheVariants.{Ignored}
use Rattle.patterns.specs.Pattern.{IsRefused}
use Rattle.relay_rules.specs.declared.fault.RuleFault.{RuleFault}
use Rattle.relay_rules.specs.declared.fault.RuleFault.TheVariants.{NoDestinations, PatternAndDefault, SecondDefault, NoDefault, BadPattern, BadTruth, BadDestination, NoMemory}

-- `regex` refused no text that is a pattern
abbrev pub none_refused : ℕ → Bool
none_refused number = false

-- or none but that of one section
abbrev pub only : ℕ → ℕ → Bool
only section number = number == section

-- The fault is the one that reading gives, unless memory ran out. That of a pattern is the one that reading gives if
-- `regex` refused it, and it refuses the pattern of such a section.
abbrev pub FailsReading : {Y : Type 0}
    → (ℕ → Type 0) → RuleFault → ((ℕ → Bool) → Result Y RuleFault) → Type 0
FailsReading Refuses (NoDestinations section) read =
    read none_refused ≡ Err (NoDestinations section)
FailsReading Refuses (PatternAndDefault section) read =
    read none_refused ≡ Err (PatternAndDefault section)
FailsReading Refuses (SecondDefault section) read = read none_refused ≡ Err (SecondDefault section)
FailsReading Refuses (NoDefault section) read = read none_refused ≡ Err (NoDefault section)
FailsReading Refuses (BadPattern section) read =
    (read (only section) ≡ Err (BadPattern section)) × Refuses section
FailsReading Refuses (BadTruth section) read = read none_refused ≡ Err (BadTruth section)
FailsReading Refuses (BadDestination section) read =
    read none_refused ≡ Err (BadDestination section)
FailsReading Refuses NoMemory read = Unit {0}

-- what a function returned is what reading gives, unless memory ran out or `regex` refused a pattern
abbrev pub GivesReading : {Y : Type 0}
    → (ℕ → Type 0) → Result Y RuleFault → ((ℕ → Bool) → Result Y RuleFault) → Type 0
GivesReading Refuses (Ok x) read = read none_refused ≡ Ok x
GivesReading Refuses (Err fault) read = FailsReading Refuses fault read

-- a pattern is refused as a pattern, or memory ran out
abbrev pub IsPatternFault : ℕ → List ℕ → RuleFault → Type 0
IsPatternFault number text (BadPattern section) = (section ≡ number) × IsRefused Ignored text
IsPatternFault number text NoMemory = Unit {0}
IsPatternFault number text fault = ⊥
