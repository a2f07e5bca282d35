-- What the first thread writes, and what is kept of how it served.
use Rattle.std.proofs.Common.{◌≡◌, ◌⊎◌, inl, inr, ℕ, Bool, true, false, if◌then◌else◌, true≢false, List, Option, Result, Ok, Err, IsOk, OnOk, IfErr, refl, sym, subst}
use Rattle.std.specs.Io.KnownBytes.{Appends}
use Rattle.relay_files.proofs.BytesLemmas.{Appends-nothing, part-of_written}
use Rattle.relay_files.specs.Output.{GrowsByPart}
use Rattle.relay_files.specs.declared.fault.RelayFault.{RelayFault}
use Rattle.relay_files.specs.declared.fault.RelayFault.TheVariants.{Output, NoMemory}
use Rattle.run_threads.specs.Served.{is_output_fault, Served}

pub Served-of : (begins : List ℕ) (a b : Option (List ℕ)) (served : Result (Unit {0}) RelayFault) → OnOk served (Appends a b begins) → IfErr served (λ fault. (fault ≡ Output) × GrowsByPart a b begins) → Served begins a b served
Served-of begins a b (Ok done) whole part = whole
Served-of begins a b (Err fault) whole part =
    (subst (λ (f : RelayFault). is_output_fault f ≡ true) (sym part.0) refl, part.1)

-- nothing, where a thread had not the memory to begin
pub Served-nothing : (begins : List ℕ) (a : Option (List ℕ)) → Served begins a a (Err NoMemory)
Served-nothing begins a = (refl, (0, Appends-nothing a))

-- a first part of the opening
pub Served-part : (begins : List ℕ) (a b : Option (List ℕ)) (served : Result (Unit {0}) RelayFault) → Served begins a b served → GrowsByPart a b begins
Served-part begins a b (Ok done) wrote = part-of_written a b begins wrote
Served-part begins a b (Err fault) fails = fails.1

-- all of it, where it served until the run was to end
pub Served-whole : (begins : List ℕ) (a b : Option (List ℕ)) (served : Result (Unit {0}) RelayFault) → Served begins a b served → IsOk served → Appends a b begins
Served-whole begins a b (Ok done) wrote is = wrote
Served-whole begins a b (Err fault) wrote is = absurd (true≢false (sym is))

-- what receivers and senders left was kept, or memory ran out
pub kept-both : (served : Result (Unit {0}) RelayFault) (receivers senders : Bool) → ((if senders then (if receivers then served else Err NoMemory) else Err NoMemory) ≡ served) ⊎ ((if senders then (if receivers then served else Err NoMemory) else Err NoMemory) ≡ Err NoMemory)
kept-both served true true = inl refl
kept-both served false true = inr refl
kept-both served receivers false = inr refl

pub Served-kept : (begins : List ℕ) (a b : Option (List ℕ)) (served kept : Result (Unit {0}) RelayFault) → Served begins a b served → (kept ≡ served) ⊎ (kept ≡ Err NoMemory) → Served begins a b kept
Served-kept begins a b served kept wrote (inl is) = subst (λ (r : Result (Unit {0}) RelayFault). Served begins a b r) (sym is) wrote
Served-kept begins a b served kept wrote (inr is) =
    subst (λ (r : Result (Unit {0}) RelayFault). Served begins a b r) (sym is) (refl, Served-part begins a b served wrote)
