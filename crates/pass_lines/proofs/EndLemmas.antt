-- What a writer has gained where a command ends, if the bytes of its input are known.
use Rattle.std.proofs.Common.{◌≡◌, ℕ, List, [], Option, Some, None, take, subst}
use Rattle.std.specs.Prelude.{IfSome}
use Rattle.std.specs.Io.KnownBytes.{Appends, Keeps}
use Rattle.relay_files.specs.Output.{GrowsByPart}
use Rattle.relay_files.proofs.BytesLemmas.{Appends-nothing, Appends-kept}

-- nothing is a first part of each text
pub part-of_nothing : (r a b : Option (List ℕ)) (text : List ℕ → List ℕ) → Keeps a b → IfSome r (λ bytes. GrowsByPart a b (text bytes))
part-of_nothing None a b text kept = tt
part-of_nothing (Some bytes) a b text kept = (0, Appends-kept a a b [] (Appends-nothing a) kept)

-- what was gained before a flush is gained after it
pub part-flushed : (r a b c : Option (List ℕ)) (text : List ℕ → List ℕ) → IfSome r (λ bytes. GrowsByPart a b (text bytes)) → Keeps b c → IfSome r (λ bytes. GrowsByPart a c (text bytes))
part-flushed None a b c text part kept = tt
part-flushed (Some bytes) a b c text part kept = (part.0, Appends-kept a b c (take part.0 (text bytes)) part.1 kept)

pub all-flushed : (r a b c : Option (List ℕ)) (text : List ℕ → List ℕ) → IfSome r (λ bytes. Appends a b (text bytes)) → Keeps b c → IfSome r (λ bytes. Appends a c (text bytes))
all-flushed None a b c text all kept = tt
all-flushed (Some bytes) a b c text all kept = Appends-kept a b c (text bytes) all kept

-- the note of the end is that of the input
pub part-of_note : (r a b : Option (List ℕ)) (note : List ℕ) (text : List ℕ → List ℕ) → IfSome r (λ bytes. note ≡ text bytes) → GrowsByPart a b note → IfSome r (λ bytes. GrowsByPart a b (text bytes))
part-of_note None a b note text is part = tt
part-of_note (Some bytes) a b note text is part = subst (GrowsByPart a b) is part

pub all-of_note : (r a b : Option (List ℕ)) (note : List ℕ) (text : List ℕ → List ℕ) → IfSome r (λ bytes. note ≡ text bytes) → Appends a b note → IfSome r (λ bytes. Appends a b (text bytes))
all-of_note None a b note text is all = tt
all-of_note (Some bytes) a b note text is all = subst (Appends a b) is all
