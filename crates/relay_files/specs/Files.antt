-- The files that a command reads, as what was read of them.
use Rattle.std.specs.Prelude.{◌≡◌, ℕ, List, ⊤, Option, Some, None, IfSome}
use Rattle.relay_files.specs.declared.source.Sources.{Sources}

-- a file: it could not be read, or its bytes
pub data File : Type 0 where
  Unreadable : File
  Bytes : List ℕ → File

-- the files of a configuration
pub record Files : Type 0 where
  pub config : File
  pub rules : Option File
  pub rewrite : Option File

-- ---- what is read of a source: its bytes, if they are known, unless reading failed

abbrev pub IsReadOf : Option (List ℕ) → File → Type 0
IsReadOf known Unreadable = ⊤
IsReadOf known (Bytes bytes) = IfSome known (λ all. bytes ≡ all)

abbrev pub IsReadOfGiven : {S : Type 0} → (S → Option (List ℕ)) → Option S → Option File → Type 0
IsReadOfGiven known None None = ⊤
IsReadOfGiven known None (Some file) = ⊥
IsReadOfGiven known (Some source) None = ⊥
IsReadOfGiven known (Some source) (Some file) = IsReadOf (known source) file

pub record AreReadOf {S : Type 0} (known : S → Option (List ℕ)) (sources : Sources S)
    (files : Files) : Type 0 where
  pub config : IsReadOf (known sources.config) files.config
  pub rules : IsReadOfGiven known sources.rules files.rules
  pub rewrite : IsReadOfGiven known sources.rewrite files.rewrite

-- a statement holds for what was read from a source
abbrev pub ReadAs : Option (List ℕ) → (File → Type 0) → Type 0
ReadAs known P = (file : File) × IsReadOf known file × P file

abbrev pub GivenReadAs : {S : Type 0} → (S → Option (List ℕ)) → Option S → (Option File → Type 0)
    → Type 0
GivenReadAs known source P = (file : Option File) × IsReadOfGiven known source file × P file

abbrev pub AllReadAs : {S : Type 0} → (S → Option (List ℕ)) → Sources S → (Files → Type 0) → Type 0
AllReadAs known sources P = (files : Files) × AreReadOf known sources files × P files
