-- The sections of a configuration file.
use Rattle.std.specs.Prelude.{ℕ, Bool, List, Option, option_map, option_and_then, find}
use Rattle.std.specs.List.{list_any}
use Rattle.std.specs.Str.{bytes_eq}

-- a key and its value
pub record Pair : Type 0 where
  pub key : List ℕ
  pub value : List ℕ

-- a section's name and its pairs, in the order of the file
pub record SectionText : Type 0 where
  pub name : List ℕ
  pub pairs : List Pair

-- whether one of the pairs has the key
abbrev pub has_key : List ℕ → List Pair → Bool
has_key key pairs = list_any (λ p. bytes_eq key p.key) pairs

-- whether one of the sections has the name
abbrev pub has_section : List ℕ → List SectionText → Bool
has_section name sections = list_any (λ s. bytes_eq name s.name) sections

-- the value of a key
abbrev pub value_of : List ℕ → List Pair → Option (List ℕ)
value_of key pairs = option_map (λ p. p.value) (find (λ p. bytes_eq key p.key) pairs)

-- the section of a name
abbrev pub section_named : List ℕ → List SectionText → Option SectionText
section_named name sections = find (λ s. bytes_eq name s.name) sections

-- the value of a key in the section of a name
abbrev pub value_in : List ℕ → List ℕ → List SectionText → Option (List ℕ)
value_in name key sections =
    option_and_then (λ s. value_of key s.pairs) (section_named name sections)
