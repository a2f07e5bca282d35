-- What a replacement writes in the place of a match.
use Rattle.std.specs.Prelude.{ℕ, List, Option, option_map, unwrap_or, flat_map, encode_utf8, String, string_bytes}
use Rattle.regex.specs.Replace.{group_bytes, replaced_by}
use Rattle.patterns.specs.declared.part.Part.{Part}
use Rattle.patterns.specs.declared.part.Part.TheVariants.{Character, Group}
use Rattle.patterns.specs.Pattern.{PatternText, matches_of}

-- what a part writes, if the match gave its groups these texts
abbrev pub part_bytes : (ℕ → List ℕ) → Part → List ℕ
part_bytes text_of (Character c) = encode_utf8 c
part_bytes text_of (Group n) = text_of n

-- what a replacement writes in the place of a match
abbrev pub replacement_text : List Part → (ℕ → List ℕ) → List ℕ
replacement_text parts text_of = flat_map (part_bytes text_of) parts

-- the text with the replacement in the place of each match
abbrev pub replaced_text : PatternText → List Part → List ℕ → List ℕ
replaced_text pattern parts text =
    replaced_by (λ m. replacement_text parts (group_bytes text m)) text 0 (matches_of pattern text)

-- a text if there is one, or else the text that was given
abbrev pub text_or : {A : Type 0} → List ℕ → Option (String A) → List ℕ
text_or given text = unwrap_or (option_map string_bytes text) given
