-- The answer to `files`: which files a relay reads at a reload.
use Rattle.std.specs.Prelude.{ℕ, List, [], ◌∷◌, ◌++◌, ◌&&◌, Bool, not, length, take, nat_le, codes, Option, None, Some, option_map, if◌then◌else◌}
use Rattle.std.specs.List.{slice_split, list_any}
use Rattle.std.specs.Str.{is_utf8, bytes_eq}
use Rattle.admin_client.specs.AdminCommand.{is_newline}
use Rattle.admin_client.specs.ReloadAnswer.{behind}

-- the first of two that is there
abbrev pub or_later : Option (List ℕ) → Option (List ℕ) → Option (List ℕ)
or_later (Some found) later = Some found
or_later None later = later

-- what is behind these words in the first line that begins with them
abbrev pub first_behind : (words : List ℕ) → List (List ℕ) → Option (List ℕ)
first_behind words [] = None
first_behind words (line ∷ others) = or_later (behind words line) (first_behind words others)

-- the value that an answer has under these words
abbrev pub value_in : (words sent : List ℕ) → Option (List ℕ)
value_in words sent = first_behind words (slice_split is_newline sent)

-- the text that bytes are, if they are UTF-8
abbrev pub valid_text : Option (List ℕ) → Option (List ℕ)
valid_text None = None
valid_text (Some bytes) = if is_utf8 bytes then Some bytes else None

-- the text that an answer has under these words
abbrev pub text_in : (words sent : List ℕ) → Option (List ℕ)
text_in words sent = valid_text (value_in words sent)

-- the paths of the files, and the limit on names that comes with them
pub record FileNames : Type 0 where
  pub config : List ℕ
  pub rules : Option (List ℕ)
  pub rewrite : Option (List ℕ)
  pub longest_name : Option (List ℕ)

-- the files that an answer names, if it names a configuration file
abbrev pub files_in : (sent : List ℕ) → Option FileNames
files_in sent = option_map (λ config. record {
  config = config;
  rules = text_in (codes "rules ") sent;
  rewrite = text_in (codes "rewrite ") sent;
  longest_name = text_in (codes "longest-name ") sent;
}) (text_in (codes "config ") sent)

-- the line of a value, if there is one
abbrev pub value_line : (words : List ℕ) → Option (List ℕ) → List ℕ
value_line words None = []
value_line words (Some value) = words ++ value ++ codes "\n"

-- the answer that names these files
abbrev pub answer_of : FileNames → List ℕ
answer_of files =
    value_line (codes "config ") (Some files.config)
    ++ value_line (codes "rules ") files.rules
    ++ value_line (codes "rewrite ") files.rewrite
    ++ value_line (codes "longest-name ") files.longest_name

-- a path can be named: from the root on, at most 4,096 bytes, and no newline
abbrev pub can_be_named : (path : List ℕ) → Bool
can_be_named path =
    bytes_eq (take 1 path) (codes "/") && nat_le (length path) 4096 && not (list_any is_newline path)
