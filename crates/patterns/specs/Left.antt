-- What is left to be written, on the way from match to match.
use Rattle.std.specs.Prelude.{ℕ, ◌-◌, true, List, ◌++◌}
use Rattle.regex.specs.Patterns.{Re}
use Rattle.regex.specs.Replace.{bytes_of, group_bytes, replaced_by}
use Rattle.regex.specs.Search.{matches_after}
use Rattle.regex.specs.Strings.{captures_haystack, captures_span}
use Rattle.regex.specs.declared.string.captures.Captures.{Captures}
use Rattle.patterns.specs.declared.part.Part.{Part}
use Rattle.patterns.specs.Replacement.{replacement_text}

-- where the match of captures starts, and where it ends
abbrev pub start_of : Captures → ℕ
start_of captures = captures.whole.start

abbrev pub end_of : Captures → ℕ
end_of captures = captures.whole.end

-- what captures have of a group
abbrev pub group_text : Captures → ℕ → List ℕ
group_text captures n = bytes_of (captures_haystack captures) (captures_span captures n)

-- what is written, with the rest of the text; `after` is the end of the last match plus one, or 0 before the first
unfoldable pub with_left : Re → List Part → List ℕ → List ℕ → ℕ → List ℕ
with_left re parts text out after =
    out ++ replaced_by
    (λ m. replacement_text parts (group_bytes text m)) text (after - 1)
    (matches_after true re text after)
