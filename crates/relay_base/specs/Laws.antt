-- Laws above the definitions.
use Rattle.std.specs.Prelude.{◌≡◌, ℕ, true, List}
use Rattle.relay_base.specs.declared.dest_id.DestId.{DestId}
use Rattle.relay_base.specs.DestIds.{are_below, first_mentions, NamesEachOnce}

-- first mentions name each index once
abbrev pub FirstMentionsNameEachOnce : Type 0
FirstMentionsNameEachOnce = (ids : List DestId) → NamesEachOnce (first_mentions ids)

-- first mentions are indices below the same number of destinations as the list
abbrev pub FirstMentionsStayBelow : Type 0
FirstMentionsStayBelow =
    (count : ℕ) (ids : List DestId) → are_below count ids ≡ true
    → are_below count (first_mentions ids) ≡ true
