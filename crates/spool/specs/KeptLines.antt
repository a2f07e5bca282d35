-- Lines that wait in memory.
use Rattle.std.specs.Prelude.{◌≡◌, ℕ, List, ◌++◌}
use Rattle.backlog.specs.Lines.{whole_lines}
use Rattle.backlog.specs.Place.{Place}

pub record KeptState : Type 0 where
  -- what is left: neither in a file nor at the store
  pub left : List ℕ
  -- where in it the sending to the store stands
  pub sent : Place

-- whole lines came behind those that were left, and nothing else
pub record CameBehind (before after : List ℕ) : Type 0 where
  pub more : List ℕ
  pub whole : whole_lines more ≡ more
  pub behind : after ≡ before ++ more
