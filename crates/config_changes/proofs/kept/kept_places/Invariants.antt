use Rattle.std.proofs.Common.{◌≡◌, map, option_map, take}
use Rattle.std.specs.Vec.{vec_len, vec_capacity}
use Rattle.config_changes.specs.Kept.{kept_places}
use Rattle.config_changes.proofs.kept.kept_places.Given as goal

-- the places of the first destinations are there
abbrev pub invariant-loop-dest : goal.invariant-loop-dest
invariant-loop-dest l = record {
  count : vec_len l.places ≡ l.dest-index;
  places : map (λ place. option_map (λ id. id.0) place) l.places.items ≡ kept_places l.old (take l.dest-index l.new);
  room : vec_capacity l.places ≡ vec_capacity l.initial.places;
}
