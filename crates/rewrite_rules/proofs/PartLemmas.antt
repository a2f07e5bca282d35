-- The parts of a replacement.
use Rattle.std.proofs.Common.{◌≡◌, List, [], ◌∷◌, ◌++◌, Option, None, Some, option_map, refl, sym, ap, append_assoc}
use Rattle.patterns.specs.declared.part.Part.{Part}
use Rattle.rewrite_rules.specs.Replacement.{part_before}

-- a part after those that are read already
pub part_before-done : (done : List Part) (part : Part) (parts : Option (List Part)) →
    option_map (λ ps. done ++ ps) (part_before part parts) ≡ option_map (λ ps. (done ++ part ∷ []) ++ ps) parts
part_before-done done part None = refl
part_before-done done part (Some ps) = ap (λ (qs : List Part). Some qs) (sym (append_assoc done (part ∷ []) ps))
