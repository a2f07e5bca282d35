use Rattle.std.proofs.Common.{List, ℕ, reverse, ap, ◌∙◌}
use Rattle.std.specs.List.{position}
use Rattle.relay_base.specs.White.{is_not_white}
use Rattle.relay_base.proofs.WhiteSpace.{boundary_before}
use Rattle.relay_base.proofs.white.strip_end.Goals as goal

pub range-requires-clause-end_boundary : goal.range-requires-clause-end_boundary
range-requires-clause-end_boundary c = boundary_before c.args.text.now c.in-Some.white (c.in-Some.ensures ∙ ap (λ (s : List ℕ). position is_not_white (reverse s)) c.as_bytes.ensures.value)
