use Rattle.std.proofs.Common.{ap, ◌∙◌}
use Rattle.std.specs.List.{position}
use Rattle.relay_base.specs.White.{is_not_white}
use Rattle.relay_base.proofs.WhiteSpace.{boundary_after}
use Rattle.relay_base.proofs.white.strip_start.Goals as goal

pub range_from-requires : goal.range_from-requires
range_from-requires c some = boundary_after c.args.text.now c.in-Some.start c.utf8.text (c.in-Some.ensures ∙ ap (position is_not_white) c.as_bytes.ensures.value) some
