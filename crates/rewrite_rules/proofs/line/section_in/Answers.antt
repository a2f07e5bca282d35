use Rattle.std.proofs.Common.{◌-◌, length, arith}
use Rattle.std.proofs.lemmas.Str.{IsCharBoundary-after_ascii, IsCharBoundary-before_ascii}
use Rattle.rewrite_rules.proofs.line.section_in.Goals as goal

pub range-requires-clause-start_boundary : goal.range-requires-clause-start_boundary
range-requires-clause-start_boundary c some = IsCharBoundary-after_ascii c.args.line.now 0 c.utf8.line (omega (arith, c.requires.len)) (omega (arith, c.requires.first))

pub range-requires-clause-end_boundary : goal.range-requires-clause-end_boundary
range-requires-clause-end_boundary c =
    IsCharBoundary-before_ascii c.args.line.now (length c.args.line.now - 1) (omega (arith, c.requires.len)) (omega (arith, c.requires.last))
