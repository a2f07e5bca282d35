use Rattle.std.proofs.Common.{arith}
use Rattle.std.proofs.lemmas.Str.{IsCharBoundary-after_ascii}
use Rattle.conf_text.proofs.line.header_name.Goals as goal

pub range-requires-clause-start_boundary : goal.range-requires-clause-start_boundary
range-requires-clause-start_boundary c some = IsCharBoundary-after_ascii c.args.line.now 0 c.utf8.line (omega arith) (omega (arith, c.requires))
