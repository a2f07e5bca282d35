use Rattle.patterns.proofs.PatternLemmas.{IsPatternFault-of}
use Rattle.patterns.proofs.pattern.compile.Goals as goal

pub returns-in-Err : goal.returns-in-Err
returns-in-Err c =
    let made = rw (c.case_insensitive-builder.ensures, c.new.ensures.config, c.new.ensures.source, c.is_ignored.ensures) at c.in-Err.ensures in
    rw c.fault_of.ensures (IsPatternFault-of c.args.case c.args.text.now c.in-Err.error made.by_grammar made.kind made.span)

pub returns-in-Ok : goal.returns-in-Ok
returns-in-Ok c =
    let made = rw (c.case_insensitive-builder.ensures, c.new.ensures.config, c.new.ensures.source, c.is_ignored.ensures) at c.in-Ok.ensures in
    record { source = made.source; config = made.config; read = made.read }
