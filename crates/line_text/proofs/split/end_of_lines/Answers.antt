use Rattle.line_text.proofs.SplitLemmas.{none-HasNoLine, lines-to_last, rest-after_last}
use Rattle.line_text.proofs.split.end_of_lines.Goals as goal

pub returns-in-None-clause-rest : goal.returns-in-None-clause-rest
returns-in-None-clause-rest c = none-HasNoLine c.args.text.now c.in-None.ensures.place

pub returns-in-Some-clause-lines : goal.returns-in-Some-clause-lines
returns-in-Some-clause-lines c = lines-to_last c.args.text.now c.in-Some.place c.in-Some.ensures.place

pub returns-in-Some-clause-rest : goal.returns-in-Some-clause-rest
returns-in-Some-clause-rest c = rest-after_last c.args.text.now c.in-Some.place c.in-Some.ensures.place
