use Rattle.relay_commands.proofs.NamesLemmas.{first_of_lines, only_line}
use Rattle.relay_commands.proofs.names_command.cut_line.Goals as goal

pub returns-in-Some-clause-lines : goal.returns-in-Some-clause-lines
returns-in-Some-clause-lines c = first_of_lines c.args.text.now c.in-Some.end c.in-Some.ensures

pub returns-in-None-clause-lines : goal.returns-in-None-clause-lines
returns-in-None-clause-lines c = only_line c.args.text.now c.in-None.ensures
