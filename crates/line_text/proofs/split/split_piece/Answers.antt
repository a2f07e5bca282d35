use Rattle.std.proofs.Common.{[], take}
use Rattle.std.specs.List.{list_all}
use Rattle.std.proofs.lemmas.Bool.{and_parts}
use Rattle.line_text.specs.Split.{is_unbroken, ended_texts}
use Rattle.line_text.proofs.SplitLemmas.{IsSplit-cut, split-head}
use Rattle.line_text.proofs.split.split_piece.Goals as goal

pub returns-in-None-clause-rest : goal.returns-in-None-clause-rest
returns-in-None-clause-rest c = (IsSplit-cut c.args.piece.now [] c.args.piece.now c.in-None.ensures.line).rest

pub returns-in-Some-clause-texts : goal.returns-in-Some-clause-texts
returns-in-Some-clause-texts c =
    let split = split-head c.args.piece.now c.in-Some.head.text.now c.in-Some.head.rest.now c.end_of_lines-end.result c.in-Some.ensures.line c.end_of_lines-end.ensures.lines c.end_of_lines-end.ensures.rest in
    split.cut

pub returns-in-Some-clause-piece : goal.returns-in-Some-clause-piece
returns-in-Some-clause-piece c =
    let split = split-head c.args.piece.now c.in-Some.head.text.now c.in-Some.head.rest.now c.end_of_lines-end.result c.in-Some.ensures.line c.end_of_lines-end.ensures.lines c.end_of_lines-end.ensures.rest in
    split.bytes

pub returns-in-Some-clause-head : goal.returns-in-Some-clause-head
returns-in-Some-clause-head c =
    let split = split-head c.args.piece.now c.in-Some.head.text.now c.in-Some.head.rest.now c.end_of_lines-end.result c.in-Some.ensures.line c.end_of_lines-end.ensures.lines c.end_of_lines-end.ensures.rest in
    (and_parts (is_unbroken c.in-Some.head.text.now) (list_all is_unbroken (ended_texts (take c.end_of_lines-end.result c.in-Some.head.rest.now))) split.unbroken).0

pub returns-in-Some-clause-lines : goal.returns-in-Some-clause-lines
returns-in-Some-clause-lines c =
    let split = split-head c.args.piece.now c.in-Some.head.text.now c.in-Some.head.rest.now c.end_of_lines-end.result c.in-Some.ensures.line c.end_of_lines-end.ensures.lines c.end_of_lines-end.ensures.rest in
    (and_parts (is_unbroken c.in-Some.head.text.now) (list_all is_unbroken (ended_texts (take c.end_of_lines-end.result c.in-Some.head.rest.now))) split.unbroken).1

pub returns-in-Some-clause-rest : goal.returns-in-Some-clause-rest
returns-in-Some-clause-rest c =
    let split = split-head c.args.piece.now c.in-Some.head.text.now c.in-Some.head.rest.now c.end_of_lines-end.result c.in-Some.ensures.line c.end_of_lines-end.ensures.lines c.end_of_lines-end.ensures.rest in
    split.rest
