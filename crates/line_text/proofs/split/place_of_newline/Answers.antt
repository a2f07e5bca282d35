use Rattle.line_text.specs.Reader.{is_newline_byte}
use Rattle.line_text.proofs.PlaceLemmas.{first-is_position}
use Rattle.line_text.proofs.split.place_of_newline.Goals as goal

pub returns-clause-place : goal.returns-clause-place
returns-clause-place c = first-is_position is_newline_byte c.args.text.now c.memchr.result c.memchr.ensures
