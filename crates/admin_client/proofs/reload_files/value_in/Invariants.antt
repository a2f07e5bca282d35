use Rattle.std.proofs.Common.{◌≡◌, length, drop}
use Rattle.std.specs.List.{slice_split}
use Rattle.admin_client.specs.AdminCommand.{is_newline}
use Rattle.admin_client.specs.FilesAnswer.{first_behind, value_in}
use Rattle.admin_client.proofs.reload_files.value_in.Given as goal

-- no line so far begins with the words
abbrev pub invariant-loop-line : goal.invariant-loop-line
invariant-loop-line l = record {
  goes_on : (goal.iterator-loop-line).can_next l.line-iterator;
  ends : (goal.iterator-loop-line).is_finite l.line-iterator;
  found : first_behind l.words (drop (length l.yielded) (slice_split is_newline l.sent)) ≡ value_in l.words l.sent;
}
