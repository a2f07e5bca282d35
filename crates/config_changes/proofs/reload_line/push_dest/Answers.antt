use Rattle.std.proofs.Common.{codes}
use Rattle.std.specs.String.{string_bytes}
use Rattle.config_changes.specs.ReloadLine.{dest_name}
use Rattle.config_changes.proofs.Added.{three_added}
use Rattle.config_changes.proofs.reload_line.push_dest.Goals as goal

pub returns : goal.returns
returns c = three_added c.push_str-2.result (string_bytes c.args.text.now) (dest_name c.args.dest.now) c.args.words.now (codes ",") _ _ _ c.in_ok-push_name.ensures c.in_ok-push_str.ensures.bytes c.push_str-2.ensures.bytes
