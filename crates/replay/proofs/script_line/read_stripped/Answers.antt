use Rattle.std.proofs.Common.{sym, ◌∙◌}
use Rattle.std.proofs.lemmas.Result.{IfOk-weaker}
use Rattle.replay.proofs.ScriptWords.{stripped-is}
use Rattle.replay.proofs.script_line.read_stripped.Goals as goal

pub returns : goal.returns
unfolding lib.Utf8.encode
returns c =
    IfOk-weaker c.read_words.result _ _
    (λ says is. is ∙ stripped-is c.args.line.now (sym c.is_empty.ensures ∙ c.if-is_empty.false) c.if-starts_with.ensures.cases)
    c.read_words.ensures
