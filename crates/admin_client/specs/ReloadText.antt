-- What clauses see of an answer to `reload`.
use Rattle.admin_client.specs.ReloadAnswer.{ReloadEnd, Reloaded, Refused}
use Rattle.admin_client.specs.declared.reload_answer.ReloadAnswer.{ReloadAnswer}
use Rattle.admin_client.specs.declared.reload_answer.ReloadAnswer.TheVariants as said

abbrev pub end_of : ReloadAnswer → ReloadEnd
end_of said.Reloaded = Reloaded
end_of (said.Refused refusal text) = Refused refusal text.now
