-- What clauses see of an answer to `watch`.
use Rattle.admin_client.specs.WatchAnswer.{WatchEnd, Opened, Gathered, Refused, Over}
use Rattle.admin_client.specs.declared.watch_answer.WatchAnswer.{WatchAnswer}
use Rattle.admin_client.specs.declared.watch_answer.WatchAnswer.TheVariants as said

abbrev pub watch_said : WatchAnswer → WatchEnd
watch_said (said.Opened number) = Opened number.now
watch_said (said.Gathered rest) = Gathered rest.now
watch_said (said.Refused why) = Refused why.now
watch_said said.Over = Over
