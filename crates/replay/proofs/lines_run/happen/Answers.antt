use Rattle.replay.proofs.lines_run.happen.Goals as goal

pub returns-in_default : goal.returns-in_default
returns-in_default c =
    let reported = c.in_ok-apply_event.ensures in
    record {
      plan = reported.plan;
      places = reported.places;
      represents = λ size limit kinds past represents. reported.applies.represents c.in_default.not-Spent size limit kinds past represents;
    }
