use Rattle.receivers.proofs.stream_receiver.serve_ready.Goals as goal

pub returns-clause-went : goal.returns-clause-went
returns-clause-went g c = c.serve_until.ensures.went (g.T.TimeSource.may_give c.args.times.now) c.moment.ensures
