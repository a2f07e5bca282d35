use Rattle.std.proofs.Common.{Some, slice_get, ◌+◌}
use Rattle.queue_records.specs.Offers.{IsRefusedBy}
use Rattle.slab.specs.Slab.{get}
use Rattle.receivers.proofs.MomentLemmas.{listed-went, no-turns, one-served}
use Rattle.receivers.proofs.serving.serve_or_list.Goals as goal

pub returns-then-not-is_due-clause-went : goal.returns-then-not-is_due-clause-went
returns-then-not-is_due-clause-went g c = λ may_give reported. no-turns (IsRefusedBy g.D.Door.may_refuse) may_give c.args.receiver.now.plan c.args.reads.now (g.D.Door.record_of c.args.receiver.now.door)

pub returns-then-is_set-clause-went : goal.returns-then-is_set-clause-went
returns-then-is_set-clause-went g c =
    let rest = c.list_again.ensures.rest in
    λ may_give reported. listed-went (IsRefusedBy g.D.Door.may_refuse) may_give c.args.receiver.now.plan c.args.reads.now c.list_again.new.self (g.D.Door.record_of c.args.receiver.now.door) rest.0 rest.1 rest.2

pub returns-clause-went : goal.returns-clause-went
returns-clause-went g c =
    let went = c.serve_one-served.ensures.went in
    let old = c.args.reads.now in
    let new = c.serve_one-served.new.self in
    let token = c.args.token.0 in
    λ may_give reported. one-served g.S.Read.remaining (IsRefusedBy g.D.Door.may_refuse) c.args.receiver.now.plan may_give c.args.moment (old.first + token) (Some c.serve_one-served.result) went.0 went.1
    old new (slice_get old.readers token) (slice_get new.readers token) (get old.sources token) (get new.sources token)
    (g.D.Door.record_of c.args.receiver.now.door) (g.D.Door.record_of c.serve_one-served.new.door) reported went.2 went.3 c.serve_one-served.ensures.waits
