use Rattle.std.proofs.Common.{arith}
use Rattle.queue_records.proofs.Entering.{total-fits, drops-fit, number-fits}
use Rattle.queue_records.proofs.door_book.DoorBook.count.Goals as goal

pub overflow_add-index_mut : goal.overflow_add-index_mut
overflow_add-index_mut c =
    let fits = total-fits c.self.inside c.args.self.now c.args.dest.0 c.index_mut.result.now c.self.view_is c.requires.dest c.requires.total c.index_mut.ensures.value in
    omega (arith, fits)

pub overflow_add-index_mut-2 : goal.overflow_add-index_mut-2
overflow_add-index_mut-2 c =
    let fits = drops-fit c.self.inside c.args.self.now c.args.dest.0 c.index_mut-2.result.now c.dropped_by.result c.args.kept c.self.view_is c.self.invariant c.requires.dest c.requires.total c.index_mut-2.ensures.value c.dropped_by.ensures in
    omega (arith, fits)

pub overflow_add-number : goal.overflow_add-number
overflow_add-number c =
    let fits = number-fits c.self.inside c.args.self.now c.args.reader c.args.dest.0 c.index-number.result.now c.self.view_is c.self.invariant c.requires.reader c.requires.dest c.requires.total c.index-number.ensures in
    omega (arith, fits)
