use Rattle.mio_loops.proofs.leaving_loop.LeavingLoop.take_out.Goals as goal

-- src/leaving_loop.rt:43:5
pub returns-clause-stream : goal.returns-clause-stream
returns-clause-stream g c = rw (← c.self.view_is) c.take_out.ensures.stream
