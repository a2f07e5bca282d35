use Rattle.dest_writer.proofs.PlaceLemmas.{gathered-stays}
use Rattle.dest_writer.proofs.writer.Writer.stay_in_gathered.Goals as goal

pub returns-clause-gathered : goal.returns-clause-gathered
returns-clause-gathered c =
    rw (c.pass.ensures.step) (gathered-stays c.args.self.now.writer c.args.gathered.now c.take.new.self c.args.count c.requires.gathered c.requires.some c.take.ensures.bytes c.take.ensures.end)
