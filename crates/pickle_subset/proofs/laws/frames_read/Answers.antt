use Rattle.pickle_subset.proofs.FramedLemmas.{frames-framed}
use Rattle.pickle_subset.proofs.laws.frames_read.Goals as goal

pub returns : goal.returns
returns c = frames-framed
