use Rattle.std.proofs.Common.{◌∙◌}
use Rattle.hash_ring.proofs.BelowLemmas.{below_all}
use Rattle.hash_ring.proofs.ring.have_servers.Goals as goal

pub returns : goal.returns
returns c = c.are_nodes_below.ensures ∙ below_all c.args.count c.args.entries.now
