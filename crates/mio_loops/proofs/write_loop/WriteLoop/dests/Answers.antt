use Rattle.std.proofs.Common.{◌≡◌, ◌<◌, length, ℕ, sym, subst, rules}
use Rattle.mio_loops.proofs.TurnsLemmas.{up-within}
use Rattle.mio_loops.proofs.write_loop.WriteLoop.dests.Goals as goal

pub returns-clause-no_more : goal.returns-clause-no_more
returns-clause-no_more g c =
    let count : c.len.result ≡ length c.args.self.now = search rules in
    λ dest up. subst (λ (n : ℕ). dest < n) (sym count) (up-within c.args.self.now dest up)
