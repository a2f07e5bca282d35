use Rattle.std.proofs.Common.{◌≡◌, map, take}
use Rattle.live_watch.proofs.agreement.agree.Given as goal

-- the first offers are to the first destinations
abbrev pub invariant-loop-place : goal.invariant-loop-place
invariant-loop-place l =
    map (λ offer. offer.dest) (take l.place l.offers) ≡ map (λ dest. dest.0) (take l.place l.dests)
