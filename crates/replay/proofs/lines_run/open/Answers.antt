use Rattle.std.proofs.Common.{ℕ, ◌∷◌, [], subst}
use Rattle.relay_core.specs.World.{Piece}
use Rattle.replay.specs.RunEvents.{EventsHappen}
use Rattle.replay.proofs.LinesRun.{more-happen}
use Rattle.replay.proofs.lines_run.open.Goals as goal

pub returns : goal.returns
returns c =
    let fed = subst (λ (m : ℕ). EventsHappen c.connect.new.world c.happen.new.world (Piece 0 c.args.lines.items m ∷ [])) c.first_moment.ensures c.in_ok-happen.ensures in
    more-happen c.args.world.now c.connect.new.world c.happen.new.world _ _ c.in_ok-connect.ensures fed
