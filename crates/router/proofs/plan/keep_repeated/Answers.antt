use Rattle.std.proofs.Common.{ℕ, List, subst, sym}
use Rattle.std.specs.List.{All}
use Rattle.router.specs.Route.{IsRouteOf}
use Rattle.router.specs.declared.route.Route.{Route}
use Rattle.router.proofs.plan.keep_repeated.Goals as goal

pub returns-then-is_repeated : goal.returns-then-is_repeated
returns-then-is_repeated c = λ rewrite routing right all.
    c.keep_share.ensures rewrite routing right
    (subst (λ (entries : List (List ℕ × Route)). All (IsRouteOf rewrite routing) entries) (sym c.is_repeated.ensures) all)
