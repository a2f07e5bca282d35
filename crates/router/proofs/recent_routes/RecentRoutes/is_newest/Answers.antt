use Rattle.std.proofs.Common.{sym, ◌∙◌, ap, subst, ◌≡◌, Some, List, ℕ, slice_get}
use Rattle.router.specs.declared.route.Route.{Route}
use Rattle.router.proofs.Tables.{same_name}
use Rattle.router.proofs.recent_routes.RecentRoutes.is_newest.Goals as goal

pub returns-in-Some : goal.returns-in-Some
returns-in-Some c = λ is.
    let route = c.in-Some.field-0-1.now in
    let named = same_name c.in-Some.newest.now c.args.name.now (sym c.eq.ensures ∙ is) in
    let first = sym c.in-Some.ensures ∙ ap (λ (n : List ℕ). Some (n, route)) (sym named) in
    (route, subst (λ (entries : List (List ℕ × Route)). slice_get entries 0 ≡ Some (c.args.name.now, route)) c.self.view_is first)
