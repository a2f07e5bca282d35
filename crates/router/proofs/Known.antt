-- What both tables of a plan say about names.
use Rattle.std.proofs.Common.{◌≡◌, ℕ, List, Some, slice_get, ◌∙◌}
use Rattle.std.specs.List.{All}
use Rattle.std.specs.Prelude.{Contains}
use Rattle.name_table.specs.NameTable.{IsFound, Keeps}
use Rattle.name_table.proofs.CallerLemmas.{All-keeps, law-found}
use Rattle.rewrite_rules.specs.Rule.{RewriteRule}
use Rattle.router.specs.Plan.{Routing}
use Rattle.router.specs.Route.{IsRouteOf, IsSameRoute}
use Rattle.router.specs.declared.route.Route.{Route}
use Rattle.router.proofs.Tables.{law_among, law_first}

module _ (rewrite : List RewriteRule) (routing : Routing) where
  -- a route that says the same is as right
  pub right_copy : (name : List ℕ) (route : Route) (entry : List ℕ × Route) → entry.0 ≡ name → IsSameRoute entry.1 route
      → IsRouteOf rewrite routing (name, route) → IsRouteOf rewrite routing entry
  right_copy name route entry named same right = rw named (record {
    sent = same.sent name ∙ right.sent;
    dests = same.dests ∙ right.dests;
    emptied = same.emptied ∙ right.emptied;
  })

  pub right_kept : (before : List (List ℕ × Route)) (entry : List ℕ × Route) (after : List (List ℕ × Route))
      → Keeps before entry after → All (IsRouteOf rewrite routing) before → IsRouteOf rewrite routing entry → All (IsRouteOf rewrite routing) after
  right_kept before entry after = All-keeps (IsRouteOf rewrite routing) before entry after

  pub right_found : (entries : List (List ℕ × Route)) (text : List ℕ) (entry : List ℕ × Route)
      → IsFound entries text entry → All (IsRouteOf rewrite routing) entries → IsRouteOf rewrite routing entry
  right_found = law-found (IsRouteOf rewrite routing)

  pub right_promoted : (before after : List (List ℕ × Route)) → All (Contains before) after
      → All (IsRouteOf rewrite routing) before → All (IsRouteOf rewrite routing) after
  right_promoted = law_among (IsRouteOf rewrite routing)

  pub right_first : (entries : List (List ℕ × Route)) (entry : List ℕ × Route) → slice_get entries 0 ≡ Some entry
      → All (IsRouteOf rewrite routing) entries → IsRouteOf rewrite routing entry
  right_first = law_first (IsRouteOf rewrite routing)
