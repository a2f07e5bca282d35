use Rattle.std.proofs.Common.{sym, ◌∙◌, subst}
use Rattle.std.proofs.lemmas.List.Elements.{All-contains_itself}
use Rattle.std.specs.Prelude.{Contains}
use Rattle.std.specs.List.{All}
use Rattle.std.specs.Cmp.Lexicographic.{pointwise}
use Rattle.std.proofs.Common.{nat_eq}
use Rattle.router.proofs.Tables.{promoted_first, promoted_among}
use Rattle.router.proofs.recent_routes.RecentRoutes.promote.Goals as goal

pub returns-then-is_newest-clause-kept : goal.returns-then-is_newest-clause-kept
returns-then-is_newest-clause-kept c = All-contains_itself c.args.self.now

pub returns-else-is_newest-clause-first : goal.returns-else-is_newest-clause-first
returns-else-is_newest-clause-first c = λ is.
    rw c.promote.ensures.entries (promoted_first c.args.name.now c.self.inside.routes.entries (sym c.promote.ensures.value ∙ is))

pub returns-else-is_newest-clause-kept : goal.returns-else-is_newest-clause-kept
returns-else-is_newest-clause-kept c =
    subst (λ entries. All (Contains entries) c.promote.new.self.entries) c.self.view_is
    (rw c.promote.ensures.entries (promoted_among (pointwise nat_eq c.args.name.now) c.self.inside.routes.entries))
