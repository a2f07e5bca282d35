use Rattle.std.proofs.Common.{subst}
use Rattle.name_table.specs.NameTable.{Keeps}
use Rattle.router.proofs.Tables.{put_done}
use Rattle.router.proofs.recent_routes.RecentRoutes.put.Goals as goal

pub returns : goal.returns
returns c =
    subst (λ entries. Keeps entries (c.args.name, c.args.route) c.put.new.self.entries) c.self.view_is
    (put_done c.self.inside.routes c.put.new.self c.args.name c.args.route c.put.result c.put.ensures.entries c.put.ensures.err)
