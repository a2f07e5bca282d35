use Rattle.std.proofs.Common.{◌≡◌, ◌<◌, ℕ, List, length, sym, ap, subst, ◌∙◌}
use Rattle.reader_core.specs.Kinds.{relay_reading}
use Rattle.reader_core.specs.Reader.{ReaderModel}
use Rattle.reader_core.specs.declared.kind.ReaderKind.{ReaderKind}
use Rattle.relay_core.specs.World.{RunEvent, waiting_of}
use Rattle.relay_core.specs.Run.{reader_in}
use Rattle.relay_core.specs.Relay.{run_of}
use Rattle.relay_core.specs.WorldModel.{WorldModel, RepresentsRun}
use Rattle.reader_core.specs.PlanConfiguration.{configuration_of}
use Rattle.relay_core.proofs.Representing.{waiting_at}
use Rattle.relay_core.proofs.world.World.waiting.Goals as goal

pub returns : goal.returns
returns c =
    let r = c.args.reader in
    let there = subst (λ (s : WorldModel). r < length s.readers) (sym c.self.view_is) c.requires in
    subst (λ (s : WorldModel). (size limit : ℕ) (kinds : List ReaderKind) (events : List RunEvent) → RepresentsRun s size limit kinds events
    → c.waiting.result ≡ length (waiting_of relay_reading (configuration_of s.plan size limit) (reader_in relay_reading (run_of s.plan size limit kinds events) r))) c.self.view_is
    (λ size limit kinds events represents. c.waiting.ensures ∙ ap (λ (s : ReaderModel). length s.waiting) c.index.ensures
    ∙ waiting_at c.read_laws.ensures.sends c.self.inside.plan size limit c.self.inside.readers.items c.self.inside.destinations.items _ r c.index.result.now represents there)
