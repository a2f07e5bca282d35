use Rattle.std.proofs.Common.{◌≡◌, ◌<◌, ℕ, List, length, sym, ap, subst, ◌∙◌}
use Rattle.reader_core.specs.Kinds.{relay_reading}
use Rattle.reader_core.specs.Reader.{ReaderModel}
use Rattle.reader_core.specs.declared.kind.ReaderKind.{ReaderKind}
use Rattle.relay_core.specs.World.{RunEvent}
use Rattle.relay_core.specs.Run.{reader_in}
use Rattle.relay_core.specs.Relay.{run_of, counts_read}
use Rattle.relay_core.specs.WorldModel.{WorldModel, RepresentsRun}
use Rattle.relay_core.proofs.Representing.{counts_at}
use Rattle.relay_core.proofs.world.World.reader_counts.Goals as goal

pub returns : goal.returns
returns c =
    let r = c.args.reader in
    let there = subst (λ (s : WorldModel). r < length s.readers) (sym c.self.view_is) c.requires in
    subst (λ (s : WorldModel). (size limit : ℕ) (kinds : List ReaderKind) (events : List RunEvent) → RepresentsRun s size limit kinds events
    → c.counts.result ≡ counts_read s.plan (reader_in relay_reading (run_of s.plan size limit kinds events) r)) c.self.view_is
    (λ size limit kinds events represents. c.counts.ensures ∙ ap (λ (s : ReaderModel). s.totals.faults) c.index.ensures
    ∙ counts_at c.self.inside.plan size limit c.self.inside.readers.items c.self.inside.destinations.items _ r c.index.result.now represents there)
