use Rattle.std.proofs.Common.{◌≡◌, ◌≤◌, ℕ, List, [], ◌++◌, length, sym, ap, subst, ◌∙◌}
use Rattle.std.specs.String.{string_bytes}
use Rattle.dest_queue.specs.declared.queue.TheConstants.{MOST_READERS}
use Rattle.router.specs.Plan.{Plan}
use Rattle.relay_core.specs.Headline.{PrefixLaw}
use Rattle.relay_core.specs.Relay.{run_of}
use Rattle.relay_core.specs.World.{RunEvent}
use Rattle.relay_core.specs.WorldModel.{WorldModel, OfItsRuns}
use Rattle.replay.specs.ScriptText.{script_of}
use Rattle.run_record.specs.Laws.{ReadsBackLaw}
use Rattle.run_record.specs.ScriptLines.{script_text}
use Rattle.run_record.specs.Making.{HasGone}
use Rattle.run_record.specs.PartEvents.{PartsOfRun, HasParts, parts_of}
use Rattle.run_record.specs.QueueSteps.{steps_in}
use Rattle.run_record.specs.RunScript.{HasTheseCounts, IsScriptOfRun}
use Rattle.run_record.proofs.Making.{begins}
use Rattle.run_record.proofs.script.script_by.Goals as goal

is-script : (s : WorldModel) (size limit : ℕ) (parts : PartsOfRun) (events : List RunEvent) (text : List ℕ) → PrefixLaw → ReadsBackLaw → 1 ≤ length parts.kinds
    → length parts.kinds ≤ MOST_READERS → HasParts parts events → HasGone s size limit parts.kinds text events → steps_in (run_of s.plan size limit parts.kinds events) ≡ parts.steps → OfItsRuns s (HasTheseCounts parts.counts)
    → IsScriptOfRun s.plan size limit parts text
is-script s size limit parts events text prefix reads_back some few has gone recorded counted =
    record {
      events = events;
      has_parts = has;
      allowed = gone.allowed;
      recorded = recorded;
      has_counts = counted size limit parts.kinds events gone.represents;
      passes_on = prefix s.plan size limit parts.kinds events;
      written = gone.written;
      read = ap script_of gone.written ∙ reads_back parts.kinds events (record { some = some; few = few; each = gone.writable });
    }

pub returns : goal.returns
returns c = λ size represents.
    let limit = c.args.limit in
    let world = c.args.world.now in
    let parts = parts_of c.args.parts.now in
    let text = string_bytes c.apply_parts.new.text in
    let made = c.in_ok-apply_parts.ensures in
    let begun : string_bytes c.write_script.new.text ≡ script_text parts.kinds [] =
    c.in_ok-write_script.ensures ∙ ap (λ (b : List ℕ). b ++ script_text parts.kinds []) c.new-text.ensures.bytes in
    let first : HasGone world size limit parts.kinds (string_bytes c.write_script.new.text) [] =
    subst (λ (t : List ℕ). HasGone world size limit parts.kinds t []) (sym begun)
    (begins world size limit parts.kinds represents) in
    let gone = made.goes.goes size limit parts.kinds [] first in
    let recorded : steps_in (run_of c.apply_parts.new.world.plan size c.args.limit c.args.parts.now.kinds.now c.in_ok-apply_parts.ensures.added) ≡ (parts_of c.args.parts.now).steps =
    subst (λ (p : Plan). steps_in (run_of p size c.args.limit c.args.parts.now.kinds.now c.in_ok-apply_parts.ensures.added) ≡ (parts_of c.args.parts.now).steps) (sym made.goes.plan)
    (made.records size parts.kinds [] first) in
    subst (λ (p : Plan). IsScriptOfRun p size limit parts text) made.goes.plan
    (is-script c.apply_parts.new.world size limit parts made.added text c.prefix.ensures c.reads_back.ensures c.requires.readers.0 c.requires.readers.1
    made.has_parts gone recorded (c.has_counts.ensures c.if-not-has_counts.false))
