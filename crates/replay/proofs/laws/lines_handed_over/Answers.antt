use Rattle.std.proofs.Common.{◌≡◌, ◌≤◌, ◌<◌, ℕ, ◌^◌, true, cond, List, [], ◌∷◌, ◌++◌, length, Some, None, refl, ap, ◌∙◌, subst, arith}
use Rattle.std.specs.List.{AllByRecursion}
use Rattle.std.proofs.lemmas.List.{append-nil}
use Rattle.line_text.specs.Datapoint.{Datapoint}
use Rattle.line_text.specs.Name.{is_name}
use Rattle.line_text.specs.Connection.{arrivals, accepted_points}
use Rattle.line_text.specs.Print.{printed_line, longest_printed}
use Rattle.dest_queue.specs.Counts.{counts_of}
use Rattle.rewrite_rules.specs.Rule.{text_after_all}
use Rattle.reader_core.specs.Kinds.{relay_reading}
use Rattle.reader_core.specs.Configuration.{Dispatch, sent_to, points_for}
use Rattle.reader_core.specs.PlanConfiguration.{configuration_of}
use Rattle.reader_core.specs.declared.kind.ReaderKind.TheVariants.{Line}
use Rattle.relay_core.specs.Destination.{Destination}
use Rattle.relay_core.specs.World.{Piece}
use Rattle.replay.specs.LinesLaw.{GotAll, points_of_lines}
use Rattle.replay.proofs.LinesSent.{IsIdle, all_of}
use Rattle.replay.proofs.LinesEnd.{all_sent_of}
use Rattle.replay.proofs.ShortLines.{IsInRange, Gives, gives-some, gives-none, gives-cond, accepted-in_range, sent-short}
use Rattle.replay.proofs.laws.lines_handed_over.Goals as goal

-- a destination that is idle after these datapoints got all of them
got_all : (dest : Destination) (points : List Datapoint) → IsIdle dest points → GotAll dest points
got_all dest points (next, is) =
    record {
      handed = ap (λ (x : Destination). x.connections) is;
      in_hand = ap (λ (x : Destination). x.writer.hand) is;
      counts = ap (λ (x : Destination). counts_of x.queue) is;
    }

-- a name after rewriting is a name
named : (text : List ℕ) → Gives (λ new. is_name new ≡ true) (cond (is_name text) (Some text) None)
named text = gives-cond (λ new. is_name new ≡ true) (is_name text) (Some text) None (λ is. gives-some _ text is) (gives-none _)

shorter : (all : List Dispatch) → AllByRecursion (λ (sent : Dispatch). length (printed_line sent.point) ≤ longest_printed) all
    → AllByRecursion (λ (sent : Dispatch). length (printed_line sent.point) < 2 ^ 15) all
shorter [] h = tt
shorter (sent ∷ all) h = (let l = h.0 in omega arith, shorter all h.1)

pub returns : goal.returns
returns c = λ plan size limit lines room some.
    let conf = configuration_of plan size limit in
    let points = accepted_points (arrivals lines 0) in
    let all = all_of relay_reading conf (arrivals lines 0 ∷ []) in
    let in_range : AllByRecursion IsInRange (points ++ []) = rw append-nil (accepted-in_range c.value_is.ensures lines) in
    let short : AllByRecursion (λ (sent : Dispatch). length (printed_line sent.point) < 2 ^ 15) all =
    shorter all (sent-short conf (λ name. named (text_after_all plan.rewrite name)) c.one_line.ensures (points ++ []) in_range) in
    let end = all_sent_of relay_reading conf refl refl lines room some short in
    let sent : (d : ℕ) → sent_to d all ≡ points_of_lines conf lines d =
    λ d. (c.prefix.ensures plan size limit (Line ∷ []) (Piece 0 lines 0 ∷ [])).offers 0 d ∙ ap (points_for conf d) (append-nil points) in
    record {
      waiting = end.waiting;
      each = λ d within. got_all _ _ (subst (IsIdle _) (sent d) (end.each d within));
    }
