use Rattle.std.proofs.Common.{ℕ, List, ap}
use Rattle.dest_queue.specs.declared.counts.Counts.{Counts}
use Rattle.admin_report.specs.ReportText.{destination_line}
use Rattle.replay.specs.RunText.{handed_lines}
use Rattle.replay.proofs.laws.same_text.Goals as goal

pub returns : goal.returns
returns c =
    λ plan other size limit other_size other_limit kinds other_kinds events other_events d within other_within agrees.
    let same = c.isolated.ensures plan other size limit other_size other_limit kinds other_kinds events other_events d within other_within agrees in
    record {
      handed = λ form. ap (λ (connections : List (List ℕ)). handed_lines form d 0 connections) same.handed;
      reported = λ dest. ap (λ (counts : Counts). destination_line dest counts) same.counts;
    }
