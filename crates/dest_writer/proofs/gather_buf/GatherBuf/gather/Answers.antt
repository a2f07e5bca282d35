use Rattle.std.proofs.Common.{◌∙◌, ◌≡◌, ◌++◌, ◌+◌, ◌-◌, ℕ, List, length, take, drop, ap, refl, arith}
use Rattle.std.proofs.lemmas.List.{take_all, length-drop}
use Rattle.line_text.specs.Datapoint.{Datapoint}
use Rattle.line_text.specs.Print.{printed_lines}
use Rattle.dest_writer.specs.Gathered.{GatheredBytes}
use Rattle.dest_writer.specs.Place.{line_at}
use Rattle.dest_writer.proofs.PlaceLemmas.{rest-is, gathered-bytes}
use Rattle.dest_writer.proofs.gather_buf.GatherBuf.gather.Goals as goal

pub returns-clause-bytes : goal.returns-clause-bytes
returns-clause-bytes c =
    let i = c.args.place.index in
    let o = c.args.place.offset in
    let points = c.args.points.now in
    let start = c.print_at-start.result in
    let line = c.bytes.result.now in
    let more = c.push_lines-more.result in
    let first : take (length line - start) (drop start line) ≡ drop o (line_at i points) =
    take_all (length line - start) (drop start line) (let e = length-drop start line in omega arith)
    ∙ ap (drop start) c.bytes.ensures ∙ c.print_at-start.ensures.bytes in
    let pushed = c.push.ensures ∙ ap (λ (bytes : List ℕ). bytes ++ take (length line - start) (drop start line)) c.clear.ensures.bytes ∙ first in
    let slice = take (length c.args.points.now - (i + 1)) (drop (i + 1) c.args.points.now) in
    let rest = ap (take more) (rest-is (i + 1) c.args.points.now points refl) in
    ap (λ (g : GatheredBytes). g.bytes) c.self.view_is
    ∙ c.push_lines-more.ensures.bytes
    ∙ ap (λ (bytes : List ℕ). bytes ++ printed_lines (take more slice)) pushed
    ∙ ap (λ (ps : List Datapoint). drop o (line_at i points) ++ printed_lines ps) rest
    ∙ gathered-bytes i o more points c.requires
