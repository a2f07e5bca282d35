use Rattle.std.proofs.Common.{◌∙◌, ◌≡◌, ◌-◌, List, length, take, drop, ap, refl, arith}
use Rattle.std.proofs.lemmas.List.{take_all, length-drop}
use Rattle.line_text.specs.Datapoint.{Datapoint}
use Rattle.dest_writer.specs.Place.{line_at}
use Rattle.dest_writer.proofs.PlaceLemmas.{some-within, current-line, current-next}
use Rattle.dest_writer.proofs.writer.Writer.next_bytes.Goals as goal

pub returns : goal.returns
returns c =
    let a = c.self.inside in
    let i = a.place.index in
    let o = a.place.offset in
    let start = c.print_at-start.result in
    let line = c.bytes.result.now in
    let part = take (length line - start) (drop start line) in
    let behind = length-drop start line in
    let all : part ≡ drop start line = take_all (length line - start) (drop start line) (omega arith) in
    let is : part ≡ drop o (line_at i a.hand.points) =
    all ∙ ap (drop start) c.bytes.ensures ∙ c.print_at-start.ensures.bytes
    ∙ ap (λ (ps : List Datapoint). drop o (line_at i ps)) c.points.ensures in
    let within = c.self.invariant.within in (
      (refl, (λ _. tt), c.self.view_is),
      record {
        after_borrow = tt;
        line = rw (← c.self.view_is) (is ∙ current-line i o a.hand.points within);
        next = rw (← c.self.view_is) (current-next i o a.hand.points part within is);
        some = λ some.
            let less = some-within i o a.hand.points within (rw (← c.self.view_is) at some) in
            let many = ap length is ∙ length-drop o (line_at i a.hand.points) in
            omega arith;
        short =
            let many = ap length all in
            let lines = ap length c.bytes.ensures in
            let short = c.print_at-start.ensures.short in
            omega arith;
      },
    )
