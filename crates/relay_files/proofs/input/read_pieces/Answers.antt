use Rattle.std.proofs.Common.{take, ◌∙◌, ◌++◌, ap, List, ℕ}
use Rattle.relay_files.proofs.BytesLemmas.{Consumes-nothing, Consumes-then, read_to_end}
use Rattle.relay_files.proofs.input.read_pieces.Goals as goal

pub loop-turn-init : goal.loop-turn-init
loop-turn-init g c = rw c.new-bytes.ensures.items (Consumes-nothing (g.R.Read.remaining c.args.input.now))

pub loop-turn-preserved : goal.loop-turn-preserved
loop-turn-preserved g c =
    let grown = c.in_ok-extend_from_slice.ensures.items ∙ ap (λ (t : List ℕ). c.loop-turn.bytes.items ++ t) c.split_at.ensures.front in
    Consumes-then _ _ _ c.loop-turn.bytes.items (take c.in_ok-count.count c.read_piece.new.piece) _ grown c.loop-turn.invariant c.in_ok-count.ensures.given

pub returns-then-count-eq0 : goal.returns-then-count-eq0
returns-then-count-eq0 g c =
    read_to_end _ _ _ c.loop-turn.bytes.items c.read_piece.new.piece c.in_ok-count.count c.if-count-eq0.true c.loop-turn.invariant c.in_ok-count.ensures.given c.in_ok-count.ensures.at_end
