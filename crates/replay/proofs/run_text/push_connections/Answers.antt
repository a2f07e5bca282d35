use Rattle.std.proofs.Common.{◌≡◌, ◌++◌, ◌<◌, [], ◌+◌, List, ℕ, Vec, Global, length, map, drop, ap, sym, ◌∙◌}
use Rattle.std.proofs.lemmas.List.{append_assoc, length-map, get_or-map}
use Rattle.std.specs.Prelude.{slice_index_or}
use Rattle.replay.specs.RunText.{handed_line, handed_lines}
use Rattle.replay.proofs.RunLines.{handed_lines-next}
use Rattle.replay.proofs.run_text.push_connections.Goals as goal

bytes_of : Vec ℕ Global → List ℕ
bytes_of v = v.items

pub loop-place-preserved : goal.loop-place-preserved
unfolding bytes_of
loop-place-preserved c =
    let place = c.loop-place.place in
    let form = c.args.form in
    let dest = c.args.dest in
    let connections = c.args.connections.now in
    let lists : List (List ℕ) = map bytes_of connections in
    let one = c.index-connections-place.result in
    let before = c.loop-place.text.items in
    let rest = handed_lines form dest (place + 1) (drop (place + 1) lists) in
    let there : place < length lists = rw length-map c.loop-place-test.true in
    let same : slice_index_or lists place [] ≡ one.items = get_or-map bytes_of connections place one [] c.loop-place-test.true ∙ ap bytes_of (sym c.index-connections-place.is) in
    let pushed : c.push_handed.new.text.items ≡ before ++ handed_line form dest place (slice_index_or lists place []) =
    c.in_ok-push_handed.ensures ∙ ap (λ (l : List ℕ). before ++ handed_line form dest place l) (c.as_slice.ensures.value ∙ sym same) in
    ap (λ (l : List ℕ). l ++ rest) pushed ∙ append_assoc before (handed_line form dest place (slice_index_or lists place [])) rest
    ∙ ap (λ (l : List ℕ). before ++ l) (sym (handed_lines-next form dest place place lists [] there)) ∙ c.loop-place.invariant
