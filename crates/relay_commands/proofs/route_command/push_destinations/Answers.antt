use Rattle.std.proofs.Common.{◌≡◌, ℕ, ◌+◌, ◌++◌, ◌∷◌, [], List, take, get_or, flat_map, ap, sym, ◌∙◌, append_assoc, append-nil}
use Rattle.std.specs.String.{string_bytes}
use Rattle.std.specs.List.{slice_get}
use Rattle.std.proofs.lemmas.List.{take_more}
use Rattle.std.proofs.lemmas.Grind.{flat_map-append}
use Rattle.relay_base.specs.declared.dest_id.DestId.{DestId}
use Rattle.relay_commands.specs.Route.{destination_word, destination_words}
use Rattle.relay_commands.proofs.route_command.push_destinations.Goals as goal

pub loop-id-preserved : goal.loop-id-preserved
loop-id-preserved c =
    let dests = c.args.dests.now in
    let ids = c.args.ids.now in
    let i = c.loop-id.id-index in
    let none : DestId = record { 0 = 0 } in
    let id : DestId = get_or ids i none in
    let word : DestId → List ℕ = λ id. destination_word (slice_get dests id.0) in
    let more : destination_words dests (take (i + 1) ids) ≡ destination_words dests (take i ids) ++ word id =
    ap (flat_map word) (take_more ids i none c.loop-id-test.true)
    ∙ flat_map-append word (take i ids) (id ∷ [])
    ∙ ap (λ (l : List ℕ). flat_map word (take i ids) ++ l) (append-nil (word id)) in
    let here : string_bytes c.push_destination.new.line ≡ string_bytes c.loop-id.line ++ word id = c.in_ok-push_destination.ensures ∙ ap (λ o. string_bytes c.loop-id.line ++ destination_word o) c.dest_at.ensures in
    here
    ∙ ap (λ (l : List ℕ). l ++ word id) c.loop-id.invariant
    ∙ append_assoc (string_bytes c.args.line.now) (destination_words dests (take i ids)) (word id)
    ∙ ap (λ (l : List ℕ). string_bytes c.args.line.now ++ l) (sym more)
