use Rattle.std.proofs.Common.{◌≡◌, List, ℕ, Option, Some, length, ap, ◌∙◌}
use Rattle.std.specs.HashMap.{get_by_text}
use Rattle.std.specs.Map.{update}
use Rattle.std.specs.Str.{bytes_eq}
use Rattle.std.specs.String.{string_bytes}
use Rattle.std.proofs.lemmas.Map.Text.{hash_map_updates_text}
use Rattle.conf_text.proofs.Indexes.{index-push}
use Rattle.conf_text.proofs.places.put.Goals as goal

pub returns-clause-ok : goal.returns-clause-ok
returns-clause-ok c = λ names index absent last.
    let old : List ℕ → Option ℕ = get_by_text c.args.places.now in
    let new : List ℕ → Option ℕ = get_by_text c.insert.new.self in
    let change = hash_map_updates_text (string_bytes c.in_ok-name.name) c.args.places.now c.insert.new.self (Some c.args.place) c.in_ok-insert.ensures.updates in
    let named : (q : List ℕ) → new q ≡ update bytes_eq old c.args.name.now (Some (length names)) q = λ q. change q ∙ ap (λ (n : List ℕ). update bytes_eq old n (Some c.args.place) q) c.in_ok-name.ensures.ok ∙ ap (λ (p : ℕ). update bytes_eq old c.args.name.now (Some p) q) last in
    index-push names c.args.name.now old new absent index named
