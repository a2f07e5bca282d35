use Rattle.std.proofs.Common.{◌≡◌, ℕ, ◌∷◌, [], List, map, length, sym, ap, ◌∙◌, zero-add, arith}
use Rattle.std.specs.List.{range_with_len}
use Rattle.std.proofs.lemmas.List.FromFn.{map-range_with_len_more}
use Rattle.hash_ring.specs.Key.{position_of, replica_key}
use Rattle.hash_ring.specs.Entry.{Entry}
use Rattle.hash_ring.specs.Placing.{with_entry, with_entries, replica}
use Rattle.hash_ring.proofs.PlacingLemmas.{with_entries-append, length-with_entry}
use Rattle.hash_ring.proofs.entries.RingEntries.place_replicas.Goals as goal

position_is : (c : goal.After-drop-key-in-loop-i) → c.position.result ≡ position_of (replica_key c.args.node.now c.loop-i.i)
position_is c = c.position.ensures ∙ ap position_of (c.as_bytes.ensures.value ∙ c.in_ok-key.ensures)

placed_here : (c : goal.After-drop-key-in-loop-i) → c.place.new.self ≡ with_entry c.loop-i.self (replica (c.args.id.0, c.args.node.now) c.loop-i.i)
placed_here c = c.in_ok-place.ensures.ok ∙ ap (λ (p : ℕ). with_entry c.loop-i.self (p, c.args.id)) (position_is c)

pub loop-i-preserved : goal.loop-i-preserved
loop-i-preserved c =
    let wants = replica (c.args.id.0, c.args.node.now) in
    let before = map wants (range_with_len 0 c.loop-i.i) in
    record {
      placed =
          placed_here c
          ∙ ap (λ (es : List Entry). with_entry es (wants c.loop-i.i)) c.loop-i.invariant.placed
          ∙ sym (with_entries-append c.args.self.now before (wants c.loop-i.i ∷ []))
          ∙ ap (with_entries c.args.self.now) (sym (map-range_with_len_more wants 0 c.loop-i.i c.loop-i.i (zero-add c.loop-i.i)));
      room = omega (arith, ap length (placed_here c), length-with_entry c.loop-i.self (wants c.loop-i.i), c.loop-i.invariant.room);
    }
