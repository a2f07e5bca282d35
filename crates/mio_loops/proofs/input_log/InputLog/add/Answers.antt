use Rattle.std.proofs.Common.{◌≡◌, ◌∙◌, ◌+◌, ◌≤◌, ◌&&◌, length, false, true, ap, subst, refl, arith}
use Rattle.std.specs.Prelude.{nat_lt, nat_le}
use Rattle.std.proofs.lemmas.Grind.{common_steps}
use Rattle.std.proofs.lemmas.Bool.{and_parts, leb-true}
use Rattle.std.proofs.lemmas.List.{length-append}
use Rattle.mio_loops.specs.InputLog.{LogState, log_after, most_entries, most_bytes}
use Rattle.mio_loops.specs.StoredLog.{entry_of, entries_in, bytes_in}
use Rattle.mio_loops.proofs.LogLemmas.{log_sealed, log_kept, room_as_rows, bytes_more}
use Rattle.mio_loops.proofs.input_log.InputLog.add.Goals as goal

pub returns-then-not-has_room : goal.returns-then-not-has_room
returns-then-not-has_room c =
    let rows = c.self.inside.rows.items in
    let bytes = c.self.inside.bytes.items in
    let full : (nat_lt (length rows) most_entries && nat_le (length bytes + length c.args.bytes.now) most_bytes) ≡ false = grind (arith, common_steps) in
    subst (λ (l : LogState). record { entries = entries_in rows bytes; byte_count = length bytes; sealed = true } ≡ log_after (record { reader = c.args.reader; entry = entry_of c.args.moment c.args.bytes.now }) l) c.self.view_is
    (log_sealed (record { reader = c.args.reader; entry = entry_of c.args.moment c.args.bytes.now }) (record { entries = entries_in rows bytes; byte_count = length bytes; sealed = c.self.inside.sealed }) c.if-self.false (room_as_rows rows c.args.reader c.args.moment bytes c.args.bytes.now c.self.inside.sealed c.requires.bytes ∙ full))

pub invariant_of-self-2 : goal.invariant_of-self-2
invariant_of-self-2 c =
    let sound = c.self.invariant in
    let room : (nat_lt (length c.self.inside.rows.items) most_entries && nat_le (length c.self.inside.bytes.items + length c.args.bytes.now) most_bytes) ≡ true = grind (arith, common_steps) in
    let fits : length c.self.inside.bytes.items + length c.args.bytes.now ≤ most_bytes = leb-true _ _ (and_parts _ _ room).1 in
    let rows = ap bytes_in c.push_reserved.ensures.items ∙ bytes_more c.self.inside.rows.items _ in
    let bytes = ap length c.in-Ok.ensures.items ∙ length-append c.self.inside.bytes.items c.args.bytes.now in
    let total = sound.total in
    let row_room = c.push_reserved.ensures.capacity in
    let byte_room = c.in-Ok.ensures.capacity in
    record {
      total = omega (arith, rows, bytes, total);
      few = omega (arith, bytes, fits);
      rows_fit = λ unsealed. (let fit = sound.rows_fit unsealed in omega (arith, row_room, fit));
      bytes_fit = λ unsealed. (let fit = sound.bytes_fit unsealed in omega (arith, byte_room, fit));
    }

pub returns : goal.returns
returns c =
    let rows = c.self.inside.rows.items in
    let bytes = c.self.inside.bytes.items in
    let room : (nat_lt (length rows) most_entries && nat_le (length bytes + length c.args.bytes.now) most_bytes) ≡ true = grind (arith, common_steps) in
    let kept = log_kept rows (record { reader = c.args.reader; moment = c.args.moment; length = length c.args.bytes.now }) bytes c.args.bytes.now c.self.invariant.total refl c.requires.bytes room in
    subst (λ (l : LogState). record { entries = entries_in c.push_reserved.new.self.items c.extend_from_slice.new.self.items; byte_count = length c.extend_from_slice.new.self.items; sealed = c.self.inside.sealed } ≡ log_after (record { reader = c.args.reader; entry = entry_of c.args.moment c.args.bytes.now }) l) c.self.view_is
    (rw (c.push_reserved.ensures.items, c.in-Ok.ensures.items, c.if-self.false) kept)
