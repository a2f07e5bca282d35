-- Steps of a writer, one after another.
use Rattle.std.proofs.Common.{◌≡◌, ℕ, ◌+◌, ◌-◌, ◌≤◌, ◌++◌, sym, arith, take-add, drop-drop}
use Rattle.std.proofs.lemmas.List.{drop_all}
use Rattle.std.proofs.lemmas.Grind.{common_steps}
use Rattle.dest_writer.specs.Writer.{WriterState, left, bytes_written, writer_after_write}
use Rattle.dest_writer.specs.Laws.{WritesAddUpLaw, LeavesTheRestLaw}

write_twice : (m n : ℕ) (w : WriterState) → m ≤ left w → n ≤ left w - m → writer_after_write n (writer_after_write m w) ≡ writer_after_write (m + n) w
write_twice m n w f s = grind (arith, common_steps)

bytes_twice : (m n : ℕ) (w : WriterState) → m ≤ left w → n ≤ left w - m → bytes_written (m + n) w ≡ bytes_written m w ++ bytes_written n (writer_after_write m w)
bytes_twice m n w f s = grind (arith, common_steps, take-add, drop-drop)

pub writes-add_up : WritesAddUpLaw
writes-add_up first second w within =
    let f : first ≤ left w = omega arith in
    let s : second ≤ left w - first = omega arith in
    record {
      step = write_twice first second w f s;
      bytes = sym (bytes_twice first second w f s);
    }

pub leaves-the_rest : LeavesTheRestLaw
leaves-the_rest count w within = grind (arith, common_steps, drop-drop, drop_all)
