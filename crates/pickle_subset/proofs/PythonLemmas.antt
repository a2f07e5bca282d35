-- What Python writes of a list of rows is read as these rows.
use Rattle.std.proofs.Common.{◌≡◌, ℕ, zero, suc, ◌+◌, ◌*◌, ◌<◌, ◌≤◌, ◌^◌, Bool, true, false, cond, List, [], ◌∷◌, ◌++◌, length, map, Option, Some, Result, Ok, refl, sym, ap, subst, ◌∙◌, append_assoc, arith}
use Rattle.std.specs.Prelude.{ℤ, pos, negsuc, nat_lt, nat_le, ◌&&◌, ok_or, option_map, if◌then◌else◌}
use Rattle.std.specs.List.{AllByRecursion}
use Rattle.std.proofs.lemmas.Bool.{ltb-true, lt-ltb, le-leb}
use Rattle.std.proofs.lemmas.List.{append-nil}
use Rattle.byteorder.specs.Endian.{little_bytes, big_bytes}
use Rattle.byteorder.specs.Numbers.{length-bytes_low_first, length-bytes_high_first}
use Rattle.pickle_subset.specs.declared.fault.PickleFault.TheVariants.{UnknownOpcode, BadShape, BadText}
use Rattle.pickle_subset.specs.declared.opcode.Opcode.TheVariants as opcodes
use Rattle.pickle_subset.specs.Instruction.{◌>>=◌}
use Rattle.pickle_subset.specs.Spelling.{instruction_bytes}
use Rattle.pickle_subset.specs.Value as values
use Rattle.pickle_subset.specs.Value.{Item, Marked, Rows, One, Two, Three}
use Rattle.pickle_subset.specs.Table.{Action, Push, Pass}
use Rattle.pickle_subset.specs.Stack as stacks
use Rattle.pickle_subset.specs.Stack.{State, opening, rows_above, with_row}
use Rattle.pickle_subset.specs.Pickle.{rows_of}
use Rattle.pickle_subset.specs.Python as python
use Rattle.pickle_subset.specs.Python.{Objects, Scalar, Str, Int, Float, Nothing, Row, IsText, IsScalar, IsRow, IsRows, widest, fits, magnitude, long_size, signed_bytes, is_short, text, signed_number, whole, scalar, tuple, row, batches, items, list, header, bytes_of, ending, pickle_of, op, save, store, ◌⨾◌, scalar_of, pair_of, row_of}
use Rattle.pickle_subset.proofs.SpellingLemmas.{Leads, Leads-none, Leads-one, Gives-append, rows_of-gives}
use Rattle.pickle_subset.proofs.FramingLemmas.{Gives-bytes}
use Rattle.pickle_subset.proofs.NumberLemmas.{little_back, big_back, length-signed_bytes, signed_back, IsSize-4, long_is}
use Rattle.pickle_subset.proofs.StoredLemmas.{Holds-nothing}
use Rattle.pickle_subset.proofs.WriterLemmas.{state, Does, Does-op, Does-then, Does-within, Does-store, CanStore, Does-save, Pushes, Pushes-save, Pushes-object, Pushes-tuple}

module _ (objects : Objects) where
  -- ---- texts and numbers

  pushes_text : (b : Bool) (t : python.Text) → IsText objects t → (b ≡ true → length t.text < 256) → Pushes objects (op (if b then opcodes.ShortBinUnicode else opcodes.BinUnicode) t.text) 0 (One (values.Text t.text))
  pushes_text true t is short = record {
    pushes = λ stack rows. Does-op objects opcodes.ShortBinUnicode t.text stack (One (values.Text t.text) ∷ stack) rows rows (short refl) refl (λ memo.
        ap (λ (b : Bool). cond b (Ok (Push (values.Text t.text))) (Result.Err BadText) >>= λ what. stacks.act what (state stack memo rows)) is.utf8);
  }
  pushes_text false t is short = record {
    pushes = λ stack rows. Does-op objects opcodes.BinUnicode t.text stack (One (values.Text t.text) ∷ stack) rows rows (omega (arith, is.size)) refl (λ memo.
        ap (λ (b : Bool). cond b (Ok (Push (values.Text t.text))) (Result.Err BadText) >>= λ what. stacks.act what (state stack memo rows)) is.utf8);
  }

  both : (a b : Bool) → a && b ≡ true → b ≡ true
  both true b e = e
  both false b e = absurd cc

  stores_one : (s : values.Scalar) → CanStore objects (One s)
  stores_one s = record { can = λ stack. refl; other = refl }

  Pushes-text : (protocol : ℕ) (t : python.Text) → IsText objects t → Pushes objects (text protocol t) 1 (One (values.Text t.text))
  Pushes-text protocol t is =
      Pushes-object objects protocol t.id (op (if is_short protocol t.text then opcodes.ShortBinUnicode else opcodes.BinUnicode) t.text) 0 (One (values.Text t.text)) is.object (stores_one (values.Text t.text))
      (pushes_text (is_short protocol t.text) t is (λ e. ltb-true (length t.text) 256 (both (nat_le 4 protocol) (nat_lt (length t.text) 256) e)))

  pushes_signed : (b : Bool) (number : ℤ) → fits 4 number ≡ b → fits 8 number ≡ true → Pushes objects (if b then op opcodes.BinInt (signed_bytes 4 number) else op opcodes.Long1 (signed_bytes (long_size number) number)) 0 (One (values.Whole number))
  pushes_signed true number four eight = record {
    pushes = λ stack rows. Does-op objects opcodes.BinInt (signed_bytes 4 number) stack (One (values.Whole number) ∷ stack) rows rows (length-signed_bytes 4 number) refl (λ memo.
        ap (λ (n : ℤ). Ok (state (One (values.Whole n) ∷ stack) memo rows)) (signed_back 4 number IsSize-4 four));
  }
  pushes_signed false number four eight =
      let size = long_size number in
      let l = long_is number eight in
      let bytes = signed_bytes size number in
      let len : length bytes ≡ size = length-signed_bytes size number in
      let few : nat_le (length bytes) 8 ≡ true = le-leb (length bytes) 8 (omega (arith, len, l.most)) in
      record {
        pushes = λ stack rows. Does-op objects opcodes.Long1 bytes stack (One (values.Whole number) ∷ stack) rows rows (omega (arith, len, l.most)) refl (λ memo.
            ap (λ (b : Bool). Ok (state (One (cond b (values.Whole (Rattle.pickle_subset.specs.Table.signed_number bytes)) values.Other) ∷ stack) memo rows)) few
            ∙ ap (λ (n : ℤ). Ok (state (One (values.Whole n) ∷ stack) memo rows)) (signed_back size number l.is_size l.is_fit));
      }

  pushes_small : (b c : Bool) (n : ℕ) → nat_lt n 256 ≡ b → nat_lt n 65536 ≡ c → fits 8 (pos n) ≡ true
      → Pushes objects (if b then op opcodes.BinInt1 (little_bytes 1 n) else if c then op opcodes.BinInt2 (little_bytes 2 n) else signed_number (pos n)) 0 (One (values.Whole (pos n)))
  pushes_small true c n one two eight =
      let below : n < 256 = ltb-true n 256 one in
      record {
        pushes = λ stack rows. Does-op objects opcodes.BinInt1 (little_bytes 1 n) stack (One (values.Whole (pos n)) ∷ stack) rows rows (length-bytes_low_first 0 1 n) refl (λ memo.
            ap (λ (m : ℕ). Ok (state (One (values.Whole (pos m)) ∷ stack) memo rows)) (little_back 1 n (omega arith)));
      }
  pushes_small false true n one two eight =
      let below : n < 65536 = ltb-true n 65536 two in
      record {
        pushes = λ stack rows. Does-op objects opcodes.BinInt2 (little_bytes 2 n) stack (One (values.Whole (pos n)) ∷ stack) rows rows (length-bytes_low_first 0 2 n) refl (λ memo.
            ap (λ (m : ℕ). Ok (state (One (values.Whole (pos m)) ∷ stack) memo rows)) (little_back 2 n (omega arith)));
      }
  pushes_small false false n one two eight = pushes_signed (fits 4 (pos n)) (pos n) refl eight

  Pushes-whole : (number : ℤ) → fits 8 number ≡ true → Pushes objects (whole number) 0 (One (values.Whole number))
  Pushes-whole (pos n) eight = pushes_small (nat_lt n 256) (nat_lt n 65536) n refl refl eight
  Pushes-whole (negsuc n) eight = pushes_signed (fits 4 (negsuc n)) (negsuc n) refl eight

  Pushes-within : (w : python.Writer) (item : Item) → Pushes objects w 0 item → Pushes objects (save w) 1 item
  Pushes-within w item p = Pushes-save objects w 1 item (record { pushes = λ stack rows. Does-within objects w 0 1 stack (item ∷ stack) rows rows (omega arith) (p.pushes stack rows) })

  all_fit : (b : Bool) (number : ℤ) → fits (if b then 8 else 4) number ≡ true → fits 8 number ≡ true
  all_fit true number e = e
  all_fit false number e =
      let below : magnitude number < 2 ^ 31 = ltb-true (magnitude number) (2 ^ 31) e in
      lt-ltb (magnitude number) (2 ^ 63) (omega arith)

  Pushes-scalar : (protocol : ℕ) (s : Scalar) → IsScalar protocol objects s → Pushes objects (scalar protocol s) 1 (One (scalar_of s))
  Pushes-scalar protocol (Str t) is = Pushes-text protocol t is
  Pushes-scalar protocol (Int number) is = Pushes-within (whole number) (One (values.Whole number)) (Pushes-whole number (all_fit (nat_le 2 protocol) number is))
  Pushes-scalar protocol (Float bits) is =
      Pushes-within (op opcodes.BinFloat (big_bytes 8 bits)) (One (values.Binary bits)) (record {
        pushes = λ stack rows. Does-op objects opcodes.BinFloat (big_bytes 8 bits) stack (One (values.Binary bits) ∷ stack) rows rows (length-bytes_high_first 8 bits) refl (λ memo.
            ap (λ (b : ℕ). Ok (state (One (values.Binary b) ∷ stack) memo rows)) (big_back 8 bits (omega arith)));
      })
  Pushes-scalar protocol Nothing is =
      Pushes-within (op opcodes.None []) (One values.Other) (record {
        pushes = λ stack rows. Does-op objects opcodes.None [] stack (One values.Other ∷ stack) rows rows refl refl (λ memo. refl);
      })

  -- ---- a row

  Pushes-row : (protocol : ℕ) (r : Row) → IsRow protocol objects r → Pushes objects (row protocol r) 5 (Three (row_of r))
  Pushes-row protocol r is =
      let pair = Pushes-tuple objects protocol r.pair (scalar protocol r.time) (scalar protocol r.value) 1 1 (One (scalar_of r.time)) (One (scalar_of r.value)) (Two (pair_of r)) refl is.pair
      (record { can = λ stack. refl; other = refl }) (Pushes-scalar protocol r.time is.time) (Pushes-scalar protocol r.value is.value) in
      Pushes-tuple objects protocol r.id (text protocol r.path) (tuple protocol r.pair (scalar protocol r.time) (scalar protocol r.value)) 1 3 (One (values.Text r.path.text)) (Two (pair_of r)) (Three (row_of r)) refl is.row
      (record { can = λ stack. refl; other = refl }) (Pushes-text protocol r.path is.path) pair

  -- ---- the list

  abbrev rows_as : List Row → List values.Row
  rows_as rows = map row_of rows

  appends : (stack : List Item) (above done : List values.Row) → rows_above stack ≡ Some (above, Rows ∷ []) → Does objects (op opcodes.Appends []) 0 stack done (Rows ∷ []) (done ++ above)
  appends stack above done is = Does-op objects opcodes.Appends [] stack (Rows ∷ []) done (done ++ above) refl refl (λ memo.
      ap (λ (found : Option (List values.Row × List Item)). ok_or found BadShape >>= λ f. stacks.append_rows f.0 f.1 (state stack memo done)) is)

  regroup : (done above rest : List values.Row) (r : values.Row) → done ++ ((above ++ r ∷ []) ++ rest) ≡ done ++ (above ++ r ∷ rest)
  regroup done above rest r = ap (λ (rs : List values.Row). done ++ rs) (append_assoc above (r ∷ []) rest)

  Does-batches : (protocol left : ℕ) (rows : List Row) (stack : List Item) (above done : List values.Row) → AllByRecursion (IsRow protocol objects) rows → rows_above stack ≡ Some (above, Rows ∷ [])
      → Does objects (batches protocol left rows) (5 * length rows) stack done (Rows ∷ []) (done ++ (above ++ rows_as rows))
  Does-batches protocol left [] stack above done are is =
      subst (λ (all : List values.Row). Does objects (op opcodes.Appends []) 0 stack done (Rows ∷ []) (done ++ all)) (sym (append-nil above)) (appends stack above done is)
  Does-batches protocol zero (r ∷ rows) stack above done are is =
      let base = Rows ∷ [] in
      let marked = Marked ∷ base in
      let mid = done ++ above in
      let rest = Does-batches protocol 999 rows (Three (row_of r) ∷ marked) (row_of r ∷ []) mid are.1 refl in
      let first = Does-then objects (row protocol r) (batches protocol 999 rows) 5 (5 * length rows) marked (Three (row_of r) ∷ marked) base mid mid (mid ++ (row_of r ∷ rows_as rows)) ((Pushes-row protocol r are.0).pushes marked mid) rest in
      let mark = Does-op objects opcodes.Mark [] base marked mid mid refl refl (λ memo. refl) in
      let second = Does-then objects (op opcodes.Mark []) (row protocol r ⨾ batches protocol 999 rows) 0 (5 + 5 * length rows) base marked base mid mid (mid ++ (row_of r ∷ rows_as rows)) mark first in
      let all = Does-then objects (op opcodes.Appends []) (op opcodes.Mark [] ⨾ row protocol r ⨾ batches protocol 999 rows) 0 (0 + (5 + 5 * length rows)) stack base base done mid (mid ++ (row_of r ∷ rows_as rows)) (appends stack above done is) second in
      subst (λ (rs : List values.Row). Does objects (op opcodes.Appends [] ⨾ op opcodes.Mark [] ⨾ row protocol r ⨾ batches protocol 999 rows) (5 * suc (length rows)) stack done base rs)
      (append_assoc done above (row_of r ∷ rows_as rows))
      (Does-within objects (op opcodes.Appends [] ⨾ op opcodes.Mark [] ⨾ row protocol r ⨾ batches protocol 999 rows) (0 + (0 + (5 + 5 * length rows))) (5 * suc (length rows)) stack base done (mid ++ (row_of r ∷ rows_as rows)) (omega arith) all)
  Does-batches protocol (suc left) (r ∷ rows) stack above done are is =
      let found = ap (option_map (with_row (row_of r))) is in
      let rest = Does-batches protocol left rows (Three (row_of r) ∷ stack) (above ++ row_of r ∷ []) done are.1 found in
      let all = Does-then objects (row protocol r) (batches protocol left rows) 5 (5 * length rows) stack (Three (row_of r) ∷ stack) (Rows ∷ []) done done (done ++ ((above ++ row_of r ∷ []) ++ rows_as rows)) ((Pushes-row protocol r are.0).pushes stack done) rest in
      subst (λ (rs : List values.Row). Does objects (row protocol r ⨾ batches protocol left rows) (5 * suc (length rows)) stack done (Rows ∷ []) rs)
      (regroup done above (rows_as rows) (row_of r))
      (Does-within objects (row protocol r ⨾ batches protocol left rows) (5 + 5 * length rows) (5 * suc (length rows)) stack (Rows ∷ []) done (done ++ ((above ++ row_of r ∷ []) ++ rows_as rows)) (omega arith) all)

  Does-items : (protocol : ℕ) (rows : List Row) → AllByRecursion (IsRow protocol objects) rows → Does objects (items protocol rows) (5 * length rows) (Rows ∷ []) [] (Rows ∷ []) (rows_as rows)
  Does-items protocol [] are = record { does = λ memo stored holds room. record { memo = memo; walk = refl; holds = holds; size = omega arith } }
  Does-items protocol (r ∷ []) are =
      let base = Rows ∷ [] in
      let append = Does-op objects opcodes.Append [] (Three (row_of r) ∷ base) base [] (row_of r ∷ []) refl refl (λ memo. refl) in
      Does-then objects (row protocol r) (op opcodes.Append []) 5 0 base (Three (row_of r) ∷ base) base [] [] (row_of r ∷ []) ((Pushes-row protocol r are.0).pushes base []) append
  Does-items protocol (r ∷ next ∷ rows) are =
      let base = Rows ∷ [] in
      let marked = Marked ∷ base in
      let others = next ∷ rows in
      let rest = Does-batches protocol 999 others (Three (row_of r) ∷ marked) (row_of r ∷ []) [] are.1 refl in
      let first = Does-then objects (row protocol r) (batches protocol 999 others) 5 (5 * length others) marked (Three (row_of r) ∷ marked) base [] [] (row_of r ∷ rows_as others) ((Pushes-row protocol r are.0).pushes marked []) rest in
      let mark = Does-op objects opcodes.Mark [] base marked [] [] refl refl (λ memo. refl) in
      let all = Does-then objects (op opcodes.Mark []) (row protocol r ⨾ batches protocol 999 others) 0 (5 + 5 * length others) base marked base [] [] (row_of r ∷ rows_as others) mark first in
      Does-within objects (op opcodes.Mark [] ⨾ row protocol r ⨾ batches protocol 999 others) (0 + (5 + 5 * length others)) (5 * suc (length others)) base base [] (row_of r ∷ rows_as others) (omega arith) all

  Does-list : (protocol : ℕ) (l : python.Rows) → IsRows protocol objects l → Does objects (list protocol l) (1 + 5 * length l.rows) [] [] (Rows ∷ []) (rows_as l.rows)
  Does-list protocol l is =
      let base = Rows ∷ [] in
      let begin = Does-op objects opcodes.EmptyList [] [] base [] [] refl refl (λ memo. refl) in
      let stored = Does-store objects protocol l.id Rows base [] is.list refl in
      let rest = Does-then objects (store protocol l.id) (items protocol l.rows) 1 (5 * length l.rows) base base base [] [] (rows_as l.rows) stored (Does-items protocol l.rows is.rows) in
      let all = Does-then objects (op opcodes.EmptyList []) (store protocol l.id ⨾ items protocol l.rows) 0 (1 + 5 * length l.rows) [] base base [] [] (rows_as l.rows) begin rest in
      let written = op opcodes.EmptyList [] ⨾ store protocol l.id ⨾ items protocol l.rows in
      Does-save objects written (1 + 5 * length l.rows) [] base [] (rows_as l.rows)
      (Does-within objects written (0 + (1 + 5 * length l.rows)) (1 + 5 * length l.rows) [] base [] (rows_as l.rows) (omega arith) all)

  -- ---- the pickle

  headed : (b : Bool) (protocol : ℕ) → protocol ≤ 5 → Leads opening (if b then instruction_bytes (record { opcode = opcodes.Proto; argument = protocol ∷ [] }) else []) opening
  headed true protocol last =
      let number : Rattle.byteorder.specs.Endian.little_number 1 (protocol ∷ []) ≡ protocol = omega arith in
      let known : nat_le (Rattle.byteorder.specs.Endian.little_number 1 (protocol ∷ [])) 5 ≡ true = ap (λ (n : ℕ). nat_le n 5) number ∙ le-leb protocol 5 last in
      Leads-one opening opening (record { opcode = opcodes.Proto; argument = protocol ∷ [] }) refl refl (ap (λ (b : Bool). cond b (Ok Pass) (Result.Err UnknownOpcode) >>= λ what. stacks.act what opening) known)
  headed false protocol last = Leads-none opening

  pub reads-python : (protocol : ℕ) (l : python.Rows) → protocol ≤ 5 → IsRows protocol objects l → rows_of (pickle_of protocol l) ≡ Ok (rows_as l.rows)
  reads-python protocol l last is =
      let d = Does-list protocol l is in
      let a = d.does Rattle.std.specs.FinMap.empty [] (Holds-nothing objects) (omega (arith, is.size)) in
      let g = Gives-bytes protocol (list protocol l []).0 opening (state (Rows ∷ []) a.memo (rows_as l.rows)) (rows_as l.rows) a.walk refl in
      rows_of-gives (pickle_of protocol l) (rows_as l.rows)
      (Gives-append opening opening (header protocol) (bytes_of protocol ((list protocol l []).0 ++ ending)) (rows_as l.rows) (headed (nat_le 2 protocol) protocol last) g)
