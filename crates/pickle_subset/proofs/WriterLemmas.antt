-- What is written leads a reader from one state to another, and its memo holds what has been stored.
use Rattle.std.proofs.Common.{◌≡◌, ℕ, ◌+◌, ◌<◌, ◌≤◌, ◌^◌, Bool, true, false, cond, List, [], ◌∷◌, length, Option, Some, None, Result, Ok, refl, ap, ◌∙◌, arith}
use Rattle.std.specs.Prelude.{nat_lt, nat_le, ok_or, if◌then◌else◌}
use Rattle.std.specs.FinMap as fin
use Rattle.std.proofs.lemmas.Bool.{ltb-true}
use Rattle.byteorder.specs.Endian.{little_bytes}
use Rattle.byteorder.specs.Numbers.{length-bytes_low_first}
use Rattle.pickle_subset.specs.declared.fault.PickleFault.TheVariants.{BadShape, BadMemo}
use Rattle.pickle_subset.specs.declared.opcode.Opcode.{Opcode}
use Rattle.pickle_subset.specs.declared.opcode.Opcode.TheVariants as opcodes
use Rattle.pickle_subset.specs.Instruction.{◌>>=◌}
use Rattle.pickle_subset.specs.Value.{Item, Row, Marked}
use Rattle.pickle_subset.specs.Stack as stacks
use Rattle.pickle_subset.specs.Stack.{State, storable_item, is_list}
use Rattle.pickle_subset.specs.Pickle.{is_stop, step}
use Rattle.pickle_subset.specs.Python.{Objects, Token, Op, Begin, Written, Writer, number_of, op, ◌⨾◌, save, put, fetch, store, fetched_or, object, tuple}
use Rattle.pickle_subset.proofs.SpellingLemmas.{IsSpelled}
use Rattle.pickle_subset.proofs.FramingLemmas.{Walk, Walk-append}
use Rattle.pickle_subset.proofs.NumberLemmas.{little_back}
use Rattle.pickle_subset.proofs.StoredLemmas.{Memo, Holds, Holds-stored, number_of-below}

abbrev pub state : List Item → Memo → List Row → State
state stack memo rows = record { stack = stack; memo = memo; rows = rows }

-- what is written leads there, and stores at most this number of objects
pub record Arrives (objects : Objects) (stored : List ℕ) (most : ℕ) (old : State) (written : Written) (stack : List Item) (rows : List Row) : Type 0 where
  pub memo : Memo
  pub walk : Walk old written.0 (state stack memo rows)
  pub holds : Holds objects written.1 memo
  pub size : length written.1 ≤ length stored + most

-- the same of a writer, whatever has been stored
pub record Does (objects : Objects) (w : Writer) (most : ℕ) (old : List Item) (before : List Row) (new : List Item) (after : List Row) : Type 0 where
  pub does : (memo : Memo) (stored : List ℕ) → Holds objects stored memo → length stored + most ≤ 2 ^ 32 → Arrives objects stored most (state old memo before) (w stored) new after

module _ (objects : Objects) where
  pub Does-op : (opcode : Opcode) (argument : List ℕ) (old new : List Item) (before after : List Row) → IsSpelled (record { opcode = opcode; argument = argument }) → is_stop opcode ≡ false
      → ((memo : Memo) → step (record { opcode = opcode; argument = argument }) (state old memo before) ≡ Ok (state new memo after)) → Does objects (op opcode argument) 0 old before new after
  Does-op opcode argument old new before after spelled goes stepped = record {
    does = λ memo stored holds room. record { memo = memo; walk = (state new memo after, spelled, goes, stepped memo, refl); holds = holds; size = omega arith };
  }

  pub Does-within : (w : Writer) (m n : ℕ) (old new : List Item) (before after : List Row) → m ≤ n → Does objects w m old before new after → Does objects w n old before new after
  Does-within w m n old new before after le d = record {
    does = λ memo stored holds room.
        let a = d.does memo stored holds (omega arith) in
        record { memo = a.memo; walk = a.walk; holds = a.holds; size = omega (arith, a.size) };
  }

  pub Does-then : (v w : Writer) (m n : ℕ) (old mid new : List Item) (before between after : List Row) → Does objects v m old before mid between → Does objects w n mid between new after
      → Does objects (v ⨾ w) (m + n) old before new after
  Does-then v w m n old mid new before between after first second = record {
    does = λ memo stored holds room.
        let a = first.does memo stored holds (omega arith) in
        let b = second.does a.memo (v stored).1 a.holds (omega (arith, a.size)) in
        record {
          memo = b.memo;
          walk = Walk-append (state old memo before) (state mid a.memo between) (state new b.memo after) (v stored).0 (w (v stored).1).0 a.walk b.walk;
          holds = b.holds;
          size = omega (arith, a.size, b.size);
        };
  }

  -- ---- the memo

  stores : (number : ℕ) (item : Item) (stack : List Item) (memo : Memo) (rows : List Row) → storable_item stack ≡ Some item
      → stacks.store number (state stack memo rows) ≡ Ok (state stack (fin.insert memo number item) rows)
  stores number item stack memo rows is = ap (λ (found : Option Item). ok_or found BadMemo >>= λ i. Ok (state stack (fin.insert memo number i) rows)) is

  fetches : (number : ℕ) (item : Item) (stack : List Item) (memo : Memo) (rows : List Row) → fin.get memo number ≡ Some item → is_list item ≡ false
      → stacks.fetch number (state stack memo rows) ≡ Ok (state (item ∷ stack) memo rows)
  fetches number item stack memo rows found other =
      ap (λ (f : Option Item). ok_or f BadMemo >>= λ i. stacks.push_stored i (state stack memo rows)) found
      ∙ ap (λ (b : Bool). cond b (Result.Err BadShape) (stacks.push item (state stack memo rows))) other

  put_so : (b c : Bool) (protocol id : ℕ) (item : Item) (stack : List Item) (memo : Memo) (stored : List ℕ) (rows : List Row) → nat_lt (length stored) 256 ≡ c → objects id ≡ item → storable_item stack ≡ Some item
      → Holds objects stored memo → length stored + 1 ≤ 2 ^ 32
      → Arrives objects stored 1 (state stack memo rows)
      (((if b then op opcodes.Memoize [] else if c then op opcodes.BinPut (little_bytes 1 (length stored)) else op opcodes.LongBinPut (little_bytes 4 (length stored))) ⨾ Rattle.pickle_subset.specs.Python.note id) stored) stack rows
  put_so true c protocol id item stack memo stored rows short is can holds room =
      let stepped = ap (λ (n : ℕ). stacks.store n (state stack memo rows)) holds.size ∙ stores (length stored) item stack memo rows can in
      let next = state stack (fin.insert memo (length stored) item) rows in
      record { memo = next.memo; walk = (next, refl, refl, stepped, refl); holds = Holds-stored objects stored memo id item is holds; size = omega arith }
  put_so false true protocol id item stack memo stored rows short is can holds room =
      let few : length stored < 256 = ltb-true (length stored) 256 short in
      let stepped = ap (λ (n : ℕ). stacks.store n (state stack memo rows)) (little_back 1 (length stored) (omega arith)) ∙ stores (length stored) item stack memo rows can in
      let next = state stack (fin.insert memo (length stored) item) rows in
      record { memo = next.memo; walk = (next, length-bytes_low_first 0 1 (length stored), refl, stepped, refl); holds = Holds-stored objects stored memo id item is holds; size = omega arith }
  put_so false false protocol id item stack memo stored rows short is can holds room =
      let stepped = ap (λ (n : ℕ). stacks.store n (state stack memo rows)) (little_back 4 (length stored) (omega arith)) ∙ stores (length stored) item stack memo rows can in
      let next = state stack (fin.insert memo (length stored) item) rows in
      record { memo = next.memo; walk = (next, length-bytes_low_first 0 4 (length stored), refl, stepped, refl); holds = Holds-stored objects stored memo id item is holds; size = omega arith }

  pub Does-store : (protocol id : ℕ) (item : Item) (stack : List Item) (rows : List Row) → objects id ≡ item → storable_item stack ≡ Some item → Does objects (store protocol id) 1 stack rows stack rows
  Does-store protocol id item stack rows is can = record {
    does = λ memo stored holds room. put_so (nat_le 4 protocol) (nat_lt (length stored) 256) protocol id item stack memo stored rows refl is can holds room;
  }

  fetch_so : (b : Bool) (number : ℕ) (item : Item) (stack : List Item) (memo : Memo) (stored : List ℕ) (rows : List Row) → nat_lt number 256 ≡ b → fin.get memo number ≡ Some item → is_list item ≡ false
      → Holds objects stored memo → number < 2 ^ 32
      → Arrives objects stored 0 (state stack memo rows) ((if b then op opcodes.BinGet (little_bytes 1 number) else op opcodes.LongBinGet (little_bytes 4 number)) stored) (item ∷ stack) rows
  fetch_so true number item stack memo stored rows short found other holds room =
      let few : number < 256 = ltb-true number 256 short in
      let stepped = ap (λ (n : ℕ). stacks.fetch n (state stack memo rows)) (little_back 1 number (omega arith)) ∙ fetches number item stack memo rows found other in
      record { memo = memo; walk = (state (item ∷ stack) memo rows, length-bytes_low_first 0 1 number, refl, stepped, refl); holds = holds; size = omega arith }
  fetch_so false number item stack memo stored rows short found other holds room =
      let stepped = ap (λ (n : ℕ). stacks.fetch n (state stack memo rows)) (little_back 4 number (omega arith)) ∙ fetches number item stack memo rows found other in
      record { memo = memo; walk = (state (item ∷ stack) memo rows, length-bytes_low_first 0 4 number, refl, stepped, refl); holds = holds; size = omega arith }

  -- an object that is pushed, whatever the stack
  pub record Pushes (w : Writer) (most : ℕ) (item : Item) : Type 0 where
    pub pushes : (stack : List Item) (rows : List Row) → Does objects w most stack rows (item ∷ stack) rows

  -- what can be stored, and fetched again
  pub record CanStore (item : Item) : Type 0 where
    pub can : (stack : List Item) → storable_item (item ∷ stack) ≡ Some item
    pub other : is_list item ≡ false

  -- where an object begins is no instruction
  pub Does-save : (w : Writer) (most : ℕ) (old new : List Item) (before after : List Row) → Does objects w most old before new after → Does objects (save w) most old before new after
  Does-save w most old new before after d = record {
    does = λ memo stored holds room.
        let a = d.does memo stored holds room in
        record { memo = a.memo; walk = a.walk; holds = a.holds; size = a.size };
  }

  pub Pushes-save : (w : Writer) (most : ℕ) (item : Item) → Pushes w most item → Pushes (save w) most item
  Pushes-save w most item p = record {
    pushes = λ stack rows. Does-save w most stack (item ∷ stack) rows rows (p.pushes stack rows);
  }

  object_so : (found : Option ℕ) (protocol id : ℕ) (w : Writer) (most : ℕ) (item : Item) (stack : List Item) (memo : Memo) (stored : List ℕ) (rows : List Row) → number_of id stored ≡ found
      → objects id ≡ item → CanStore item → Pushes w most item → Holds objects stored memo → length stored + (most + 1) ≤ 2 ^ 32
      → Arrives objects stored (most + 1) (state stack memo rows) (fetched_or found (w ⨾ store protocol id) stored) (item ∷ stack) rows
  object_so None protocol id w most item stack memo stored rows found is s p holds room =
      let d = Does-then w (store protocol id) most 1 stack (item ∷ stack) (item ∷ stack) rows rows rows (p.pushes stack rows) (Does-store protocol id item (item ∷ stack) rows is (s.can stack)) in
      d.does memo stored holds room
  object_so (Some number) protocol id w most item stack memo stored rows found is s p holds room =
      let below = number_of-below id number stored found in
      let a = fetch_so (nat_lt number 256) number item stack memo stored rows refl (holds.each id number found ∙ ap Some is) s.other holds (omega arith) in
      record { memo = a.memo; walk = a.walk; holds = a.holds; size = omega (arith, a.size) }

  pub Pushes-object : (protocol id : ℕ) (w : Writer) (most : ℕ) (item : Item) → objects id ≡ item → CanStore item → Pushes w most item → Pushes (object protocol id w) (most + 1) item
  Pushes-object protocol id w most item is s p = record {
    pushes = λ stack rows. record {
      does = λ memo stored holds room.
          let a = object_so (number_of id stored) protocol id w most item stack memo stored rows refl is s p holds room in
          record { memo = a.memo; walk = a.walk; holds = a.holds; size = a.size };
    };
  }

  -- ---- tuples

  tuple_so : (b : Bool) (v w : Writer) (m n : ℕ) (first second item : Item) → stacks.tuple first second ≡ Some item → Pushes v m first → Pushes w n second
      → Pushes (if b then v ⨾ w ⨾ op opcodes.Tuple2 [] else op opcodes.Mark [] ⨾ v ⨾ w ⨾ op opcodes.Tuple []) (m + n) item
  tuple_so true v w m n first second item is p q = record {
    pushes = λ stack rows.
        let joined = λ (memo : Memo). ap (λ (found : Option Item). ok_or found BadShape >>= λ i. Ok (state (i ∷ stack) memo rows)) is in
        let last = Does-op opcodes.Tuple2 [] (second ∷ first ∷ stack) (item ∷ stack) rows rows refl refl joined in
        let two = Does-then w (op opcodes.Tuple2 []) n 0 (first ∷ stack) (second ∷ first ∷ stack) (item ∷ stack) rows rows rows (q.pushes (first ∷ stack) rows) last in
        let all = Does-then v (w ⨾ op opcodes.Tuple2 []) m (n + 0) stack (first ∷ stack) (item ∷ stack) rows rows rows (p.pushes stack rows) two in
        Does-within (v ⨾ w ⨾ op opcodes.Tuple2 []) (m + (n + 0)) (m + n) stack (item ∷ stack) rows rows (omega arith) all;
  }
  tuple_so false v w m n first second item is p q = record {
    pushes = λ stack rows.
        let marked = Marked ∷ stack in
        let joined = λ (memo : Memo). ap (λ (found : Option Item). ok_or found BadShape >>= λ i. Ok (state (i ∷ stack) memo rows)) is in
        let last = Does-op opcodes.Tuple [] (second ∷ first ∷ marked) (item ∷ stack) rows rows refl refl joined in
        let two = Does-then w (op opcodes.Tuple []) n 0 (first ∷ marked) (second ∷ first ∷ marked) (item ∷ stack) rows rows rows (q.pushes (first ∷ marked) rows) last in
        let three = Does-then v (w ⨾ op opcodes.Tuple []) m (n + 0) marked (first ∷ marked) (item ∷ stack) rows rows rows (p.pushes marked rows) two in
        let mark = Does-op opcodes.Mark [] stack marked rows rows refl refl (λ memo. refl) in
        let all = Does-then (op opcodes.Mark []) (v ⨾ w ⨾ op opcodes.Tuple []) 0 (m + (n + 0)) stack marked (item ∷ stack) rows rows rows mark three in
        Does-within (op opcodes.Mark [] ⨾ v ⨾ w ⨾ op opcodes.Tuple []) (0 + (m + (n + 0))) (m + n) stack (item ∷ stack) rows rows (omega arith) all;
  }

  pub Pushes-tuple : (protocol id : ℕ) (v w : Writer) (m n : ℕ) (first second item : Item) → stacks.tuple first second ≡ Some item → objects id ≡ item → CanStore item → Pushes v m first → Pushes w n second
      → Pushes (tuple protocol id v w) (m + n + 1) item
  Pushes-tuple protocol id v w m n first second item joins is s p q =
      Pushes-object protocol id _ (m + n) item is s (tuple_so (nat_le 2 protocol) v w m n first second item joins p q)
