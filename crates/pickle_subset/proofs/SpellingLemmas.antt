-- An instruction is read back from its bytes; bytes that lead from one state to another, and bytes that end a pickle.
use Rattle.std.proofs.Common.{◌≡◌, ℕ, suc, ◌+◌, ◌-◌, ◌<◌, ◌≤◌, ◌^◌, Bool, false, cond, List, [], ◌∷◌, ◌++◌, length, Option, Some, Result, Ok, refl, sym, ap, ◌∙◌, append_assoc, arith}
use Rattle.std.specs.Prelude.{ok_or}
use Rattle.std.proofs.lemmas.Bool.{le-ltb}
use Rattle.std.proofs.lemmas.List.{append-nil, length-append, take_at, drop_at}
use Rattle.byteorder.specs.Endian.{little_bytes, little_number}
use Rattle.byteorder.specs.Numbers.{little_number-reads_back, length-bytes_low_first}
use Rattle.pickle_subset.specs.declared.fault.PickleFault.{PickleFault}
use Rattle.pickle_subset.specs.declared.fault.PickleFault.TheVariants.{UnknownOpcode}
use Rattle.pickle_subset.specs.declared.opcode.Opcode.{Opcode}
use Rattle.pickle_subset.specs.declared.opcode.Opcode.TheVariants.{Proto, Frame, Mark, Stop, EmptyList, Append, Appends, Tuple, Tuple2, BinInt, BinInt1, BinInt2, Long1, BinFloat, BinUnicode, ShortBinUnicode, BinString, ShortBinString, BinPut, LongBinPut, BinGet, LongBinGet, Memoize, None, NewTrue, NewFalse}
use Rattle.pickle_subset.specs.declared.opcode.Form.{Form}
use Rattle.pickle_subset.specs.declared.opcode.Form.TheVariants.{Bytes, Counted, SignedCount}
use Rattle.pickle_subset.specs.Opcode.{opcode_of, form_of}
use Rattle.pickle_subset.specs.Instruction.{Instruction, ◌>>=◌, bytes_at, argument_at, instruction_at}
use Rattle.pickle_subset.specs.Spelling.{byte_of, argument_bytes, instruction_bytes}
use Rattle.pickle_subset.specs.Value.{Row}
use Rattle.pickle_subset.specs.Stack.{State, opening, finish}
use Rattle.pickle_subset.specs.Pickle.{instructions_from, instructions_in, is_stop, step, rows_from, rows_of}

-- ---- an instruction

opcode_back : (o : Opcode) → opcode_of (byte_of o) ≡ Some o
opcode_back Proto = refl
opcode_back Frame = refl
opcode_back Mark = refl
opcode_back Stop = refl
opcode_back EmptyList = refl
opcode_back Append = refl
opcode_back Appends = refl
opcode_back Tuple = refl
opcode_back Tuple2 = refl
opcode_back BinInt = refl
opcode_back BinInt1 = refl
opcode_back BinInt2 = refl
opcode_back Long1 = refl
opcode_back BinFloat = refl
opcode_back BinUnicode = refl
opcode_back ShortBinUnicode = refl
opcode_back BinString = refl
opcode_back ShortBinString = refl
opcode_back BinPut = refl
opcode_back LongBinPut = refl
opcode_back BinGet = refl
opcode_back LongBinGet = refl
opcode_back Memoize = refl
opcode_back None = refl
opcode_back NewTrue = refl
opcode_back NewFalse = refl

bytes_at-append : (n : ℕ) (a rest : List ℕ) → length a ≡ n → bytes_at n (a ++ rest) ≡ Ok (a, rest)
bytes_at-append n a rest len =
    let long : n ≤ length (a ++ rest) = omega (arith, len, length-append a rest) in
    rw (le-ltb (length (a ++ rest)) n long, take_at a rest n len, drop_at a rest n len) refl

-- an argument has the size of its form, or a length that can be written
abbrev pub HasSpelling : Form → List ℕ → Type 0
HasSpelling (Bytes n) argument = length argument ≡ n
HasSpelling (Counted n) argument = length argument < 256 ^ n
HasSpelling SignedCount argument = ⊥

argument_back : (f : Form) (a rest : List ℕ) → HasSpelling f a → argument_at f (argument_bytes f a ++ rest) ≡ Ok (a, rest)
argument_back (Bytes n) a rest spelled = bytes_at-append n a rest spelled
argument_back (Counted n) a rest spelled =
    let head = little_bytes n (length a) in
    let first : bytes_at n (head ++ (a ++ rest)) ≡ Ok (head, a ++ rest) = bytes_at-append n head (a ++ rest) (length-bytes_low_first 0 n (length a)) in
    let says : little_number n head ≡ length a = ap (little_number n) (sym (append-nil head)) ∙ little_number-reads_back n (length a) [] spelled in
    ap (argument_at (Counted n)) (append_assoc head a rest)
    ∙ ap (λ (r : Result (List ℕ × List ℕ) PickleFault). r >>= λ count. bytes_at (little_number n count.0) count.1) first
    ∙ ap (λ (m : ℕ). bytes_at m (a ++ rest)) says
    ∙ bytes_at-append (length a) a rest refl
argument_back SignedCount a rest spelled = absurd spelled

abbrev pub IsSpelled : Instruction → Type 0
IsSpelled i = HasSpelling (form_of i.opcode) i.argument

instruction_back : (i : Instruction) (rest : List ℕ) → IsSpelled i → instruction_at (instruction_bytes i ++ rest) ≡ Ok (i, rest)
instruction_back i rest spelled =
    let bytes = argument_bytes (form_of i.opcode) i.argument ++ rest in
    ap (λ (found : Option Opcode). ok_or found UnknownOpcode >>= λ o. argument_at (form_of o) bytes >>= λ a. Ok (record { opcode = o; argument = a.0 }, a.1)) (opcode_back i.opcode)
    ∙ ap (λ (r : Result (List ℕ × List ℕ) PickleFault). r >>= λ a. Ok (record { opcode = i.opcode; argument = a.0 }, a.1)) (argument_back (form_of i.opcode) i.argument rest spelled)

-- ---- bytes that lead from one state to another, whatever follows

pub record Leads (s : State) (bytes : List ℕ) (t : State) : Type 0 where
  pub count : ℕ
  pub within : count ≤ length bytes
  pub leads : (n : ℕ) (rest : List ℕ) → rows_from s (instructions_in (count + n) (bytes ++ rest)) ≡ rows_from t (instructions_in n rest)

one_more : (s : State) (i : Instruction) (n : ℕ) (rest : List ℕ) → IsSpelled i
    → rows_from s (instructions_in (1 + n) (instruction_bytes i ++ rest)) ≡ rows_from s (Ok i ∷ instructions_in n rest)
one_more s i n rest spelled =
    let e : 1 + n ≡ suc n = omega arith in
    ap (λ (m : ℕ). rows_from s (instructions_in m (instruction_bytes i ++ rest))) e
    ∙ ap (λ (r : Result (Instruction × List ℕ) PickleFault). rows_from s (instructions_from r (instructions_in n))) (instruction_back i rest spelled)

pub Leads-none : (s : State) → Leads s [] s
Leads-none s = record {
  count = 0;
  within = omega arith;
  leads = λ n rest. let e : 0 + n ≡ n = omega arith in ap (λ (m : ℕ). rows_from s (instructions_in m rest)) e;
}

pub Leads-one : (s t : State) (i : Instruction) → IsSpelled i → is_stop i.opcode ≡ false → step i s ≡ Ok t → Leads s (instruction_bytes i) t
Leads-one s t i spelled goes stepped = record {
  count = 1;
  within = omega arith;
  leads = λ n rest.
      one_more s i n rest spelled
      ∙ ap (λ (b : Bool). cond b (finish s.stack s.rows) (step i s >>= λ next. rows_from next (instructions_in n rest))) goes
      ∙ ap (λ (r : Result State PickleFault). r >>= λ next. rows_from next (instructions_in n rest)) stepped;
}

-- the instructions that lead there are first
leads-first : (s m : State) (a b : List ℕ) (l : Leads s a m) (more n : ℕ) (rest : List ℕ)
    → rows_from s (instructions_in (l.count + more + n) ((a ++ b) ++ rest)) ≡ rows_from m (instructions_in (more + n) (b ++ rest))
leads-first s m a b l more n rest =
    let e : l.count + more + n ≡ l.count + (more + n) = omega arith in
    ap (λ (k : ℕ). rows_from s (instructions_in k ((a ++ b) ++ rest))) e
    ∙ ap (λ (bytes : List ℕ). rows_from s (instructions_in (l.count + (more + n)) bytes)) (append_assoc a b rest)
    ∙ l.leads (more + n) (b ++ rest)

pub Leads-append : (s m t : State) (a b : List ℕ) → Leads s a m → Leads m b t → Leads s (a ++ b) t
Leads-append s m t a b l r = record {
  count = l.count + r.count;
  within = omega (arith, length-append a b);
  leads = λ n rest. leads-first s m a b l r.count n rest ∙ r.leads n rest;
}

-- ---- bytes that end a pickle

pub record Gives (s : State) (bytes : List ℕ) (rows : List Row) : Type 0 where
  pub count : ℕ
  pub within : count ≤ length bytes
  pub gives : (n : ℕ) (rest : List ℕ) → rows_from s (instructions_in (count + n) (bytes ++ rest)) ≡ Ok rows

abbrev stop : Instruction
stop = record { opcode = Stop; argument = [] }

pub Gives-stop : (s : State) (rows : List Row) → finish s.stack s.rows ≡ Ok rows → Gives s (instruction_bytes stop) rows
Gives-stop s rows ends = record {
  count = 1;
  within = omega arith;
  gives = λ n rest. one_more s stop n rest refl ∙ ends;
}

pub Gives-append : (s m : State) (a b : List ℕ) (rows : List Row) → Leads s a m → Gives m b rows → Gives s (a ++ b) rows
Gives-append s m a b rows l r = record {
  count = l.count + r.count;
  within = omega (arith, length-append a b);
  gives = λ n rest. leads-first s m a b l r.count n rest ∙ r.gives n rest;
}

pub rows_of-gives : (bytes : List ℕ) (rows : List Row) → Gives opening bytes rows → rows_of bytes ≡ Ok rows
rows_of-gives bytes rows g =
    let e : length bytes ≡ g.count + (length bytes - g.count) = omega (arith, g.within) in
    ap (λ (k : ℕ). rows_from opening (instructions_in k bytes)) e
    ∙ ap (λ (all : List ℕ). rows_from opening (instructions_in (g.count + (length bytes - g.count)) all)) (sym (append-nil bytes))
    ∙ g.gives (length bytes - g.count) []
