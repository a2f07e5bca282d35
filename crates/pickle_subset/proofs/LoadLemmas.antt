-- Instructions and actions that are carried out one after the other.
use Rattle.std.proofs.Common.{◌≡◌, ℕ, zero, suc, ◌<◌, ◌≤◌, Bool, true, false, cond, List, [], ◌∷◌, length, take, drop, Option, Some, None, Result, Ok, Err, refl, sym, ap, ◌∙◌, arith, length-drop}
use Rattle.std.specs.Prelude.{nat_lt, nat_le, ok_or, ◌^◌}
use Rattle.byteorder.specs.Endian.{little_number}
use Rattle.pickle_subset.specs.declared.fault.PickleFault.{PickleFault}
use Rattle.pickle_subset.specs.declared.fault.PickleFault.TheVariants.{Truncated, BadText, UnknownOpcode}
use Rattle.pickle_subset.specs.declared.opcode.Opcode.{Opcode}
use Rattle.pickle_subset.specs.declared.opcode.Form.{Form}
use Rattle.pickle_subset.specs.declared.opcode.Form.TheVariants.{Bytes, Counted, SignedCount}
use Rattle.pickle_subset.specs.Opcode.{opcode_of, form_of}
use Rattle.pickle_subset.specs.Instruction.{Instruction, ◌>>=◌, bytes_at, argument_at, instruction_at}
use Rattle.pickle_subset.specs.Value.{Row}
use Rattle.pickle_subset.specs.Table.{Action, action}
use Rattle.pickle_subset.specs.Stack.{State, act, finish}
use Rattle.pickle_subset.specs.Pickle.{instructions_from, instructions_in, instructions, is_stop, step, rows_from}
use Rattle.pickle_subset.specs.UsualRow.{followed_by, action_at, actions_at, acts}

abbrev Answer : Type 0
Answer = Result (List Row) PickleFault

abbrev Parts : Type 0
Parts = Result (List ℕ × List ℕ) PickleFault

same_ok : {X : Type 0} (x y : X) → ◌≡◌ {A = Result X PickleFault} (Ok x) (Ok y) → x ≡ y
same_ok x y e = cc

-- both parts of a pair
same_parts : {X : Type 0} (x y : X) (a b : List ℕ) → ◌≡◌ {A = Result (X × List ℕ) PickleFault} (Ok (x, a)) (Ok (y, b)) → (x ≡ y) × (a ≡ b)
same_parts {X} x y a b e =
    let pair : ◌≡◌ {A = X × List ℕ} (x, a) (y, b) = same_ok (x, a) (y, b) e in
    (ap (λ (p : X × List ℕ). p.0) pair, ap (λ (p : X × List ℕ). p.1) pair)

-- ---- what is left after an instruction is shorter

bytes_at-shorter : (n : ℕ) (bytes a rest : List ℕ) → bytes_at n bytes ≡ Ok (a, rest) → length rest ≤ length bytes
bytes_at-shorter n bytes a rest read = either (nat_lt (length bytes) n) read
  where
    either : (b : Bool) → cond {A = Parts} b (Err Truncated) (Ok (take n bytes, drop n bytes)) ≡ Ok (a, rest) → length rest ≤ length bytes
    either true is = absurd cc
    either false is = let left = (same_parts (take n bytes) a (drop n bytes) rest is).1 in omega (arith, ap length left, length-drop n bytes)

counted-shorter : (n : ℕ) (bytes a rest : List ℕ) (count : Parts) → bytes_at n bytes ≡ count
    → (count >>= λ c. bytes_at (little_number n c.0) c.1) ≡ Ok (a, rest) → length rest ≤ length bytes
counted-shorter n bytes a rest (Ok count) first read =
    omega (arith, bytes_at-shorter n bytes count.0 count.1 first, bytes_at-shorter (little_number n count.0) count.1 a rest read)
counted-shorter n bytes a rest (Err fault) first read = absurd cc

signed-shorter : (bytes a rest : List ℕ) (count : Parts) → bytes_at 4 bytes ≡ count
    → (count >>= λ c. cond (nat_le (2 ^ 31) (little_number 4 c.0)) (Err BadText) (bytes_at (little_number 4 c.0) c.1)) ≡ Ok (a, rest) → length rest ≤ length bytes
signed-shorter bytes a rest (Err fault) first read = absurd cc
signed-shorter bytes a rest (Ok count) first read = either (nat_le (2 ^ 31) (little_number 4 count.0)) read
  where
    either : (b : Bool) → cond b (Err BadText) (bytes_at (little_number 4 count.0) count.1) ≡ Ok (a, rest) → length rest ≤ length bytes
    either true is = absurd cc
    either false is = omega (arith, bytes_at-shorter 4 bytes count.0 count.1 first, bytes_at-shorter (little_number 4 count.0) count.1 a rest is)

argument_at-shorter : (f : Form) (bytes a rest : List ℕ) → argument_at f bytes ≡ Ok (a, rest) → length rest ≤ length bytes
argument_at-shorter (Bytes n) bytes a rest read = bytes_at-shorter n bytes a rest read
argument_at-shorter (Counted n) bytes a rest read = counted-shorter n bytes a rest (bytes_at n bytes) refl read
argument_at-shorter SignedCount bytes a rest read = signed-shorter bytes a rest (bytes_at 4 bytes) refl read

abbrev with_argument : Opcode → Parts → Result (Instruction × List ℕ) PickleFault
with_argument o r = r >>= λ a. Ok (record { opcode = o; argument = a.0 }, a.1)

after_opcode : (found : Option Opcode) (i : Instruction) (bytes rest : List ℕ)
    → (ok_or found UnknownOpcode >>= λ o. with_argument o (argument_at (form_of o) bytes)) ≡ Ok (i, rest)
    → length rest ≤ length bytes
after_opcode None i bytes rest read = absurd cc
after_opcode (Some o) i bytes rest read = either (argument_at (form_of o) bytes) refl read
  where
    either : (r : Parts) → argument_at (form_of o) bytes ≡ r → with_argument o r ≡ Ok (i, rest) → length rest ≤ length bytes
    either (Ok found) is read = let left = (same_parts (record { opcode = o; argument = found.0 }) i found.1 rest read).1 in omega (arith, ap length left, argument_at-shorter (form_of o) bytes found.0 found.1 is)
    either (Err fault) is read = absurd cc

pub instruction_at-shorter : (bytes rest : List ℕ) (i : Instruction) → instruction_at bytes ≡ Ok (i, rest) → length rest < length bytes
instruction_at-shorter [] rest i read = absurd cc
instruction_at-shorter (byte ∷ bytes) rest i read = omega (arith, after_opcode (opcode_of byte) i bytes rest read)

-- ---- a limit of at least as many instructions as bytes makes no difference

enough : (n m : ℕ) (bytes : List ℕ) → length bytes ≤ n → length bytes ≤ m → instructions_in n bytes ≡ instructions_in m bytes
enough zero zero bytes one other = refl
enough zero (suc m) [] one other = refl
enough zero (suc m) (byte ∷ bytes) one other = absurd (omega arith)
enough (suc n) zero [] one other = refl
enough (suc n) zero (byte ∷ bytes) one other = absurd (omega arith)
enough (suc n) (suc m) bytes one other = either (enough n m) (instruction_at bytes) refl
  where
    either : ((rest : List ℕ) → length rest ≤ n → length rest ≤ m → instructions_in n rest ≡ instructions_in m rest)
        → (r : Result (Instruction × List ℕ) PickleFault) → instruction_at bytes ≡ r → instructions_from r (instructions_in n) ≡ instructions_from r (instructions_in m)
    either fewer (Ok next) is =
        let less = instruction_at-shorter bytes next.1 next.0 is in
        ap (λ (others : List (Result Instruction PickleFault)). Ok next.0 ∷ others) (fewer next.1 (omega (arith, less)) (omega (arith, less)))
    either fewer (Err fault) is = refl

pub instructions-next : (bytes rest : List ℕ) (i : Instruction) → instruction_at bytes ≡ Ok (i, rest) → instructions bytes ≡ Ok i ∷ instructions rest
instructions-next [] rest i read = absurd cc
instructions-next (byte ∷ bytes) rest i read =
    let less = instruction_at-shorter (byte ∷ bytes) rest i read in
    ap (λ (r : Result (Instruction × List ℕ) PickleFault). instructions_from r (instructions_in (length bytes))) read
    ∙ ap (λ (others : List (Result Instruction PickleFault)). Ok i ∷ others) (enough (length bytes) (length rest) rest (omega (arith, less)) (omega arith))

-- ---- an instruction

-- what a pickle gives whose first instruction is read
then_gives : (s : State) (bytes rest : List ℕ) (i : Instruction) (total : Answer) → instruction_at bytes ≡ Ok (i, rest)
    → rows_from s (instructions bytes) ≡ total → cond (is_stop i.opcode) (finish s.stack s.rows) (step i s >>= λ t. rows_from t (instructions rest)) ≡ total
then_gives s bytes rest i total read so_far = sym (ap (rows_from s) (instructions-next bytes rest i read)) ∙ so_far

pub goes_on : (s next : State) (bytes rest : List ℕ) (i : Instruction) (total : Answer) → instruction_at bytes ≡ Ok (i, rest)
    → is_stop i.opcode ≡ false → step i s ≡ Ok next
    → rows_from s (instructions bytes) ≡ total → rows_from next (instructions rest) ≡ total
goes_on s next bytes rest i total read goes stepped so_far =
    sym (ap (λ (b : Bool). cond b (finish s.stack s.rows) (step i s >>= λ t. rows_from t (instructions rest))) goes ∙ ap (λ (r : Result State PickleFault). r >>= λ t. rows_from t (instructions rest)) stepped)
    ∙ then_gives s bytes rest i total read so_far

-- ---- actions

-- the instruction of an action
pub record Says (bytes : List ℕ) (what : Action) (rest : List ℕ) : Type 0 where
  pub instruction : Instruction
  pub read : instruction_at bytes ≡ Ok (instruction, rest)
  pub goes : is_stop instruction.opcode ≡ false
  pub says : action instruction.opcode instruction.argument ≡ Ok what

says : (bytes rest : List ℕ) (what : Action) → action_at bytes ≡ Ok (what, rest) → Says bytes what rest
says bytes rest what is = either (instruction_at bytes) refl is
  where
    taken : (after : List ℕ) (r : Result Action PickleFault) → followed_by after r ≡ Ok (what, rest) → (after ≡ rest) × (r ≡ Ok what)
    taken after (Ok x) e = let parts = same_parts x what after rest e in (parts.1, ap Ok parts.0)
    taken after (Err fault) e = absurd cc

    either : (r : Result (Instruction × List ℕ) PickleFault) → instruction_at bytes ≡ r
        → (r >>= λ n. followed_by n.1 (cond (is_stop n.0.opcode) (Err UnknownOpcode) (action n.0.opcode n.0.argument))) ≡ Ok (what, rest) → Says bytes what rest
    either (Err fault) read e = absurd cc
    either (Ok next) read e = of_stop (is_stop next.0.opcode) refl e
      where
        of_stop : (b : Bool) → is_stop next.0.opcode ≡ b → followed_by next.1 (cond b (Err UnknownOpcode) (action next.0.opcode next.0.argument)) ≡ Ok (what, rest) → Says bytes what rest
        of_stop true stop e = absurd cc
        of_stop false stop e =
            let parts = taken next.1 (action next.0.opcode next.0.argument) e in
            record { instruction = next.0; read = read ∙ ap (λ (left : List ℕ). Ok (next.0, left)) parts.0; goes = stop; says = parts.1 }

act-on : (s next : State) (bytes rest : List ℕ) (what : Action) (total : Answer) → action_at bytes ≡ Ok (what, rest) → act what s ≡ Ok next
    → rows_from s (instructions bytes) ≡ total → rows_from next (instructions rest) ≡ total
act-on s next bytes rest what total is done so_far =
    let x = says bytes rest what is in
    goes_on s next bytes rest x.instruction total x.read x.goes
    (ap (λ (r : Result Action PickleFault). r >>= λ w. act w s) x.says ∙ done) so_far

abbrev behind_action : Action → Result (List Action × List ℕ) PickleFault → Result (List Action × List ℕ) PickleFault
behind_action what r = r >>= λ others. Ok (what ∷ others.0, others.1)

-- the first of more actions, and the others
pub record First (n : ℕ) (bytes : List ℕ) (whats : List Action) (rest : List ℕ) : Type 0 where
  pub what : Action
  pub after : List ℕ
  pub others : List Action
  pub first : action_at bytes ≡ Ok (what, after)
  pub more : actions_at n after ≡ Ok (others, rest)
  pub all : whats ≡ what ∷ others

first_of : (n : ℕ) (bytes rest : List ℕ) (whats : List Action) → actions_at (suc n) bytes ≡ Ok (whats, rest) → First n bytes whats rest
first_of n bytes rest whats is = either (action_at bytes) refl is
  where
    either : (r : Result (Action × List ℕ) PickleFault) → action_at bytes ≡ r
        → (r >>= λ first. behind_action first.0 (actions_at n first.1)) ≡ Ok (whats, rest) → First n bytes whats rest
    either (Err fault) first e = absurd cc
    either (Ok found) first e = of_others (actions_at n found.1) refl e
      where
        of_others : (r : Result (List Action × List ℕ) PickleFault) → actions_at n found.1 ≡ r → behind_action found.0 r ≡ Ok (whats, rest) → First n bytes whats rest
        of_others (Err fault) more e = absurd cc
        of_others (Ok others) more e =
            let parts = same_parts (found.0 ∷ others.0) whats others.1 rest e in
            record {
              what = found.0;
              after = found.1;
              others = others.0;
              first = first;
              more = more ∙ ap (λ (b : List ℕ). Ok (others.0, b)) parts.1;
              all = sym parts.0;
            }

pub actions_at-shorter : (n : ℕ) (bytes rest : List ℕ) (whats : List Action) → actions_at n bytes ≡ Ok (whats, rest) → length rest ≤ length bytes
actions_at-shorter zero bytes rest whats is = omega (arith, ap length (same_parts [] whats bytes rest is).1)
actions_at-shorter (suc n) bytes rest whats is =
    let f = first_of n bytes rest whats is in
    let x = says bytes f.after f.what f.first in
    omega (arith, instruction_at-shorter bytes f.after x.instruction x.read, actions_at-shorter n f.after rest f.others f.more)

pub actions_at-less : (n : ℕ) (bytes rest : List ℕ) (whats : List Action) → actions_at (suc n) bytes ≡ Ok (whats, rest) → length rest < length bytes
actions_at-less n bytes rest whats is =
    let f = first_of n bytes rest whats is in
    let x = says bytes f.after f.what f.first in
    omega (arith, instruction_at-shorter bytes f.after x.instruction x.read, actions_at-shorter n f.after rest f.others f.more)

pub all_go_on : (n : ℕ) (s next : State) (bytes rest : List ℕ) (whats : List Action) (total : Answer) → actions_at n bytes ≡ Ok (whats, rest) → acts whats s ≡ Ok next
    → rows_from s (instructions bytes) ≡ total → rows_from next (instructions rest) ≡ total
all_go_on zero s next bytes rest whats total is done so_far =
    let parts = same_parts [] whats bytes rest is in
    let state = same_ok s next (ap (λ (ws : List Action). acts ws s) parts.0 ∙ done) in
    sym (ap (λ (t : State). rows_from t (instructions rest)) state) ∙ sym (ap (λ (b : List ℕ). rows_from s (instructions b)) parts.1) ∙ so_far
all_go_on (suc n) s next bytes rest whats total is done so_far =
    let f = first_of n bytes rest whats is in
    either f (λ t ends gives. all_go_on n t next f.after rest f.others total f.more ends gives) (act f.what s) refl (sym (ap (λ (ws : List Action). acts ws s) f.all) ∙ done)
  where
    either : (f : First n bytes whats rest)
        → ((t : State) → acts f.others t ≡ Ok next → rows_from t (instructions f.after) ≡ total → rows_from next (instructions rest) ≡ total)
        → (r : Result State PickleFault) → act f.what s ≡ r → (r >>= acts f.others) ≡ Ok next → rows_from next (instructions rest) ≡ total
    either f others (Ok t) is e = others t e (act-on s t bytes f.after f.what total f.first is so_far)
    either f others (Err fault) is e = absurd cc
