-- Frames change nothing in what is read.
use Rattle.std.proofs.Common.{◌≡◌, ℕ, Bool, true, false, cond, List, [], ◌∷◌, ◌++◌, length, Ok, refl, sym, subst, append-nil}
use Rattle.std.specs.Prelude.{nat_lt}
use Rattle.byteorder.specs.Endian.{little_bytes}
use Rattle.byteorder.specs.Numbers.{length-bytes_low_first}
use Rattle.pickle_subset.specs.declared.opcode.Opcode.TheVariants as opcodes
use Rattle.pickle_subset.specs.Instruction.{Instruction}
use Rattle.pickle_subset.specs.Spelling.{instruction_bytes}
use Rattle.pickle_subset.specs.Value.{Row}
use Rattle.pickle_subset.specs.Stack.{State, finish}
use Rattle.pickle_subset.specs.Pickle.{is_stop, step}
use Rattle.pickle_subset.specs.Python.{Token, Op, Begin, spelled, frame, frames, bytes_of, ending}
use Rattle.pickle_subset.proofs.SpellingLemmas.{IsSpelled, Leads, Leads-none, Leads-one, Leads-append, Gives, Gives-stop, Gives-append}

-- ---- one frame

abbrev frame_opcode : List ℕ → Instruction
frame_opcode bytes = record { opcode = opcodes.Frame; argument = little_bytes 8 (length bytes) }

Leads-opcode : (s : State) (bytes : List ℕ) → Leads s (instruction_bytes (frame_opcode bytes)) s
Leads-opcode s bytes = Leads-one s s (frame_opcode bytes) (length-bytes_low_first 0 8 (length bytes)) refl refl

Leads-chosen : (s t : State) (b : Bool) (bytes : List ℕ) → Leads s bytes t → Leads s (cond b bytes (instruction_bytes (frame_opcode bytes) ++ bytes)) t
Leads-chosen s t true bytes l = l
Leads-chosen s t false bytes l = Leads-append s s t (instruction_bytes (frame_opcode bytes)) bytes (Leads-opcode s bytes) l

Leads-frame : (s t : State) (bytes : List ℕ) → Leads s bytes t → Leads s (frame bytes) t
Leads-frame s t bytes l = Leads-chosen s t (nat_lt (length bytes) 4) bytes l

Gives-chosen : (s : State) (rows : List Row) (b : Bool) (bytes : List ℕ) → Gives s bytes rows → Gives s (cond b bytes (instruction_bytes (frame_opcode bytes) ++ bytes)) rows
Gives-chosen s rows true bytes g = g
Gives-chosen s rows false bytes g = Gives-append s s (instruction_bytes (frame_opcode bytes)) bytes rows (Leads-opcode s bytes) g

Gives-frame : (s : State) (rows : List Row) (bytes : List ℕ) → Gives s bytes rows → Gives s (frame bytes) rows
Gives-frame s rows bytes g = Gives-chosen s rows (nat_lt (length bytes) 4) bytes g

-- ---- what is written one after the other

-- these tokens lead from one state to another, an instruction at a time
abbrev pub Walk : State → List Token → State → Type 0
Walk s [] t = s ≡ t
Walk s (Op i ∷ tokens) t = (m : State) × IsSpelled i × (is_stop i.opcode ≡ false) × (step i s ≡ Ok m) × Walk m tokens t
Walk s (Begin ∷ tokens) t = Walk s tokens t

pub Walk-append : (s m t : State) (a b : List Token) → Walk s a m → Walk m b t → Walk s (a ++ b) t
Walk-append s m t [] b first next = subst (λ (u : State). Walk u b t) (sym first) next
Walk-append s m t (Op i ∷ a) b first next = (first.0, first.1, first.2, first.3, Walk-append first.0 m t a b first.4 next)
Walk-append s m t (Begin ∷ a) b first next = Walk-append s m t a b first next

either : (s : State) (rows : List Row) (b : Bool) (x y : List ℕ) → Gives s x rows → Gives s y rows → Gives s (cond b x y) rows
either s rows true x y g h = g
either s rows false x y g h = h

abbrev stop : Instruction
stop = record { opcode = opcodes.Stop; argument = [] }

Gives-spelled : (tokens : List Token) (s t : State) (rows : List Row) → Walk s tokens t → finish t.stack t.rows ≡ Ok rows → Gives s (spelled (tokens ++ ending)) rows
Gives-spelled [] s t rows walk ends =
    subst (λ (bytes : List ℕ). Gives s bytes rows) (sym (append-nil (instruction_bytes stop)))
    (Gives-stop s rows (subst (λ (u : State). finish u.stack u.rows ≡ Ok rows) (sym walk) ends))
Gives-spelled (Op i ∷ tokens) s t rows walk ends =
    Gives-append s walk.0 (instruction_bytes i) (spelled (tokens ++ ending)) rows (Leads-one s walk.0 i walk.1 walk.2 walk.3) (Gives-spelled tokens walk.0 t rows walk.4 ends)
Gives-spelled (Begin ∷ tokens) s t rows walk ends = Gives-spelled tokens s t rows walk ends

Gives-frames : (tokens : List Token) (bytes : List ℕ) (s m t : State) (rows : List Row) → Leads s bytes m → Walk m tokens t → finish t.stack t.rows ≡ Ok rows
    → Gives s (frames bytes (tokens ++ ending)) rows
Gives-frames [] bytes s m t rows l walk ends =
    let stops : Gives m (instruction_bytes stop) rows = Gives-stop m rows (subst (λ (u : State). finish u.stack u.rows ≡ Ok rows) (sym walk) ends) in
    Gives-frame s rows (bytes ++ instruction_bytes stop) (Gives-append s m bytes (instruction_bytes stop) rows l stops)
Gives-frames (Op i ∷ tokens) bytes s m t rows l walk ends =
    let next : Leads m (instruction_bytes i) walk.0 = Leads-one m walk.0 i walk.1 walk.2 walk.3 in
    let others : Gives walk.0 (frames [] (tokens ++ ending)) rows = Gives-frames tokens [] walk.0 walk.0 t rows (Leads-none walk.0) walk.4 ends in
    either s rows (nat_lt (length i.argument) 65536) (frames (bytes ++ instruction_bytes i) (tokens ++ ending)) (frame bytes ++ instruction_bytes i ++ frames [] (tokens ++ ending))
    (Gives-frames tokens (bytes ++ instruction_bytes i) s walk.0 t rows (Leads-append s m walk.0 bytes (instruction_bytes i) l next) walk.4 ends)
    (Gives-append s walk.0 (frame bytes ++ instruction_bytes i) (frames [] (tokens ++ ending)) rows
    (Leads-append s m walk.0 (frame bytes) (instruction_bytes i) (Leads-frame s m bytes l) next) others)
Gives-frames (Begin ∷ tokens) bytes s m t rows l walk ends =
    either s rows (nat_lt (length bytes) 65536) (frames bytes (tokens ++ ending)) (frame bytes ++ frames [] (tokens ++ ending))
    (Gives-frames tokens bytes s m t rows l walk ends)
    (Gives-append s m (frame bytes) (frames [] (tokens ++ ending)) rows (Leads-frame s m bytes l) (Gives-frames tokens [] m m t rows (Leads-none m) walk ends))

pub Gives-bytes : (protocol : ℕ) (tokens : List Token) (s t : State) (rows : List Row) → Walk s tokens t → finish t.stack t.rows ≡ Ok rows
    → Gives s (bytes_of protocol (tokens ++ ending)) rows
Gives-bytes protocol tokens s t rows walk ends =
    either s rows (nat_lt protocol 4) (spelled (tokens ++ ending)) (frames [] (tokens ++ ending)) (Gives-spelled tokens s t rows walk ends)
    (Gives-frames tokens [] s s t rows (Leads-none s) walk ends)
