-- Reading the lines of a script one after the other.
use Rattle.std.proofs.Common.{◌≡◌, ℕ, ◌+◌, ◌≤◌, Bool, true, false, cond, List, [], ◌∷◌, ◌++◌, take, drop, length, Option, Some, None, Ok, Err, refl, sym, ap, ap₂, ◌∙◌, arith, inl, inr, append-nil, add-zero}
use Rattle.std.proofs.lemmas.List.{take_all, drop_all, length-take-le}
use Rattle.reader_core.specs.declared.kind.ReaderKind.{ReaderKind}
use Rattle.relay_base.proofs.Turns.{IsTurn, lines_up_to, lines_from}
use Rattle.relay_base.specs.Memory.{Fails}
use Rattle.replay.specs.declared.script_fault.ScriptFault.{ScriptFault}
use Rattle.replay.specs.declared.script_fault.ScriptFault.TheVariants.{BadLine, NoMemory}
use Rattle.replay.specs.ScriptEvent.{NumberedEvent}
use Rattle.replay.specs.ScriptLine.{Meaning, Skipped, Reader, Event, Bad}
use Rattle.replay.specs.ScriptSteps.{after_line, line_gives}
use Rattle.replay.specs.ScriptText.{ScriptText, kinds_of, events_after, script_in, is_faulty, first_fault, script_unless, is_without_readers}

-- ---- the script of one line more

kinds-append : (lines more : List Meaning) → kinds_of (lines ++ more) ≡ kinds_of lines ++ kinds_of more
kinds-append [] more = refl
kinds-append (Skipped ∷ lines) more = kinds-append lines more
kinds-append (Reader kind ∷ lines) more = ap (λ (ks : List ReaderKind). kind ∷ ks) (kinds-append lines more)
kinds-append (Event event ∷ lines) more = kinds-append lines more
kinds-append (Bad ∷ lines) more = kinds-append lines more

-- a number of lines and one more, and those of a list
one_on : (before : ℕ) (line : Meaning) (lines : List Meaning) → before + 1 + length lines ≡ before + length (line ∷ lines)
one_on before line lines = omega arith

events-append : (before : ℕ) (lines more : List Meaning) → events_after before (lines ++ more) ≡ events_after before lines ++ events_after (before + length lines) more
events-append before [] more = ap (λ k. events_after k more) (sym (add-zero before))
events-append before (Skipped ∷ lines) more =
    events-append (before + 1) lines more ∙ ap (λ k. events_after (before + 1) lines ++ events_after k more) (one_on before Skipped lines)
events-append before (Reader kind ∷ lines) more =
    events-append (before + 1) lines more ∙ ap (λ k. events_after (before + 1) lines ++ events_after k more) (one_on before (Reader kind) lines)
events-append before (Event event ∷ lines) more =
    ap (λ (es : List NumberedEvent). record { line = before + 1; event = event } ∷ es)
    (events-append (before + 1) lines more ∙ ap (λ k. events_after (before + 1) lines ++ events_after k more) (one_on before (Event event) lines))
events-append before (Bad ∷ lines) more =
    events-append (before + 1) lines more ∙ ap (λ k. events_after (before + 1) lines ++ events_after k more) (one_on before Bad lines)

joined : (ks ms : List ReaderKind) (es fs : List NumberedEvent) → ks ≡ ms → es ≡ fs → (let s : ScriptText = record { kinds = ks; events = es } in s) ≡ record { kinds = ms; events = fs }
joined ks ms es fs k e = λ i. record { kinds = k i; events = e i }

after_in : (lines : List Meaning) (line : Meaning) → after_line (script_in lines) (length lines + 1) line ≡ record { kinds = kinds_of lines ++ kinds_of (line ∷ []); events = events_after 0 lines ++ events_after (length lines) (line ∷ []) }
after_in lines Skipped = joined _ _ _ _ (sym (append-nil (kinds_of lines))) (sym (append-nil (events_after 0 lines)))
after_in lines (Reader kind) = joined _ _ _ _ refl (sym (append-nil (events_after 0 lines)))
after_in lines (Event event) = joined _ _ _ _ (sym (append-nil (kinds_of lines))) refl
after_in lines Bad = joined _ _ _ _ (sym (append-nil (kinds_of lines))) (sym (append-nil (events_after 0 lines)))

script-push : (lines : List Meaning) (line : Meaning) → script_in (lines ++ line ∷ []) ≡ after_line (script_in lines) (length lines + 1) line
script-push lines line =
    let count : 0 + length lines ≡ length lines = omega arith in
    joined _ _ _ _ (kinds-append lines (line ∷ [])) (events-append 0 lines (line ∷ []) ∙ ap (λ k. events_after 0 lines ++ events_after k (line ∷ [])) count)
    ∙ sym (after_in lines line)

-- ---- one turn

-- the script so far, and what is said of it and the rest
pub record IsRead (lines : List Meaning) (n : ℕ) (script : ScriptText) : Type 0 where
  pub script_is : script ≡ script_in (take n lines)
  pub same_fault : first_fault (take n lines) (drop n lines) ≡ first_fault [] lines

pub none_read : (lines : List Meaning) → IsRead lines 0 (record { kinds = []; events = [] })
none_read lines = record { script_is = refl; same_fault = refl }

-- what a test says of a line's answer
fine : (b : Bool) (fault : ScriptFault) (after new : ScriptText) → cond b (Err fault) (Ok after) ≡ Ok new → (b ≡ false) × (after ≡ new)
fine true fault after new e = absurd cc
fine false fault after new e = (refl, cc)

faulty : (b : Bool) (fault reported : ScriptFault) (after : ScriptText) → cond b (Err fault) (Ok after) ≡ Err reported → (b ≡ true) × (fault ≡ reported)
faulty true fault reported after e = (refl, cc)
faulty false fault reported after e = absurd cc

module _ (lines : List Meaning) (n : ℕ) (line : Meaning) (turn : IsTurn lines n line) where
  count : length (take n lines) ≡ n
  count = length-take-le n lines (omega (arith, turn.within))

  before : ScriptText
  before = script_in (take n lines)

  rest_fault : Option ScriptFault
  rest_fault = first_fault (take (n + 1) lines) (drop (n + 1) lines)

  faults_from : first_fault (take n lines) (drop n lines) ≡ cond (is_faulty before line) (Some (BadLine (n + 1))) rest_fault
  unfolding before rest_fault
  faults_from =
      ap (first_fault (take n lines)) (lines_from lines n line turn)
      ∙ ap₂ (λ (k : ℕ) (ls : List Meaning). cond (is_faulty before line) (Some (BadLine (k + 1))) (first_fault ls (drop (n + 1) lines))) count (sym (lines_up_to lines n line turn))

  module _ (old : ScriptText) (read : IsRead lines n old) where
    here : line_gives old (n + 1) line ≡ line_gives before (n + 1) line
    unfolding before
    here = ap (λ (s : ScriptText). line_gives s (n + 1) line) read.script_is

    pub one_more : (new : ScriptText) → line_gives old (n + 1) line ≡ Ok new → IsRead lines (n + 1) new
    unfolding before rest_fault
    one_more new e =
        let f = fine (is_faulty before line) (BadLine (n + 1)) (after_line before (n + 1) line) new (sym here ∙ e) in
        record {
          script_is = sym f.1 ∙ ap (λ (k : ℕ). after_line before (k + 1) line) (sym count) ∙ sym (script-push (take n lines) line) ∙ ap script_in (sym (lines_up_to lines n line turn));
          same_fault = sym (ap (λ (b : Bool). cond b (Some (BadLine (n + 1))) rest_fault) f.0) ∙ sym faults_from ∙ read.same_fault;
        }

    reported : (fault : ScriptFault) → line_gives old (n + 1) line ≡ Err fault → script_unless (first_fault [] lines) (script_in lines) ≡ Err fault
    unfolding before rest_fault
    reported fault e =
        let f = faulty (is_faulty before line) (BadLine (n + 1)) fault (after_line before (n + 1) line) (sym here ∙ e) in
        let first : first_fault [] lines ≡ Some (BadLine (n + 1)) = sym read.same_fault ∙ faults_from ∙ ap (λ (b : Bool). cond b (Some (BadLine (n + 1))) rest_fault) f.0 in
        ap (λ (o : Option ScriptFault). script_unless o (script_in lines)) first ∙ ap (λ (g : ScriptFault). Err g) f.1

    pub fails : (fault : ScriptFault) → Fails NoMemory (line_gives old (n + 1) line) fault → Fails NoMemory (script_unless (first_fault [] lines) (script_in lines)) fault
    fails fault (inl memory) = inl memory
    fails fault (inr e) = inr (reported fault e)

pub all_read : (lines : List Meaning) (n : ℕ) (script : ScriptText) → length lines ≤ n → IsRead lines n script → script_unless (first_fault [] lines) (script_in lines) ≡ script_unless None script
all_read lines n script le read =
    let whole = take_all n lines le in
    let clean : first_fault [] lines ≡ None = sym read.same_fault ∙ ap (first_fault (take n lines)) (drop_all n lines le) in
    ap₂ script_unless clean (sym (read.script_is ∙ ap script_in whole))

-- what is said in the end
pub without_readers : (script : ScriptText) (none : Bool) → none ≡ is_without_readers script → none ≡ true → script_unless None script ≡ Err (BadLine 0)
without_readers script none is e = ap (λ (b : Bool). cond b (Err (BadLine 0)) (Ok script)) (sym is ∙ e)

pub with_readers : (script : ScriptText) (none : Bool) → none ≡ is_without_readers script → none ≡ false → script_unless None script ≡ Ok script
with_readers script none is e = ap (λ (b : Bool). cond b (Err (BadLine 0)) (Ok script)) (sym is ∙ e)
