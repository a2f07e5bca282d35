-- Reads of one connection, one after another.
use Rattle.std.proofs.Common.{◌≡◌, ◌⊎◌, ◌≤◌, ◌<◌, ◌+◌, ℕ, zero, suc, true, false, List, [], ◌∷◌, ◌++◌, Option, Some, None, refl, sym, ap, ◌∙◌, subst, arith, append_assoc}
use Rattle.std.proofs.lemmas.List.{append-nil}
use Rattle.std.proofs.lemmas.Grind.{common_steps}
use Rattle.std.proofs.lemmas.Bool.{and_parts, and_from, false≢true}
use Rattle.std.specs.Io.KnownBytes.{Consumes, Keeps}
use Rattle.line_text.specs.Datapoint.{Datapoint}
use Rattle.dest_writer.specs.Counting.{raised_by}
use Rattle.router.specs.Plan.{Plan}
use Rattle.reader_core.specs.Configuration.{Dispatch}
use Rattle.reader_core.specs.Entries.{InputEntry, Piece, End, bytes_of_entries, input_after_entries}
use Rattle.reader_core.specs.Laws.{ClosedLaw}
use Rattle.reader_core.specs.Reader.{ReaderModel, is_closed}
use Rattle.mio_loops.specs.Reading.{GoesOn, AreMadeOrRefused}
use Rattle.mio_loops.specs.Serving.{Closes, WasRead, is_read, are_reads, stays, with_end, fits_last}
use Rattle.mio_loops.specs.LoopState.{would_block}
use Rattle.mio_loops.specs.LoopSteps.{is_again}
use Rattle.dest_writer.specs.declared.counting.Outcome.{Outcome}
use Rattle.dest_writer.specs.declared.counting.Outcome.TheVariants as outcome
use Rattle.mio_loops.specs.declared.served.Served.{Served}
use Rattle.mio_loops.specs.declared.served.Served.TheVariants.{Drained, Again, Ended, Failed, Starved, Refused}

bytes-then : (xs ys : List InputEntry) → bytes_of_entries (xs ++ ys) ≡ bytes_of_entries xs ++ bytes_of_entries ys
bytes-then [] ys = refl
bytes-then (Piece bytes moment ∷ xs) ys = ap (λ (l : List ℕ). bytes ++ l) (bytes-then xs ys) ∙ sym (append_assoc bytes (bytes_of_entries xs) (bytes_of_entries ys))
bytes-then (End ∷ xs) ys = bytes-then xs ys

consumes-kept : (a b : Option (List ℕ)) → Keeps a b → Consumes a b []
consumes-kept None b kept = tt
consumes-kept (Some xs) None kept = absurd kept
consumes-kept (Some xs) (Some ys) kept = sym kept

pub Consumes-trans : (a b c : Option (List ℕ)) (bs cs : List ℕ) → Consumes a b bs → Consumes b c cs → Consumes a c (bs ++ cs)
Consumes-trans None b c bs cs p q = tt
Consumes-trans (Some x) None c bs cs p q = absurd p
Consumes-trans (Some x) (Some y) None bs cs p q = absurd q
Consumes-trans (Some x) (Some y) (Some z) bs cs p q = p ∙ ap (λ (l : List ℕ). bs ++ l) q ∙ sym (append_assoc bs cs z)

Consumes-none : (a : Option (List ℕ)) → Consumes a a []
Consumes-none None = tt
Consumes-none (Some xs) = refl

-- no read was made
pub read-not : (a : Option (List ℕ)) (answer : Served) → WasRead a a [] answer
read-not a answer = record { unfed = []; read = Consumes-none a; fed = λ _. refl; few = omega arith }

-- a read gave an error
pub read-kept : (a b : Option (List ℕ)) (answer : Served) → Keeps a b → WasRead a b [] answer
read-kept a b answer kept = record { unfed = []; read = consumes-kept a b kept; fed = λ _. refl; few = omega arith }

-- a read gave no bytes
pub read-none : (a b : Option (List ℕ)) (bytes : List ℕ) (answer : Served) → bytes ≡ [] → Consumes a b bytes → WasRead a b [] answer
read-none a b bytes answer none consumed = record { unfed = []; read = subst (Consumes a b) none consumed; fed = λ _. refl; few = omega arith }

-- one read after others that left more to read
pub read-then : (a b c : Option (List ℕ)) (xs ys : List InputEntry) (answer : Served) → WasRead a b xs Again → WasRead b c ys answer → WasRead a c (xs ++ ys) answer
read-then a b c xs ys answer first second =
    let all = Consumes-trans a b c (bytes_of_entries xs) (bytes_of_entries ys ++ second.unfed)
    (subst (Consumes a b) (ap (λ (l : List ℕ). bytes_of_entries xs ++ l) (first.fed refl) ∙ append-nil (bytes_of_entries xs)) first.read) second.read in
    record {
      unfed = second.unfed;
      read = subst (Consumes a c) (sym (append_assoc (bytes_of_entries xs) (bytes_of_entries ys) second.unfed) ∙ ap (λ (l : List ℕ). l ++ second.unfed) (sym (bytes-then xs ys))) all;
      fed = second.fed;
      few = second.few;
    }

-- ---- each piece is what one read gave, at one moment

pub reads-then : (moment : ℕ) (xs ys : List InputEntry) → are_reads moment xs ≡ true → are_reads moment ys ≡ true → are_reads moment (xs ++ ys) ≡ true
reads-then moment [] ys first second = second
reads-then moment (x ∷ xs) ys first second =
    let both = and_parts (is_read moment x) (are_reads moment xs) first in
    and_from (is_read moment x) (are_reads moment (xs ++ ys)) both.0 (reads-then moment xs ys both.1 second)

-- ---- a connection that a piece closed

pub closes-by : ClosedLaw → (plan : Plan) (es : List InputEntry) (made : List Dispatch) (x y : ReaderModel) → GoesOn plan es made x y → is_closed y ≡ true → Closes plan (Some x) es
closes-by law plan es made x y goes closed = λ kind input taken represents.
    sym (law y kind plan (input_after_entries kind es input) (taken ++ made) (goes kind input taken represents).represents) ∙ closed

-- ---- counts

pub raised-within : (more old new most : ℕ) → more ≤ most → new ≡ raised_by more old → new ≤ old + most
raised-within more old new most few is = grind (arith, common_steps)

raised-again : (more old now next : ℕ) → now ≡ raised_by more old → next ≡ raised_by 1 now → next ≡ raised_by (more + 1) old
raised-again more old now next is then = grind (arith, common_steps)

-- one call more
pub calls-next : (made old now next : ℕ) → (0 < made → now ≡ raised_by made old) → (made ≡ 0 → now ≡ old) → next ≡ raised_by 1 now → next ≡ raised_by (made + 1) old
calls-next zero old now next some none is = is ∙ ap (raised_by 1) (none refl)
calls-next (suc made) old now next some none is = raised-again (suc made) old now next (some (omega arith)) is

-- ---- answers that differ

pub refused-failed : Refused ≡ Failed → ⊥
refused-failed e = grind (arith, common_steps)

pub again-failed : Again ≡ Failed → ⊥
again-failed e = grind (arith, common_steps)

pub again-ended : Again ≡ Ended → ⊥
again-ended e = grind (arith, common_steps)

pub refused-ended : Refused ≡ Ended → ⊥
refused-ended e = grind (arith, common_steps)

pub again-refused : Again ≡ Refused → ⊥
again-refused e = grind (arith, common_steps)

-- ---- the end of a reader

pub with_end-stays : (served : Served) (pieces : List InputEntry) → stays served ≡ true → with_end served pieces ≡ pieces
with_end-stays answer pieces is = rw is refl

pub with_end-leaves : (served : Served) (pieces : List InputEntry) → stays served ≡ false → with_end served pieces ≡ pieces ++ End ∷ []
with_end-leaves answer pieces is = rw is refl

-- a connection that stays, and whose last read would not have had to wait, is to be served again
pub again-where-unblocked : (served : Served) (last : Outcome) → stays served ≡ true → fits_last served last ≡ true → would_block last ≡ false → is_again served ≡ true
again-where-unblocked Again last stay fits free = refl
again-where-unblocked Drained outcome.WouldBlock stay fits free = absurd (false≢true (sym free))
again-where-unblocked Drained outcome.Moved stay fits free = absurd (false≢true fits)
again-where-unblocked Drained outcome.Interrupted stay fits free = absurd (false≢true fits)
again-where-unblocked Drained outcome.Failed stay fits free = absurd (false≢true fits)
again-where-unblocked Ended last stay fits free = absurd (false≢true stay)
again-where-unblocked Failed last stay fits free = absurd (false≢true stay)
again-where-unblocked Starved last stay fits free = absurd (false≢true stay)
again-where-unblocked Refused last stay fits free = absurd (false≢true stay)

-- ---- offers that wait

module _ (refuses : ℕ → Datapoint → Type 0) (dests : ℕ) where
  pub none-waits : (waiting : List Dispatch) → waiting ≡ [] → AreMadeOrRefused refuses dests waiting
  none-waits waiting none = subst (λ (w : List Dispatch). AreMadeOrRefused refuses dests w) (sym none) tt

  pub first-waits : (waiting others : List Dispatch) (sent : Dispatch) → waiting ≡ sent ∷ others → (dests ≤ sent.dest) ⊎ refuses sent.dest sent.point
      → AreMadeOrRefused refuses dests waiting
  first-waits waiting others sent is why = subst (λ (w : List Dispatch). AreMadeOrRefused refuses dests w) (sym is) why

-- by as many destinations
pub waits-among : (refuses : ℕ → Datapoint → Type 0) (dests few : ℕ) (waiting : List Dispatch) → dests ≡ few
    → AreMadeOrRefused refuses dests waiting → AreMadeOrRefused refuses few waiting
waits-among refuses dests few waiting is waits = subst (λ (n : ℕ). AreMadeOrRefused refuses n waiting) is waits
