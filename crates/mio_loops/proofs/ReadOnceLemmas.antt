-- What one read of a connection comes to.
use Rattle.std.proofs.Common.{◌≡◌, ◌≢◌, ◌≤◌, ◌++◌, ◌∙◌, ◌==◌, if◌then◌else◌, ℕ, true, List, [], ◌∷◌, length, take, drop, nat_le, Option, None, Some, refl, sym, ap, subst, arith}
use Rattle.std.specs.Prelude.{IfSome}
use Rattle.std.proofs.lemmas.List.{append-nil}
use Rattle.std.proofs.lemmas.Grind.{common_steps}
use Rattle.std.proofs.lemmas.Bool.{and_from, false≢true, le-leb, eq-eqb}
use Rattle.std.specs.Io.KnownBytes.{Consumes}
use Rattle.dest_writer.specs.Counting.{raised_by, is_failure, Rose}
use Rattle.dest_writer.specs.declared.counting.Outcome.{Outcome}
use Rattle.dest_writer.specs.declared.counting.Outcome.TheVariants as outcome
use Rattle.reader_core.specs.Entries.{InputEntry, Piece, bytes_of_entries}
use Rattle.mio_loops.specs.Serving.{WasRead, IsFedAs, are_reads, is_read, fits_last, served_of, served_after, most_read}
use Rattle.mio_loops.specs.declared.served.Served.{Served}
use Rattle.mio_loops.specs.declared.served.Served.TheVariants.{Drained, Again, Ended, Failed, Starved, Refused}
use Rattle.mio_loops.proofs.WriteLoopLemmas.{refilled}
use Rattle.mio_loops.proofs.ServingLemmas.{again-failed, again-ended, again-refused, refused-failed}

-- ---- the room for a read

-- a buffer has as much room after a read into all of it as before
pub room-kept : (count : ℕ) (items news : List ℕ) → count ≡ length items → length items ≡ most_read → length news ≡ length items
    → length (take count (news ++ drop (length news) items)) ≡ most_read
room-kept count items news all room same = ap length (refilled count news (drop (length news) items) (all ∙ sym same)) ∙ same ∙ room

-- ---- answers that differ

pub ended-failed : Ended ≡ Failed → ⊥
ended-failed e = grind (arith, common_steps)

pub ended-refused : Ended ≡ Refused → ⊥
ended-refused e = grind (arith, common_steps)

starved-failed : Starved ≡ Failed → ⊥
starved-failed e = grind (arith, common_steps)

drained-ended : Drained ≡ Ended → ⊥
drained-ended e = grind (arith, common_steps)

drained-refused : Drained ≡ Refused → ⊥
drained-refused e = grind (arith, common_steps)

drained-failed : Drained ≡ Failed → ⊥
drained-failed e = grind (arith, common_steps)

starved-again : Starved ≡ Again → ⊥
starved-again e = grind (arith, common_steps)

drained-again : Drained ≡ Again → ⊥
drained-again e = grind (arith, common_steps)

-- after no one read is a connection to be served again
pub after-not-again : (r : Option Served) (o : Outcome) → r ≡ served_after o → IfSome r (λ (served : Served). served ≢ Again)
after-not-again r o is = subst (λ (s : Option Served). IfSome s (λ (served : Served). served ≢ Again)) (sym is) (each o)
  where
    each : (o : Outcome) → IfSome (served_after o) (λ (served : Served). served ≢ Again)
    each outcome.Moved = tt
    each outcome.WouldBlock = drained-again
    each outcome.Interrupted = tt
    each outcome.Failed = λ e. again-failed (sym e)

pub fed-not-again : (served : Option Served) (piece : List ℕ) (moment : ℕ) (pieces : List InputEntry) → IsFedAs piece moment pieces served → IfSome served (λ (s : Served). s ≢ Again)
fed-not-again None piece moment pieces is = tt
fed-not-again (Some Ended) piece moment pieces is = λ e. again-ended (sym e)
fed-not-again (Some Refused) piece moment pieces is = λ e. again-refused (sym e)
fed-not-again (Some Starved) piece moment pieces is = starved-again
fed-not-again (Some Drained) piece moment pieces is = absurd is
fed-not-again (Some Again) piece moment pieces is = absurd is
fed-not-again (Some Failed) piece moment pieces is = absurd is

-- ---- a piece was read, and was fed

read-whole : (a b : Option (List ℕ)) (piece : List ℕ) (moment : ℕ) (pieces : List InputEntry) (answer : Served)
    → pieces ≡ Piece piece moment ∷ [] → Consumes a b piece → WasRead a b pieces answer
read-whole a b piece moment pieces answer is consumed =
    let bytes : piece ≡ bytes_of_entries pieces ++ [] =
    sym (append-nil piece) ∙ sym (append-nil (piece ++ [])) ∙ ap (λ (es : List InputEntry). bytes_of_entries es ++ []) (sym is) in
    record { unfed = []; read = subst (Consumes a b) bytes consumed; fed = λ _. refl; few = omega arith }

fed-all : (served : Option Served) (a b : Option (List ℕ)) (piece : List ℕ) (moment : ℕ) (pieces : List InputEntry)
    → IsFedAs piece moment pieces served → length piece ≤ most_read → Consumes a b piece → WasRead a b pieces (served_of served)
fed-all None a b piece moment pieces is short consumed = read-whole a b piece moment pieces Again is consumed
fed-all (Some Ended) a b piece moment pieces is short consumed = read-whole a b piece moment pieces Ended is consumed
fed-all (Some Refused) a b piece moment pieces is short consumed = read-whole a b piece moment pieces Refused is consumed
fed-all (Some Starved) a b piece moment pieces is short consumed =
    record {
      unfed = piece;
      read = subst (Consumes a b) (ap (λ (es : List InputEntry). bytes_of_entries es ++ piece) (sym is)) consumed;
      fed = λ e. absurd (false≢true (sym e));
      few = short;
    }
fed-all (Some Drained) a b piece moment pieces is short consumed = absurd is
fed-all (Some Again) a b piece moment pieces is short consumed = absurd is
fed-all (Some Failed) a b piece moment pieces is short consumed = absurd is

pub fed-read : (served : Option Served) (a b : Option (List ℕ)) (piece taken : List ℕ) (moment : ℕ) (pieces : List InputEntry)
    → piece ≡ taken → IsFedAs piece moment pieces served → length piece ≤ most_read → Consumes a b taken → WasRead a b pieces (served_of served)
fed-read served a b piece taken moment pieces same is short consumed = fed-all served a b piece moment pieces is short (subst (Consumes a b) (sym same) consumed)

one-read : (piece : List ℕ) (moment : ℕ) (pieces : List InputEntry) → pieces ≡ Piece piece moment ∷ [] → length piece ≤ most_read → are_reads moment pieces ≡ true
one-read piece moment pieces is short =
    ap (λ (es : List InputEntry). are_reads moment es) is
    ∙ and_from (is_read moment (Piece piece moment)) true (and_from (nat_le (length piece) most_read) (moment == moment) (le-leb (length piece) most_read short) (eq-eqb moment moment refl)) refl

pub fed-reads : (served : Option Served) (piece : List ℕ) (moment : ℕ) (pieces : List InputEntry)
    → IsFedAs piece moment pieces served → length piece ≤ most_read → are_reads moment pieces ≡ true
fed-reads None piece moment pieces is short = one-read piece moment pieces is short
fed-reads (Some Ended) piece moment pieces is short = one-read piece moment pieces is short
fed-reads (Some Refused) piece moment pieces is short = one-read piece moment pieces is short
fed-reads (Some Starved) piece moment pieces is short = ap (λ (es : List InputEntry). are_reads moment es) is
fed-reads (Some Drained) piece moment pieces is short = absurd is
fed-reads (Some Again) piece moment pieces is short = absurd is
fed-reads (Some Failed) piece moment pieces is short = absurd is

pub fed-fits : (served : Option Served) (piece : List ℕ) (moment : ℕ) (pieces : List InputEntry) (last : Outcome)
    → IsFedAs piece moment pieces served → last ≡ outcome.Moved → fits_last (served_of served) last ≡ true
fed-fits None piece moment pieces last is moved = ap (fits_last Again) moved
fed-fits (Some Ended) piece moment pieces last is moved = ap (fits_last Ended) moved
fed-fits (Some Refused) piece moment pieces last is moved = ap (fits_last Refused) moved
fed-fits (Some Starved) piece moment pieces last is moved = ap (fits_last Starved) moved
fed-fits (Some Drained) piece moment pieces last is moved = absurd is
fed-fits (Some Again) piece moment pieces last is moved = absurd is
fed-fits (Some Failed) piece moment pieces last is moved = absurd is

pub fed-not-failed : (served : Option Served) (piece : List ℕ) (moment : ℕ) (pieces : List InputEntry)
    → IsFedAs piece moment pieces served → served_of served ≡ Failed → ⊥
fed-not-failed None piece moment pieces is e = again-failed e
fed-not-failed (Some Ended) piece moment pieces is e = ended-failed e
fed-not-failed (Some Refused) piece moment pieces is e = refused-failed e
fed-not-failed (Some Starved) piece moment pieces is e = starved-failed e
fed-not-failed (Some Drained) piece moment pieces is e = absurd is
fed-not-failed (Some Again) piece moment pieces is e = absurd is
fed-not-failed (Some Failed) piece moment pieces is e = absurd is

-- ---- a read gave an error of this outcome

fits-after : (o : Outcome) → fits_last (served_of (served_after o)) o ≡ true
fits-after outcome.Moved = refl
fits-after outcome.WouldBlock = refl
fits-after outcome.Interrupted = refl
fits-after outcome.Failed = refl

pub after-fits : (served : Option Served) (o last : Outcome) → served ≡ served_after o → last ≡ o → fits_last (served_of served) last ≡ true
after-fits served o last is same =
    ap (λ (s : Option Served). fits_last (served_of s) last) is ∙ ap (λ (l : Outcome). fits_last (served_of (served_after o)) l) same ∙ fits-after o

not-ended : (o : Outcome) → served_of (served_after o) ≡ Ended → ⊥
not-ended outcome.Moved e = again-ended e
not-ended outcome.WouldBlock e = drained-ended e
not-ended outcome.Interrupted e = again-ended e
not-ended outcome.Failed e = ended-failed (sym e)

pub after-not-ended : (served : Option Served) (o : Outcome) → served ≡ served_after o → served_of served ≡ Ended → ⊥
after-not-ended served o is e = not-ended o (ap (λ (s : Option Served). served_of s) (sym is) ∙ e)

not-refused : (o : Outcome) → served_of (served_after o) ≡ Refused → ⊥
not-refused outcome.Moved e = again-refused e
not-refused outcome.WouldBlock e = drained-refused e
not-refused outcome.Interrupted e = again-refused e
not-refused outcome.Failed e = refused-failed (sym e)

pub after-not-refused : (served : Option Served) (o : Outcome) → served ≡ served_after o → served_of served ≡ Refused → ⊥
after-not-refused served o is e = not-refused o (ap (λ (s : Option Served). served_of s) (sym is) ∙ e)

kept-after : (o : Outcome) (old new : ℕ) → new ≡ (if is_failure o then raised_by 1 old else old) → served_of (served_after o) ≢ Failed → new ≡ old
kept-after outcome.Moved old new counted other = counted
kept-after outcome.WouldBlock old new counted other = counted
kept-after outcome.Interrupted old new counted other = counted
kept-after outcome.Failed old new counted other = absurd (other refl)

pub after-kept : (served : Option Served) (o : Outcome) (old new : ℕ) → served ≡ served_after o → new ≡ (if is_failure o then raised_by 1 old else old)
    → served_of served ≢ Failed → new ≡ old
after-kept served o old new is counted other = kept-after o old new counted (λ e. other (ap (λ (s : Option Served). served_of s) is ∙ e))

rose-once : (old new : ℕ) → new ≡ raised_by 1 old → Rose old new
rose-once old new is = grind (arith, common_steps)

rose-after : (o : Outcome) (old new : ℕ) → new ≡ (if is_failure o then raised_by 1 old else old) → served_of (served_after o) ≡ Failed → Rose old new
rose-after outcome.Moved old new counted e = absurd (again-failed e)
rose-after outcome.WouldBlock old new counted e = absurd (drained-failed e)
rose-after outcome.Interrupted old new counted e = absurd (again-failed e)
rose-after outcome.Failed old new counted e = rose-once old new counted

pub after-rose : (served : Option Served) (o : Outcome) (old new : ℕ) → served ≡ served_after o → new ≡ (if is_failure o then raised_by 1 old else old)
    → served_of served ≡ Failed → Rose old new
after-rose served o old new is counted e = rose-after o old new counted (ap (λ (s : Option Served). served_of s) (sym is) ∙ e)
