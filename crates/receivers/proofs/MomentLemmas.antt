-- The moments of what readers were fed.
use Rattle.std.proofs.Common.{◌≡◌, ◌==◌, ◌+◌, ◌-◌, ◌≤◌, ◌<◌, ◌⊎◌, ◌≢◌, inl, inr, ◌∙◌, ◌++◌, if◌then◌else◌, ℕ, Bool, true, false, List, [], ◌∷◌, length, slice_get, Option, Some, None, refl, sym, ap, subst, arith}
use Rattle.std.specs.Prelude.{nat_le}
use Rattle.std.proofs.lemmas.Bool.{and_parts, and_from, cases_eq, cases_lt, eq-eqb, eqb-true, false≢true}
use Rattle.dest_writer.specs.declared.counting.Counting.{Counting}
use Rattle.line_text.specs.Datapoint.{Datapoint}
use Rattle.router.specs.Plan.{Plan}
use Rattle.reader_core.specs.Configuration.{Dispatch}
use Rattle.reader_core.specs.Entries.{InputEntry, Piece, End, LoggedEntry, entries_of}
use Rattle.reader_core.specs.Reader.{ReaderModel}
use Rattle.queue_records.specs.Offers.{OffersMade}
use Rattle.mio_loops.specs.LoopState.{LoopState}
use Rattle.mio_loops.specs.LoopSteps.{LoopProgress, ConnectionProgress, NoneHeldBack}
use Rattle.mio_loops.specs.Reading.{ReaderOffer, AreMadeOrRefused, entries_by, offers_by}
use Rattle.mio_loops.specs.ReadTurn.{TurnServed, answer_at}
use Rattle.mio_loops.specs.Serving.{IsFedAs, are_reads, is_read, most_read, stays, with_end}
use Rattle.mio_loops.specs.declared.served.Served.{Served}
use Rattle.mio_loops.specs.declared.served.Served.TheVariants.{Drained, Again, Ended, Failed, Starved, Refused}
use Rattle.mio_loops.proofs.LoopLemmas.{entries-own, entries-other, entries-then, loop-none, loop-then}
use Rattle.mio_loops.proofs.ReadingLemmas.{goes-none}
use Rattle.receivers.specs.Datagrams.{is_at}
use Rattle.receivers.specs.Record.{has_moment, have_moments}
use Rattle.receivers.specs.Turns.{TurnsProgress}

pub moments-then : (may_give : ℕ → Bool) (xs ys : List InputEntry) → have_moments may_give xs ≡ true → have_moments may_give ys ≡ true → have_moments may_give (xs ++ ys) ≡ true
moments-then may_give [] ys first second = second
moments-then may_give (x ∷ xs) ys first second =
    let both = and_parts (has_moment may_give x) (have_moments may_give xs) first in
    and_from (has_moment may_give x) (have_moments may_give (xs ++ ys)) both.0 (moments-then may_give xs ys both.1 second)

is-reported : (may_give : ℕ → Bool) (moment other : ℕ) → may_give moment ≡ true → (other == moment) ≡ true → may_give other ≡ true
is-reported may_give moment other reported is = ap may_give (eqb-true other moment is) ∙ reported

-- entries of this moment, if the clock may return it
pub moments-reported : (may_give : ℕ → Bool) (moment : ℕ) (es : List InputEntry) → may_give moment ≡ true → have_moments (is_at moment) es ≡ true → have_moments may_give es ≡ true
moments-reported may_give moment [] reported at = refl
moments-reported may_give moment (Piece bytes other ∷ es) reported at =
    let both = and_parts (is_at moment other) (have_moments (is_at moment) es) at in
    and_from (may_give other) (have_moments may_give es) (is-reported may_give moment other reported both.0) (moments-reported may_give moment es reported both.1)
moments-reported may_give moment (End ∷ es) reported at = moments-reported may_give moment es reported at

-- ---- one connection served

reads-moments : (may_give : ℕ → Bool) (moment : ℕ) (es : List InputEntry) → may_give moment ≡ true → are_reads moment es ≡ true → have_moments may_give es ≡ true
reads-moments may_give moment [] reported reads = refl
reads-moments may_give moment (Piece bytes other ∷ es) reported reads =
    let both = and_parts (is_read moment (Piece bytes other)) (are_reads moment es) reads in
    let parts = and_parts (nat_le (length bytes) most_read) (other == moment) both.0 in
    and_from (may_give other) (have_moments may_give es) (is-reported may_give moment other reported parts.1) (reads-moments may_give moment es reported both.1)
reads-moments may_give moment (End ∷ es) reported reads = absurd (false≢true reads)

end-moments : (may_give : ℕ → Bool) (answer : Served) (pieces : List InputEntry) → have_moments may_give pieces ≡ true → have_moments may_give (with_end answer pieces) ≡ true
end-moments may_give answer pieces reported =
    elim (stays answer) as (λ b. have_moments may_give (if b then pieces else pieces ++ End ∷ []) ≡ true) [
      | true ↦ reported
      | false ↦ moments-then may_give pieces (End ∷ []) reported refl
    ]

module _ {S : Type 0} (remaining : S → Option (List ℕ)) where
  connection-moments : (plan : Plan) (may_give : ℕ → Bool) (moment : ℕ) (answer : Option Served) (es : List InputEntry) (made : List Dispatch) (reader next : Option ReaderModel) (before after : Option (Counting S))
      → may_give moment ≡ true → ConnectionProgress remaining plan moment answer es made reader next before after → have_moments may_give es ≡ true
  connection-moments plan may_give moment None es made reader next before after reported went = ap (have_moments may_give) went.1
  connection-moments plan may_give moment (Some answer) es made reader next None after reported went = absurd went
  connection-moments plan may_give moment (Some answer) es made reader next (Some source) after reported went =
      ap (have_moments may_give) went.2 ∙ end-moments may_give answer went.1 (reads-moments may_give moment went.1 reported went.3.reads)

  module _ (plan : Plan) (moment : ℕ) (ready : ℕ → Bool) (answers : List (Option Served)) (gained : List LoggedEntry) (offered : List ReaderOffer)
      (old new : LoopState S) (a b : OffersMade) (may_give : ℕ → Bool) where
    of-reader : (reader : ℕ) → may_give moment ≡ true → LoopProgress plan gained offered old new a b → TurnServed remaining plan moment ready answers gained offered old new
        → (reader < old.first) ⊎ (old.first ≤ reader) → have_moments may_give (entries_of reader gained) ≡ true
    of-reader reader reported went served (inl below) = ap (have_moments may_give) (went.others reader (inl below)).0
    of-reader reader reported went served (inr above) =
        let token = reader - old.first in
        let is : old.first + token ≡ reader = omega (arith, above) in
        subst (λ (n : ℕ). have_moments may_give (entries_of n gained) ≡ true) is
        (connection-moments plan may_give moment (answer_at answers token) _ _ _ _ _ _ reported (served.tokens token).connection)

    pub turn-moments : may_give moment ≡ true → LoopProgress plan gained offered old new a b → TurnServed remaining plan moment ready answers gained offered old new
        → (reader : ℕ) → have_moments may_give (entries_of reader gained) ≡ true
    turn-moments reported went served reader = of-reader reader reported went served (cases_lt reader old.first)

-- the entries of one reader are those of any reader
own-moments : (may_give : ℕ → Bool) (number reader : ℕ) (es : List InputEntry) → have_moments may_give es ≡ true → (number ≡ reader) ⊎ (number ≢ reader)
    → have_moments may_give (entries_of reader (entries_by number es)) ≡ true
own-moments may_give number reader es reported (inl is) =
    subst (λ (n : ℕ). have_moments may_give (entries_of n (entries_by number es)) ≡ true) is (ap (have_moments may_give) (entries-own number es) ∙ reported)
own-moments may_give number reader es reported (inr differs) = ap (have_moments may_give) (entries-other reader number es differs)

module _ {S : Type 0} (remaining : S → Option (List ℕ)) (refuses : ℕ → ℕ → Datapoint → Type 0) where
  -- one connection was served: these are its number, its entries and its offers
  pub one-served : (plan : Plan) (may_give : ℕ → Bool) (moment number : ℕ) (answer : Option Served) (es : List InputEntry) (made : List Dispatch)
      (old new : LoopState S) (reader next : Option ReaderModel) (before after : Option (Counting S)) (a b : OffersMade)
      → may_give moment ≡ true → LoopProgress plan (entries_by number es) (offers_by number made) old new a b
      → ConnectionProgress remaining plan moment answer es made reader next before after
      → (NoneHeldBack refuses plan.destinations old → NoneHeldBack refuses plan.destinations new)
      → TurnsProgress refuses may_give plan old new a b
  one-served plan may_give moment number answer es made old new reader next before after a b reported went connection waits = (
    entries_by number es,
    offers_by number made,
    went,
    λ other. own-moments may_give number other es (connection-moments remaining plan may_give moment answer es made reader next before after reported connection) (cases_eq number other),
    waits,
  )

-- ---- turns

-- the again list is replaced
pub listed-went : {S : Type 0} (refuses : ℕ → ℕ → Datapoint → Type 0) (may_give : ℕ → Bool) (plan : Plan) (old new : LoopState S) (a : OffersMade)
    → new.first ≡ old.first → new.readers ≡ old.readers → new.log ≡ old.log → TurnsProgress refuses may_give plan old new a a
listed-went refuses may_give plan old new a first readers log = (
  [],
  [],
  record {
    first = first;
    readers = λ token reader at. (reader, ap (λ (rs : List ReaderModel). slice_get rs token) readers ∙ at, goes-none plan reader);
    others = λ reader beyond. (refl, refl);
    offers = refl;
    log = log;
  },
  λ reader. refl,
  λ held token reader at.
      subst (λ (n : ℕ). AreMadeOrRefused (refuses (n + token)) plan.destinations reader.waiting) (sym first)
      (held token reader (ap (λ (rs : List ReaderModel). slice_get rs token) (sym readers) ∙ at)),
)

module _ {S : Type 0} (refuses : ℕ → ℕ → Datapoint → Type 0) (may_give : ℕ → Bool) (plan : Plan) where
  pub no-turns : (l : LoopState S) (a : OffersMade) → TurnsProgress refuses may_give plan l l a a
  no-turns l a = ([], [], loop-none plan l a, λ reader. refl, λ held. held)

  -- and then more, by the same plan
  pub more-turns : (same : Plan) (k l m : LoopState S) (a b c : OffersMade) → same ≡ plan
      → TurnsProgress refuses may_give plan k l a b → TurnsProgress refuses may_give same l m b c → TurnsProgress refuses may_give plan k m a c
  more-turns same k l m a b c is old more = (
    old.0 ++ more.0,
    old.1 ++ more.1,
    loop-then plan old.0 more.0 old.1 more.1 k l m a b c old.2 (subst (λ (p : Plan). LoopProgress p more.0 more.1 l m b c) is more.2),
    λ reader. rw (entries-then reader old.0 more.0) (moments-then may_give (entries_of reader old.0) (entries_of reader more.0) (old.3 reader) (more.3 reader)),
    λ held. (subst (λ (p : Plan). NoneHeldBack refuses p.destinations l → NoneHeldBack refuses p.destinations m) is more.4) (old.4 held),
  )

-- ---- a piece fed

pub fed-moments : (piece : List ℕ) (moment : ℕ) (pieces : List InputEntry) (answer : Option Served) → IsFedAs piece moment pieces answer → have_moments (is_at moment) pieces ≡ true
fed-moments piece moment pieces (Some Starved) fed = ap (have_moments (is_at moment)) fed
fed-moments piece moment pieces (Some Ended) fed = ap (have_moments (is_at moment)) fed ∙ and_from (moment == moment) true (eq-eqb moment moment refl) refl
fed-moments piece moment pieces (Some Refused) fed = ap (have_moments (is_at moment)) fed ∙ and_from (moment == moment) true (eq-eqb moment moment refl) refl
fed-moments piece moment pieces (Some Drained) fed = absurd fed
fed-moments piece moment pieces (Some Again) fed = absurd fed
fed-moments piece moment pieces (Some Failed) fed = absurd fed
fed-moments piece moment pieces None fed = ap (have_moments (is_at moment)) fed ∙ and_from (moment == moment) true (eq-eqb moment moment refl) refl
