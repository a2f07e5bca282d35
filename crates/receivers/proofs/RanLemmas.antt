-- From what the readers of a receiver went through to what it leaves.
use Rattle.std.proofs.Common.{◌≡◌, ◌≢◌, ◌⊎◌, inl, inr, ◌<◌, ◌≤◌, ◌+◌, ◌-◌, ◌*◌, ◌∙◌, ◌++◌, ℕ, zero, suc, Bool, true, false, List, [], ◌∷◌, length, slice_get, Option, Some, None, refl, sym, ap, subst, arith, append-nil, append_assoc}
use Rattle.std.specs.Prelude.{IfSome}
use Rattle.std.proofs.lemmas.Grind.{common_steps}
use Rattle.std.proofs.lemmas.Bool.{false≢true, cases_eq, cases_lt}
use Rattle.line_text.specs.Datapoint.{Datapoint}
use Rattle.router.specs.Plan.{Plan}
use Rattle.reader_core.specs.Configuration.{Dispatch}
use Rattle.reader_core.specs.Entries.{InputEntry, LoggedEntry, entries_of}
use Rattle.reader_core.specs.Input.{fresh_input}
use Rattle.reader_core.specs.Reader.{ReaderModel, Represents}
use Rattle.reader_core.specs.declared.kind.ReaderKind.{ReaderKind}
use Rattle.reader_core.specs.declared.kind.ReaderKind.TheVariants.{Line, Pickle, Datagram}
use Rattle.queue_records.specs.Offers.{OffersMade, IsReaderOf, readers_each}
use Rattle.mio_loops.specs.InputLog.{LogState, log_after, log_after_all, has_room}
use Rattle.mio_loops.specs.LoopState.{LoopState, IsBeyond}
use Rattle.mio_loops.specs.LoopSteps.{LoopProgress, NoneHeldBack}
use Rattle.mio_loops.specs.Reading.{ReaderOffer, AreMadeOrRefused, ReaderProgress, GoesOn, entries_by, offers_by, offers_of}
use Rattle.mio_loops.specs.declared.readiness.ReadinessFault.{ReadinessFault}
use Rattle.mio_loops.specs.declared.readiness.ReadinessFault.TheVariants.{Device, NoMemory}
use Rattle.mio_loops.proofs.ReadingLemmas.{goes-none}
use Rattle.mio_loops.proofs.ServingLemmas.{none-waits}
use Rattle.mio_loops.proofs.LoopLemmas.{entries-own, entries-other, offers-own, offers-other}
use Rattle.receivers.specs.Record.{ReaderRan, RanOrRefused, EndsFor, begun_log, have_moments}

-- ---- the log

after-sealed : (entry : LoggedEntry) (log : LogState) → log.sealed ≡ true → (log_after entry log).sealed ≡ true
after-sealed entry log is = rw is refl

stays-sealed : (entries : List LoggedEntry) (log : LogState) → log.sealed ≡ true → (log_after_all entries log).sealed ≡ true
stays-sealed [] log is = is
stays-sealed (entry ∷ entries) log is = stays-sealed entries (log_after entry log) (after-sealed entry log is)

has-one : (s r : Bool) (entry : LoggedEntry) (entries : List LoggedEntry) (log : LogState) → log.sealed ≡ s → has_room entry log ≡ r
    → (log_after_all (entry ∷ entries) log).sealed ≡ false → (log_after entry log).entries ≡ log.entries ++ entry ∷ []
has-one true r entry entries log is room unsealed =
    absurd (false≢true (sym unsealed ∙ stays-sealed entries (log_after entry log) (after-sealed entry log is)))
has-one false true entry entries log is room unsealed = rw (is, room) refl
has-one false false entry entries log is room unsealed =
    absurd (false≢true (sym unsealed ∙ stays-sealed entries (log_after entry log) (rw (is, room) refl)))

-- a log that is not sealed has all entries
has-all : (entries : List LoggedEntry) (log : LogState) → (log_after_all entries log).sealed ≡ false → (log_after_all entries log).entries ≡ log.entries ++ entries
has-all [] log unsealed = sym (append-nil log.entries)
has-all (entry ∷ entries) log unsealed =
    has-all entries (log_after entry log) unsealed
    ∙ ap (λ (es : List LoggedEntry). es ++ entries) (has-one _ _ entry entries log refl refl unsealed)
    ∙ append_assoc log.entries (entry ∷ []) entries

whole-log : (gained : List LoggedEntry) (log : LogState) → log ≡ log_after_all gained (begun_log false) → log.sealed ≡ false → log.entries ≡ gained
whole-log gained log is unsealed =
    ap (λ (l : LogState). l.entries) is ∙ has-all gained (begun_log false) (sym (ap (λ (l : LogState). l.sealed) is) ∙ unsealed)

-- ---- what waits

-- nothing, where nothing was fed
pub fresh-waits : (kind : ReaderKind) (plan : Plan) (x : ReaderModel) → Represents x kind plan (fresh_input kind) [] → x.waiting ≡ []
fresh-waits Line plan x fresh = sym fresh.waiting
fresh-waits Pickle plan x fresh = sym fresh.waiting
fresh-waits Datagram plan x fresh = sym fresh.waiting

-- what a reader went through, with what waits in it
abbrev ReaderLeft : (ℕ → ℕ → Datapoint → Type 0) → ReaderKind → Plan → ℕ → List InputEntry → List Dispatch → Type 0
ReaderLeft refuses kind plan reader entries offers =
    (ran : ReaderRan kind plan entries offers) × AreMadeOrRefused (refuses reader) plan.destinations ran.last.waiting

-- ---- a loop

at-some : {A : Type 0} (xs : List A) (i : ℕ) → i < length xs → (x : A) × (slice_get xs i ≡ Some x)
at-some [] i low = absurd (omega (arith, low))
at-some (x ∷ xs) zero low = (x, refl)
at-some (x ∷ xs) (suc i) low = at-some xs i (omega (arith, low))

module _ {S : Type 0} (refuses : ℕ → ℕ → Datapoint → Type 0) (kind : ReaderKind) (plan : Plan) (receiver : ℕ) (may_give : ℕ → Bool) (gained : List LoggedEntry) (offered : List ReaderOffer)
    (old new : LoopState S) (before after : OffersMade) where
  reader-ran : (reader : ℕ) → old.first ≡ readers_each * receiver → length old.readers ≡ readers_each
      → ((token : ℕ) (x : ReaderModel) → slice_get old.readers token ≡ Some x → (p : Plan) → Represents x kind p (fresh_input kind) [])
      → LoopProgress plan gained offered old new before after → NoneHeldBack refuses plan.destinations new → IsReaderOf receiver reader
      → ReaderLeft refuses kind plan reader (entries_of reader gained) (offers_of reader offered)
  reader-ran reader first many fresh went held own =
      let above = own.above in
      let below = own.below in
      let token = reader - readers_each * receiver in
      let low : token < length old.readers = omega (arith, above, below, many) in
      let is : old.first + token ≡ reader = omega (arith, above, first) in
      let at = at-some old.readers token low in
      let next = went.readers token at.0 at.1 in (
        record {
          first = at.0;
          last = next.0;
          fresh = fresh token at.0 at.1 plan;
          goes = subst (λ (n : ℕ). GoesOn plan (entries_of n gained) (offers_of n offered) at.0 next.0) is next.2;
        },
        subst (λ (n : ℕ). AreMadeOrRefused (refuses n) plan.destinations next.0.waiting) (ap (λ (n : ℕ). n + token) went.first ∙ is) (held token next.0 next.1),
      )

  -- a reader of another receiver is beyond those of the loop
  beyond-loop : (reader : ℕ) → old.first ≡ readers_each * receiver → (IsReaderOf receiver reader → ⊥)
      → (reader < readers_each * receiver) ⊎ (readers_each * receiver ≤ reader) → (reader < readers_each * receiver + readers_each) ⊎ (readers_each * receiver + readers_each ≤ reader)
      → IsBeyond old.first reader
  beyond-loop reader first strange (inl below) last = inl (omega (arith, first, below))
  beyond-loop reader first strange (inr above) (inl below) = absurd (strange (record { above = above; below = below }))
  beyond-loop reader first strange (inr above) (inr beyond) = inr (omega (arith, first, beyond))

  pub loop-ran : old.first ≡ readers_each * receiver → length old.readers ≡ readers_each
      → ((token : ℕ) (x : ReaderModel) → slice_get old.readers token ≡ Some x → (p : Plan) → Represents x kind p (fresh_input kind) [])
      → old.log ≡ begun_log false → LoopProgress plan gained offered old new before after
      → ((reader : ℕ) → have_moments may_give (entries_of reader gained) ≡ true)
      → (NoneHeldBack refuses plan.destinations old → NoneHeldBack refuses plan.destinations new)
      → RanOrRefused refuses kind plan receiver may_give new.log before after
  loop-ran first many fresh begun went moments waits =
      let noted = went.log ∙ ap (log_after_all gained) begun in
      let held = waits (λ token x at. none-waits (refuses (old.first + token)) plan.destinations x.waiting (fresh-waits kind plan x (fresh token x at plan))) in (
        record {
          gained = gained;
          offered = offered;
          readers = λ reader own. (reader-ran reader first many fresh went held own).0;
          moments = moments;
          others = λ reader strange.
              went.others reader
              (beyond-loop reader first strange (cases_lt reader (readers_each * receiver)) (cases_lt reader (readers_each * receiver + readers_each)));
          offers = went.offers;
          noted = inl noted;
          whole = whole-log gained new.log noted;
        },
        λ reader own. (reader-ran reader first many fresh went held own).1,
      )

-- ---- one reader

module _ (refuses : ℕ → ℕ → Datapoint → Type 0) (kind : ReaderKind) (plan : Plan) (x : ReaderModel) where
  nothing-ran : (reader : ℕ) → Represents x kind plan (fresh_input kind) [] → ReaderLeft refuses kind plan reader [] []
  nothing-ran reader fresh =
      (record { first = x; last = x; fresh = fresh; goes = goes-none plan x }, none-waits (refuses reader) plan.destinations x.waiting (fresh-waits kind plan x fresh))

  -- nothing was received
  pub none-ran : (receiver : ℕ) (may_give : ℕ → Bool) (made : OffersMade) → Represents x kind plan (fresh_input kind) []
      → RanOrRefused refuses kind plan receiver may_give (begun_log true) made made
  none-ran receiver may_give made fresh = (
    record {
      gained = [];
      offered = [];
      readers = λ reader own. (nothing-ran reader fresh).0;
      moments = λ reader. refl;
      others = λ reader strange. (refl, refl);
      offers = refl;
      noted = inr (refl, refl, refl);
      whole = λ unsealed. refl;
    },
    λ reader own. (nothing-ran reader fresh).1,
  )

  module _ (number reader : ℕ) (entries : List InputEntry) (made : List Dispatch) (y : ReaderModel) where
    one-of : Represents x kind plan (fresh_input kind) [] → GoesOn plan entries made x y → AreMadeOrRefused (refuses number) plan.destinations y.waiting → (number ≡ reader) ⊎ (number ≢ reader)
        → ReaderLeft refuses kind plan reader (entries_of reader (entries_by number entries)) (offers_of reader (offers_by number made))
    one-of fresh went waits (inl is) =
        subst (λ (n : ℕ). ReaderLeft refuses kind plan n (entries_of n (entries_by number entries)) (offers_of n (offers_by number made))) is
        (rw (entries-own number entries, offers-own number made) (record { first = x; last = y; fresh = fresh; goes = went }, waits))
    one-of fresh went waits (inr differs) =
        rw (entries-other reader number entries differs, offers-other reader number made differs) (nothing-ran reader fresh)

  moments-of : (may_give : ℕ → Bool) (number reader : ℕ) (entries : List InputEntry) → have_moments may_give entries ≡ true → (number ≡ reader) ⊎ (number ≢ reader)
      → have_moments may_give (entries_of reader (entries_by number entries)) ≡ true
  moments-of may_give number reader entries reported (inl is) =
      subst (λ (n : ℕ). have_moments may_give (entries_of n (entries_by number entries)) ≡ true) is (ap (have_moments may_give) (entries-own number entries) ∙ reported)
  moments-of may_give number reader entries reported (inr differs) = ap (have_moments may_give) (entries-other reader number entries differs)

  -- one reader alone was fed
  pub one-ran : (receiver number : ℕ) (may_give : ℕ → Bool) (entries : List InputEntry) (made : List Dispatch) (y : ReaderModel) (before after : OffersMade) (begun log : LogState)
      → Represents x kind plan (fresh_input kind) [] → begun ≡ begun_log false → IsReaderOf receiver number
      → ReaderProgress plan number entries made x y before after begun log → have_moments may_give entries ≡ true
      → (AreMadeOrRefused (refuses number) plan.destinations x.waiting → AreMadeOrRefused (refuses number) plan.destinations y.waiting)
      → RanOrRefused refuses kind plan receiver may_give log before after
  one-ran receiver number may_give entries made y before after begun log fresh is own went reported waits =
      let noted = went.log ∙ ap (log_after_all (entries_by number entries)) is in
      let held = waits (none-waits (refuses number) plan.destinations x.waiting (fresh-waits kind plan x fresh)) in (
        record {
          gained = entries_by number entries;
          offered = offers_by number made;
          readers = λ reader among. (one-of number reader entries made y fresh went.reader held (cases_eq number reader)).0;
          moments = λ reader. moments-of may_give number reader entries reported (cases_eq number reader);
          others = λ reader strange.
              let differs : number ≢ reader = λ is. strange (subst (λ (n : ℕ). IsReaderOf receiver n) is own) in
              (entries-other reader number entries differs, offers-other reader number made differs);
          offers = went.offers;
          noted = inl noted;
          whole = whole-log (entries_by number entries) log noted;
        },
        λ reader among. (one-of number reader entries made y fresh went.reader held (cases_eq number reader)).1,
      )

-- the first reader of a receiver is one of its readers
pub first-of : (receiver : ℕ) → IsReaderOf receiver (readers_each * receiver)
first-of receiver = record { above = omega arith; below = omega arith }

-- ---- why it ended

-- only a device failed
pub device-alone : (fault : Option ReadinessFault) (log : LogState) (a b : OffersMade) → IfSome fault (λ f. f ≡ Device) → EndsFor fault log a b
device-alone None log a b reported = tt
device-alone (Some Device) log a b reported = tt
device-alone (Some NoMemory) log a b reported = (let e : NoMemory ≡ Device = reported in grind (arith, common_steps))
