-- One connection of a loop is served, and others stay as they are.
use Rattle.std.proofs.Common.{◌≡◌, ◌≢◌, ◌⊎◌, inl, inr, ◌<◌, ◌+◌, ◌==◌, if◌then◌else◌, ℕ, zero, suc, Bool, true, false, List, [], ◌∷◌, ◌++◌, length, replicate, is_some, slice_get, slice_set, get_or, Option, Some, None, refl, sym, ap, ◌∙◌, subst, arith}
use Rattle.std.proofs.lemmas.Bool.{cases_eq, ne_eqb, eq-eqb}
use Rattle.std.proofs.lemmas.Option.{slice_get_within}
use Rattle.std.proofs.lemmas.List.{get_or-set_same, get_or-set_other}
use Rattle.std.proofs.lemmas.Grind.{common_steps}
use Rattle.router.specs.Plan.{Plan}
use Rattle.reader_core.specs.Configuration.{Dispatch}
use Rattle.reader_core.specs.Entries.{InputEntry, LoggedEntry, entries_of}
use Rattle.reader_core.specs.Reader.{ReaderModel}
use Rattle.queue_records.specs.Offers.{OffersMade}
use Rattle.mio_loops.specs.InputLog.{log_after_all}
use Rattle.dest_writer.specs.Counting.{counts_of}
use Rattle.dest_writer.specs.declared.counting.Counting.{Counting}
use Rattle.reader_core.specs.Reader.{is_closed}
use Rattle.slab.specs.Slab.{Slab, get, Updates}
use Rattle.mio_loops.specs.InputLog.{LogState}
use Rattle.mio_loops.specs.LoopState.{LoopState, is_held, is_listed, waiting_in, would_block, most_connections, IsBeyond, NoneForgotten}
use Rattle.mio_loops.specs.Serving.{ConnectionServed, with_end, stays, most_read}
use Rattle.mio_loops.specs.StoredLoop.{IsSoundLoop, AllOpen, AllFresh, IsFresh, loop_of}
use Rattle.reader_core.specs.declared.kind.ReaderKind.{ReaderKind}
use Rattle.mio_loops.specs.declared.served.Served.{Served}
use Rattle.mio_loops.specs.Reading.{ReaderOffer, AreMadeOrRefused, entries_by, offers_by, offers_of, GoesOn, ReaderProgress}
use Rattle.line_text.specs.Datapoint.{Datapoint}
use Rattle.mio_loops.specs.LoopSteps.{LoopProgress, ConnectionProgress, NoneHeldBack}
use Rattle.mio_loops.proofs.ReadingLemmas.{goes-none, goes-then, made-then, noted-then}

-- ---- entries and offers of one reader among those of all

pub entries-own : (n : ℕ) (es : List InputEntry) → entries_of n (entries_by n es) ≡ es
entries-own n [] = refl
entries-own n (e ∷ es) = rw (eq-eqb n n refl) (ap (λ (r : List InputEntry). e ∷ r) (entries-own n es))

pub entries-other : (n m : ℕ) (es : List InputEntry) → m ≢ n → entries_of n (entries_by m es) ≡ []
entries-other n m [] differs = refl
entries-other n m (e ∷ es) differs = rw (ne_eqb m n differs) (entries-other n m es differs)

pub offers-own : (n : ℕ) (ds : List Dispatch) → offers_of n (offers_by n ds) ≡ ds
offers-own n [] = refl
offers-own n (d ∷ ds) = rw (eq-eqb n n refl) (ap (λ (r : List Dispatch). d ∷ r) (offers-own n ds))

pub offers-other : (n m : ℕ) (ds : List Dispatch) → m ≢ n → offers_of n (offers_by m ds) ≡ []
offers-other n m [] differs = refl
offers-other n m (d ∷ ds) differs = rw (ne_eqb m n differs) (offers-other n m ds differs)

pub entries-then : (n : ℕ) (xs ys : List LoggedEntry) → entries_of n (xs ++ ys) ≡ entries_of n xs ++ entries_of n ys
entries-then n [] ys = refl
entries-then n (x ∷ xs) ys =
    elim (x.reader == n) as (λ b. (if b then x.entry ∷ entries_of n (xs ++ ys) else entries_of n (xs ++ ys)) ≡ (if b then x.entry ∷ entries_of n xs else entries_of n xs) ++ entries_of n ys) [
      | true ↦ ap (λ (r : List InputEntry). x.entry ∷ r) (entries-then n xs ys)
      | false ↦ entries-then n xs ys
    ]

pub offers-then : (n : ℕ) (xs ys : List ReaderOffer) → offers_of n (xs ++ ys) ≡ offers_of n xs ++ offers_of n ys
offers-then n [] ys = refl
offers-then n (x ∷ xs) ys =
    elim (x.reader == n) as (λ b. (if b then x.sent ∷ offers_of n (xs ++ ys) else offers_of n (xs ++ ys)) ≡ (if b then x.sent ∷ offers_of n xs else offers_of n xs) ++ offers_of n ys) [
      | true ↦ ap (λ (r : List Dispatch). x.sent ∷ r) (offers-then n xs ys)
      | false ↦ offers-then n xs ys
    ]

-- ---- a value at a place of a list

module _ {A : Type 0} where
  pub get-set-here : (xs : List A) (i : ℕ) (v : A) → i < length xs → slice_get (slice_set xs i v) i ≡ Some v
  get-set-here [] i v h = absurd (omega arith)
  get-set-here (x ∷ xs) zero v h = refl
  get-set-here (x ∷ xs) (suc i) v h = get-set-here xs i v (omega arith)

  pub get-set-there : (xs : List A) (i j : ℕ) (v : A) → j ≢ i → slice_get (slice_set xs i v) j ≡ slice_get xs j
  get-set-there [] i j v h = refl
  get-set-there (x ∷ xs) zero zero v h = absurd (h refl)
  get-set-there (x ∷ xs) zero (suc j) v h = refl
  get-set-there (x ∷ xs) (suc i) zero v h = refl
  get-set-there (x ∷ xs) (suc i) (suc j) v h = get-set-there xs i j v (λ e. h (ap suc e))

  pub same : (x y : A) → Some x ≡ Some y → x ≡ y
  same x y e = grind (arith, common_steps)

  pub none-some : (x : A) → None ≡ Some x → ⊥
  none-some x e = grind (arith, common_steps)

  pub at-is : (xs : List A) (i : ℕ) (d v : A) → slice_get xs i ≡ Some v → get_or xs i d ≡ v
  at-is [] i d v is = absurd (none-some v is)
  at-is (x ∷ xs) zero d v is = same x v is
  at-is (x ∷ xs) (suc i) d v is = at-is xs i d v is

  pub found-at : (xs : List A) (i : ℕ) (d : A) → i < length xs → slice_get xs i ≡ Some (get_or xs i d)
  found-at [] i d h = absurd (omega arith)
  found-at (x ∷ xs) zero d h = refl
  found-at (x ∷ xs) (suc i) d h = found-at xs i d (omega arith)

-- ---- one reader of a loop went on

apart : (f t u : ℕ) → u ≢ t → f + t ≢ f + u
apart f t u differs = λ e. differs (omega (arith, e))

apart-beyond : (f t n : ℕ) → t < most_connections → IsBeyond f n → f + t ≢ n
apart-beyond f t n low (inl below) = λ e. omega (arith, below, e)
apart-beyond f t n low (inr above) = λ e. omega (arith, low, above, e)

reader-at : (plan : Plan) (f t u : ℕ) (es : List InputEntry) (ds : List Dispatch) (readers : List ReaderModel) (x y r : ReaderModel)
    → t < length readers → slice_get readers t ≡ Some x → GoesOn plan es ds x y → slice_get readers u ≡ Some r → (u ≡ t) ⊎ (u ≢ t)
    → (next : ReaderModel) × (slice_get (slice_set readers t y) u ≡ Some next) × GoesOn plan (entries_of (f + u) (entries_by (f + t) es)) (offers_of (f + u) (offers_by (f + t) ds)) r next
reader-at plan f t u es ds readers x y r within at goes found (inl is) =
    let x_is : x ≡ r = same x r (sym at ∙ subst (λ (k : ℕ). slice_get readers k ≡ Some r) is found) in (
      y,
      subst (λ (k : ℕ). slice_get (slice_set readers t y) k ≡ Some y) (sym is) (get-set-here readers t y within),
      subst (λ (k : ℕ). GoesOn plan (entries_of (f + k) (entries_by (f + t) es)) (offers_of (f + k) (offers_by (f + t) ds)) r y) (sym is)
          (rw (entries-own (f + t) es, offers-own (f + t) ds) (subst (λ (s : ReaderModel). GoesOn plan es ds s y) x_is goes)),
    )
reader-at plan f t u es ds readers x y r within at goes found (inr differs) = (
  r,
  get-set-there readers t u y differs ∙ found,
  rw (entries-other (f + u) (f + t) es (apart f t u differs), offers-other (f + u) (f + t) ds (apart f t u differs)) (goes-none plan r),
)

module _ {S : Type 0} (plan : Plan) where
  pub loop-none : (l : LoopState S) (a : OffersMade) → LoopProgress plan [] [] l l a a
  loop-none l a =
      record { first = refl; readers = λ token reader at. (reader, at, goes-none plan reader); others = λ reader beyond. (refl, refl); offers = refl; log = refl }

  pub loop-then : (xs ys : List LoggedEntry) (ms ns : List ReaderOffer) (k l m : LoopState S) (a b c : OffersMade)
      → LoopProgress plan xs ms k l a b → LoopProgress plan ys ns l m b c → LoopProgress plan (xs ++ ys) (ms ++ ns) k m a c
  loop-then xs ys ms ns k l m a b c first second =
      record {
        first = second.first ∙ first.first;
        readers = λ token reader at.
            let one = first.readers token reader at in
            let two = second.readers token one.0 one.1 in
            let n = k.first + token in
            let later : GoesOn plan (entries_of n ys) (offers_of n ns) one.0 two.0 =
            subst (λ (f : ℕ). GoesOn plan (entries_of (f + token) ys) (offers_of (f + token) ns) one.0 two.0) first.first two.2 in (
              two.0,
              two.1,
              rw (entries-then n xs ys, offers-then n ms ns) (goes-then plan (entries_of n xs) (entries_of n ys) (offers_of n ms) (offers_of n ns) reader one.0 two.0 one.2 later),
            );
        others = λ n beyond.
            let one = first.others n beyond in
            let two = second.others n (subst (λ (f : ℕ). IsBeyond f n) (sym first.first) beyond) in (
              rw (entries-then n xs ys, one.0, two.0) refl,
              rw (offers-then n ms ns, one.1, two.1) refl,
            );
        offers = made-then ms ns a b c first.offers second.offers;
        log = second.log ∙ ap (log_after_all ys) first.log ∙ sym (noted-then xs ys k.log);
      }

  -- the reader of a token went on, and no other
  pub loop-one : (t : ℕ) (es : List InputEntry) (ds : List Dispatch) (l m : LoopState S) (x y : ReaderModel) (a b : OffersMade)
      → t < length l.readers → t < most_connections → slice_get l.readers t ≡ Some x → ReaderProgress plan (l.first + t) es ds x y a b l.log m.log
      → m.first ≡ l.first → m.readers ≡ slice_set l.readers t y
      → LoopProgress plan (entries_by (l.first + t) es) (offers_by (l.first + t) ds) l m a b
  loop-one t es ds l m x y a b within low at went first readers =
      record {
        first = first;
        readers = λ u r found.
            rw readers (reader-at plan l.first t u es ds l.readers x y r within at went.reader found (cases_eq u t));
        others = λ n beyond. (
          entries-other n (l.first + t) es (apart-beyond l.first t n low beyond),
          offers-other n (l.first + t) ds (apart-beyond l.first t n low beyond),
        );
        offers = went.offers;
        log = went.log;
      }

-- ---- one connection served

pub after-stays : {A : Type 0} (served : Served) (last : A) → stays served ≡ true → Some last ≡ (if stays served then Some last else None)
after-stays answer last is = rw is refl

pub after-leaves : {A : Type 0} (served : Served) (last : A) → stays served ≡ false → None ≡ (if stays served then Some last else None)
after-leaves answer last is = rw is refl

pub Updates-again : {A : Type 0} (a b c : Slab A) (t : ℕ) (first second : Option A) → Updates a b t first → Updates b c t second → Updates a c t second
Updates-again a b c t first second one two =
    record { changed = two.changed; others = λ other differs. two.others other differs ∙ one.others other differs }

open-here : (readers : List ReaderModel) (t u : ℕ) (y r : ReaderModel) → t < length readers → AllOpen readers → is_closed y ≡ false → (u ≡ t) ⊎ (u ≢ t)
    → slice_get (slice_set readers t y) u ≡ Some r → is_closed r ≡ false
open-here readers t u y r within all goes (inl is) found =
    let y_is : y ≡ r = same y r (sym (get-set-here readers t y within) ∙ subst (λ (k : ℕ). slice_get (slice_set readers t y) k ≡ Some r) is found) in
    subst (λ (s : ReaderModel). is_closed s ≡ false) y_is goes
open-here readers t u y r within all goes (inr differs) found = all u r (sym (get-set-there readers t u y differs) ∙ found)

length-set : {A : Type 0} (xs : List A) (i : ℕ) (v : A) → length (slice_set xs i v) ≡ length xs
length-set [] i v = refl
length-set (x ∷ xs) zero v = refl
length-set (x ∷ xs) (suc i) v = ap suc (length-set xs i v)

module _ {S : Type 0} where
  pub connection-served : (remaining : S → Option (List ℕ)) (plan : Plan) (moment : ℕ) (served : Served) (pieces : List InputEntry) (made : List Dispatch) (reader next : Option ReaderModel) (source last : Counting S) (before after : Option (Counting S))
      → before ≡ Some source → ConnectionServed remaining plan moment served pieces made reader (waiting_in next) source last → after ≡ (if stays served then Some last else None)
      → ConnectionProgress remaining plan moment (Some served) (with_end served pieces) made reader next before after
  connection-served remaining plan moment served pieces made reader next source last before after is went follows =
      subst (λ (b : Option (Counting S)). ConnectionProgress remaining plan moment (Some served) (with_end served pieces) made reader next b after) (sym is)
      (last, pieces, refl, went, follows)

  -- the connection of a token was served, and no other
  abbrev pub ServedOne : Plan → (S → Option (List ℕ)) → ℕ → ℕ → Served → OffersMade → OffersMade → (m l : LoopState S) → Type 0
  ServedOne plan remaining moment t served a b m l =
      (entries : List InputEntry) × (offered : List Dispatch)
      × LoopProgress plan (entries_by (l.first + t) entries) (offers_by (l.first + t) offered) l m a b
      × ConnectionProgress remaining plan moment (Some served) entries offered (slice_get l.readers t) (slice_get m.readers t) (get l.sources t) (get m.sources t)

  pub served-one : (plan : Plan) (remaining : S → Option (List ℕ)) (moment : ℕ) (l m : LoopState S) (t : ℕ) (served : Served) (pieces : List InputEntry) (made : List Dispatch) (source last : Counting S) (x y : ReaderModel) (a b : OffersMade)
      → get l.sources t ≡ Some source → slice_get l.readers t ≡ Some x → t < length l.readers → t < most_connections
      → m.first ≡ l.first → m.readers ≡ slice_set l.readers t y → get m.sources t ≡ (if stays served then Some last else None)
      → ReaderProgress plan (l.first + t) (with_end served pieces) made x y a b l.log m.log
      → ConnectionServed remaining plan moment served pieces made (Some x) y.waiting source last
      → ServedOne plan remaining moment t served a b m l
  served-one plan remaining moment l m t served pieces made source last x y a b held at within low first readers kept went connection =
      let new : slice_get m.readers t ≡ Some y = ap (λ (rs : List ReaderModel). slice_get rs t) readers ∙ get-set-here l.readers t y within in (
        with_end served pieces,
        made,
        loop-one plan t (with_end served pieces) made l m x y a b within low at went first readers,
        connection-served remaining plan moment served pieces made (slice_get l.readers t) (slice_get m.readers t) source last (get l.sources t) (get m.sources t) held
            (subst (λ (r : Option ReaderModel). ConnectionServed remaining plan moment served pieces made r (waiting_in (slice_get m.readers t)) source last) (sym at)
            (subst (λ (r : Option ReaderModel). ConnectionServed remaining plan moment served pieces made (Some x) (waiting_in r) source last) (sym new) connection)) kept,
      )

  -- the same if the loop that was served is known by its fields: the token's connection and reader
  -- are what was served
  pub served-there : (plan : Plan) (remaining : S → Option (List ℕ)) (moment : ℕ) (l old : LoopState S) (size t : ℕ) (served : Served) (pieces : List InputEntry) (made : List Dispatch) (source last : Counting S) (d x y : ReaderModel)
      (s : Slab (Counting S)) (slot : Option (Counting S)) (flag : Bool) (log : LogState) (a b : OffersMade)
      → l ≡ old → IsSoundLoop l size → get l.sources t ≡ Some source → x ≡ get_or l.readers t d
      → Updates l.sources s t slot → slot ≡ (if stays served then Some last else None)
      → ReaderProgress plan (l.first + t) (with_end served pieces) made x y a b l.log log
      → ConnectionServed remaining plan moment served pieces made (Some x) y.waiting source last
      → ServedOne plan remaining moment t served a b (loop_of l.first s (slice_set l.readers t y) (slice_set l.again t flag) log) old
  served-there plan remaining moment l old size t served pieces made source last d x y s slot flag log a b is sound held x_is update follows went connection =
      let within = sound.tokens t (ap is_some held) in
      let readers = sound.readers in
      let fits : t < length l.readers = omega (arith, readers, within) in
      let at : slice_get l.readers t ≡ Some x = found-at l.readers t d fits ∙ ap (λ (r : ReaderModel). Some r) (sym x_is) in
      let next = loop_of l.first s (slice_set l.readers t y) (slice_set l.again t flag) log in
      subst (λ (o : LoopState S). ServedOne plan remaining moment t served a b next o) is
      (served-one plan remaining moment l next t served pieces made source last x y a b held at fits within refl refl (update.changed ∙ follows) went connection)

  -- the other tokens have what they had
  pub others-there : (l old : LoopState S) (t : ℕ) (s : Slab (Counting S)) (slot : Option (Counting S)) (y : ReaderModel) (flag : Bool) (log : LogState)
      → l ≡ old → Updates l.sources s t slot → (other : ℕ) → other ≢ t
      → (get s other ≡ get old.sources other)
      × (slice_get (slice_set l.readers t y) other ≡ slice_get old.readers other)
      × (is_listed (loop_of l.first s (slice_set l.readers t y) (slice_set l.again t flag) log) other ≡ is_listed old other)
  others-there l old t s slot y flag log is update other differs = (
    update.others other differs ∙ ap (λ (o : LoopState S). get o.sources other) is,
    get-set-there l.readers t other y differs ∙ ap (λ (o : LoopState S). slice_get o.readers other) is,
    get_or-set_other l.again t other flag false differs ∙ ap (λ (o : LoopState S). is_listed o other) is,
  )

  held-here : (l : LoopState S) (t u : ℕ) (s : Slab (Counting S)) (slot : Option (Counting S)) → Updates l.sources s t slot
      → ((token : ℕ) → is_held l token ≡ true → token < most_connections) → t < most_connections → (u ≡ t) ⊎ (u ≢ t)
      → is_some (get s u) ≡ true → u < most_connections
  held-here l t u s slot update tokens within (inl is) held = subst (λ (k : ℕ). k < most_connections) (sym is) within
  held-here l t u s slot update tokens within (inr differs) held = tokens u (ap is_some (sym (update.others u differs)) ∙ held)

  listed-here : (l : LoopState S) (t u : ℕ) (s : Slab (Counting S)) (slot : Option (Counting S)) (flag : Bool) (source : Counting S) → Updates l.sources s t slot → NoneForgotten l → t < length l.again
      → ((last : Counting S) → slot ≡ Some last → would_block (counts_of last).last ≡ false → flag ≡ true) → (u ≡ t) ⊎ (u ≢ t)
      → get s u ≡ Some source → would_block (counts_of source).last ≡ false → get_or (slice_set l.again t flag) u false ≡ true
  listed-here l t u s slot flag source update none within flagged (inl is) held free =
      ap (λ (k : ℕ). get_or (slice_set l.again t flag) k false) is ∙ get_or-set_same l.again t flag false within
      ∙ flagged source (sym update.changed ∙ subst (λ (k : ℕ). get s k ≡ Some source) is held) free
  listed-here l t u s slot flag source update none within flagged (inr differs) held free =
      get_or-set_other l.again t u flag false differs ∙ none u source (sym (update.others u differs) ∙ held) free

  -- a loop stays sound where one connection was served
  pub sound-served : (l : LoopState S) (buffer after : ℕ) (t : ℕ) (s : Slab (Counting S)) (slot : Option (Counting S)) (y : ReaderModel) (flag : Bool) (log : LogState)
      → IsSoundLoop l buffer → Updates l.sources s t slot → s.capacity ≡ l.sources.capacity → t < most_connections → is_closed y ≡ false
      → ((last : Counting S) → slot ≡ Some last → would_block (counts_of last).last ≡ false → flag ≡ true) → after ≡ most_read
      → IsSoundLoop (loop_of l.first s (slice_set l.readers t y) (slice_set l.again t flag) log) after
  sound-served l buffer after t s slot y flag log sound update capacity within goes flagged room =
      let readers = sound.readers in
      let flags = sound.flags in
      let least = sound.room in
      record {
        readers = length-set l.readers t y ∙ sound.readers;
        flags = length-set l.again t flag ∙ sound.flags;
        one_read = room;
        first = sound.first;
        room = omega (arith, capacity, least);
        tokens = λ u held. held-here l t u s slot update sound.tokens within (cases_eq u t) held;
        all_open = λ u r found. open-here l.readers t u y r (omega (arith, within, readers)) sound.all_open goes (cases_eq u t) found;
        none_forgotten = λ u source held free. listed-here l t u s slot flag source update sound.none_forgotten (omega (arith, within, flags)) flagged (cases_eq u t) held free;
      }

-- ---- readers that were fed nothing

pub fresh-push : (kind : ReaderKind) (readers : List ReaderModel) (r : ReaderModel) → AllFresh kind readers → IsFresh kind r → AllFresh kind (readers ++ r ∷ [])
fresh-push kind [] r all fresh zero reader found = subst (IsFresh kind) (same r reader found) fresh
fresh-push kind [] r all fresh (suc token) reader found = absurd (none-some reader found)
fresh-push kind (x ∷ readers) r all fresh zero reader found = all zero reader found
fresh-push kind (x ∷ readers) r all fresh (suc token) reader found = fresh-push kind readers r (λ t s is. all (suc t) s is) fresh token reader found

-- a table without values is that of a loop that holds no connection
pub none-held : {A : Type 0} (s : Slab A) (token : ℕ) → s.slots ≡ [] → get s token ≡ None
none-held {A} s token none = ap (λ (slots : List (Option A)). get_or slots token None) none

pub flags-none : (n token : ℕ) → get_or (replicate n false) token false ≡ false
flags-none zero token = refl
flags-none (suc n) zero = refl
flags-none (suc n) (suc token) = flags-none n token

pub count_of_same : {A : Type 0} (n : ℕ) (x : A) → length (replicate n x) ≡ n
count_of_same zero x = refl
count_of_same (suc n) x = ap suc (count_of_same n x)

-- ---- offers that wait

module _ {S : Type 0} (refuses : ℕ → ℕ → Datapoint → Type 0) (dests : ℕ) where
  held_back-here : (l : LoopState S) (t u : ℕ) (y r : ReaderModel) → AreMadeOrRefused (refuses (l.first + t)) dests y.waiting → NoneHeldBack refuses dests l
      → (u ≡ t) ⊎ (u ≢ t) → slice_get (slice_set l.readers t y) u ≡ Some r → AreMadeOrRefused (refuses (l.first + u)) dests r.waiting
  held_back-here l t u y r waits all (inl is) found =
      let here : slice_get (slice_set l.readers t y) t ≡ Some r = subst (λ (k : ℕ). slice_get (slice_set l.readers t y) k ≡ Some r) is found in
      let few : t < length l.readers = subst (λ (n : ℕ). t < n) (length-set l.readers t y) (slice_get_within (slice_set l.readers t y) t r here) in
      let y_is : y ≡ r = same y r (sym (get-set-here l.readers t y few) ∙ here) in
      subst (λ (k : ℕ). AreMadeOrRefused (refuses (l.first + k)) dests r.waiting) (sym is)
      (subst (λ (x : ReaderModel). AreMadeOrRefused (refuses (l.first + t)) dests x.waiting) y_is waits)
  held_back-here l t u y r waits all (inr differs) found = all u r (sym (get-set-there l.readers t u y differs) ∙ found)

  -- the reader of one token was fed and made offers
  pub held_back-set : (l old : LoopState S) (t : ℕ) (y : ReaderModel) → l ≡ old → AreMadeOrRefused (refuses (l.first + t)) dests y.waiting → NoneHeldBack refuses dests old
      → (u : ℕ) (r : ReaderModel) → slice_get (slice_set l.readers t y) u ≡ Some r → AreMadeOrRefused (refuses (l.first + u)) dests r.waiting
  held_back-set l old t y is waits all = λ u r found.
      held_back-here l t u y r waits (subst (λ (o : LoopState S). NoneHeldBack refuses dests o) (sym is) all) (cases_eq u t) found
