-- The connections of a read loop are served, one token after another.
use Rattle.std.proofs.Common.{◌≡◌, ◌≢◌, ◌⊎◌, inl, inr, ◌<◌, ◌≤◌, ◌+◌, ◌++◌, ◌∙◌, ◌&&◌, ◌||◌, ◌==◌, if◌then◌else◌, cond, ℕ, zero, suc, Bool, true, false, List, [], ◌∷◌, length, take, get_or, is_some, slice_get, Option, None, refl, sym, ap, subst, arith, zero-add, length-append}
use Rattle.std.proofs.lemmas.Bool.{cases_eq, cases_lt, and_right}
use Rattle.std.proofs.lemmas.List.{append-nil, take_more}
use Rattle.std.proofs.lemmas.List.Folds.{list_any-append}
use Rattle.std.proofs.lemmas.List.Sums.{sum_by-append, count_by-le-length}
use Rattle.std.proofs.Math.Bool.{or-false}
use Rattle.std.specs.List.{count_by}
use Rattle.slab.specs.Slab.{get}
use Rattle.dest_writer.specs.declared.counting.Counting.{Counting}
use Rattle.router.specs.Plan.{Plan}
use Rattle.reader_core.specs.Configuration.{Dispatch}
use Rattle.reader_core.specs.Entries.{InputEntry, LoggedEntry, entries_of}
use Rattle.reader_core.specs.Reader.{ReaderModel}
use Rattle.queue_records.specs.Offers.{OffersMade}
use Rattle.mio_loops.specs.LoopState.{LoopState, is_held, is_listed}
use Rattle.mio_loops.specs.LoopSteps.{LoopProgress, ConnectionProgress}
use Rattle.mio_loops.specs.Reading.{ReaderOffer, entries_by, offers_by, offers_of}
use Rattle.mio_loops.specs.ReadTurn.{TokenProgress, TurnServed, answer_at, is_due, is_ready, listed_after, has_ended, has_failed, has_starved, is_refused, report_of}
use Rattle.mio_loops.specs.declared.served.Served.{Served}
use Rattle.mio_loops.specs.declared.token.Token.{Token}
use Rattle.mio_loops.specs.declared.turn_report.TurnReport.{TurnReport}
use Rattle.mio_loops.proofs.LoopLemmas.{entries-then, entries-own, entries-other, offers-then, offers-own, offers-other, loop-none, loop-then}

-- ---- one answer more

answer-last : (xs : List (Option Served)) (x : Option Served) → answer_at (xs ++ x ∷ []) (length xs) ≡ x
answer-last [] x = refl
answer-last (y ∷ xs) x = answer-last xs x

answer-past : (xs : List (Option Served)) (u : ℕ) → length xs ≤ u → answer_at xs u ≡ None
answer-past [] u h = refl
answer-past (y ∷ xs) zero h = absurd (omega (arith, h))
answer-past (y ∷ xs) (suc u) h = answer-past xs u (omega (arith, h))

answer-other : (xs : List (Option Served)) (x : Option Served) (u : ℕ) → u ≢ length xs → answer_at (xs ++ x ∷ []) u ≡ answer_at xs u
answer-other [] x zero h = absurd (h refl)
answer-other [] x (suc u) h = refl
answer-other (y ∷ xs) x zero h = refl
answer-other (y ∷ xs) x (suc u) h = answer-other xs x u (λ e. h (ap suc e))

-- ---- the numbers

count-add : (p : Option Served → Bool) (xs : List (Option Served)) (x : Option Served) → count_by p (xs ++ x ∷ []) ≡ count_by p xs + (if p x then 1 else 0)
count-add p xs x =
    sum_by-append (λ y. cond (p y) 1 0) xs (x ∷ []) ∙ ap (λ (n : ℕ). count_by p xs + n) (zero-add (if p x then 1 else 0))

-- the report, with one answer more
abbrev pub CountsOne : Option Served → TurnReport → TurnReport → Type 0
CountsOne x old new =
    new ≡ record {
      served = old.served + (if is_some x then 1 else 0);
      ended = old.ended + (if has_ended x then 1 else 0);
      failed = old.failed + (if has_failed x then 1 else 0);
      starved = old.starved + (if has_starved x then 1 else 0);
      refused = old.refused + (if is_refused x then 1 else 0);
    }

report-add : (xs : List (Option Served)) (x : Option Served) (old new : TurnReport) → old ≡ report_of xs → CountsOne x old new → new ≡ report_of (xs ++ x ∷ [])
report-add xs x old new reported counts =
    counts ∙ ap (λ (r : TurnReport). record {
      served = r.served + (if is_some x then 1 else 0);
      ended = r.ended + (if has_ended x then 1 else 0);
      failed = r.failed + (if has_failed x then 1 else 0);
      starved = r.starved + (if has_starved x then 1 else 0);
      refused = r.refused + (if is_refused x then 1 else 0);
    }) reported
    ∙ sym (rw (count-add is_some xs x, count-add has_ended xs x, count-add has_failed xs x, count-add has_starved xs x, count-add is_refused xs x) refl)

-- no number of a report passes that of the answers
pub report-few : (xs : List (Option Served)) (n : ℕ) (report : TurnReport) → report ≡ report_of xs → length xs ≡ n
    → (report.served ≤ n) × (report.ended ≤ n) × (report.failed ≤ n) × (report.starved ≤ n) × (report.refused ≤ n)
report-few xs n report reported many =
    rw (reported, ← many) (count_by-le-length is_some xs, count_by-le-length has_ended xs, count_by-le-length has_failed xs, count_by-le-length has_starved xs, count_by-le-length is_refused xs)

-- ---- one token

-- one connection alone changes
abbrev pub OthersStay : {S : Type 0} → ℕ → LoopState S → LoopState S → Type 0
OthersStay t old new =
    (other : ℕ) → other ≢ t
    → (get new.sources other ≡ get old.sources other)
    × (slice_get new.readers other ≡ slice_get old.readers other)
    × (is_listed new other ≡ is_listed old other)

module _ {S : Type 0} (remaining : S → Option (List ℕ)) (plan : Plan) (moment : ℕ) where
  -- a token whose connection was not served, fed nothing and offered nothing
  pub token-none : (t : ℕ) (l : LoopState S) → TokenProgress remaining plan moment t None [] [] l l
  token-none t l = record { connection = (refl, refl, refl, refl); listed = refl }

  token-is : (t : ℕ) (x y : Option Served) (es fs : List InputEntry) (ds ns : List Dispatch) (k l : LoopState S) → y ≡ x → fs ≡ es → ns ≡ ds
      → TokenProgress remaining plan moment t x es ds k l → TokenProgress remaining plan moment t y fs ns k l
  token-is t x y es fs ds ns k l is_x is_es is_ds went =
      subst (λ (z : Option Served). TokenProgress remaining plan moment t z fs ns k l) (sym is_x)
      (subst (λ (zs : List InputEntry). TokenProgress remaining plan moment t x zs ns k l) (sym is_es)
      (subst (λ (zs : List Dispatch). TokenProgress remaining plan moment t x es zs k l) (sym is_ds) went))

  -- it is served after it was not
  token-first : (t : ℕ) (x : Option Served) (es fs : List InputEntry) (ds ns : List Dispatch) (k l m : LoopState S)
      → TokenProgress remaining plan moment t None fs ns k l → TokenProgress remaining plan moment t x es ds l m → TokenProgress remaining plan moment t x (fs ++ es) (ns ++ ds) k m
  token-first t x es fs ds ns k l m before went =
      let b = before.connection in
      token-is t x x es (fs ++ es) ds (ns ++ ds) k m refl (ap (λ (zs : List InputEntry). zs ++ es) b.1) (ap (λ (zs : List Dispatch). zs ++ ds) b.2)
      (record {
        connection =
            subst (λ (s : Option (Counting S)). ConnectionProgress remaining plan moment x es ds (slice_get k.readers t) (slice_get m.readers t) s (get m.sources t)) b.0
            (subst (λ (r : Option ReaderModel). ConnectionProgress remaining plan moment x es ds r (slice_get m.readers t) (get l.sources t) (get m.sources t)) b.3 went.connection);
        listed = went.listed ∙ ap (listed_after x) before.listed;
      })

  -- others are served after it
  token-stays : (t : ℕ) (x : Option Served) (es : List InputEntry) (ds : List Dispatch) (k l m : LoopState S)
      → (get m.sources t ≡ get l.sources t) × (slice_get m.readers t ≡ slice_get l.readers t) × (is_listed m t ≡ is_listed l t)
      → TokenProgress remaining plan moment t x es ds k l → TokenProgress remaining plan moment t x es ds k m
  token-stays t x es ds k l m same went =
      record {
        connection =
            subst (λ (s : Option (Counting S)). ConnectionProgress remaining plan moment x es ds (slice_get k.readers t) (slice_get m.readers t) (get k.sources t) s) (sym same.0)
            (subst (λ (r : Option ReaderModel). ConnectionProgress remaining plan moment x es ds (slice_get k.readers t) r (get k.sources t) (get l.sources t)) (sym same.1) went.connection);
        listed = same.2 ∙ went.listed;
      }

  due-same : (ready : Bool) (t : ℕ) (es : List InputEntry) (ds : List Dispatch) (k l : LoopState S) → TokenProgress remaining plan moment t None es ds k l → is_due ready l t ≡ is_due ready k t
  due-same ready t es ds k l went =
      ap (λ (b : Bool). (ready || b) && is_held l t) went.listed
      ∙ ap (λ (s : Option (Counting S)). (ready || is_listed k t) && is_some s) went.connection.0

-- ---- the tokens so far

pub record TurnSoFar {S : Type 0} (plan : Plan) (remaining : S → Option (List ℕ)) (moment : ℕ) (ready : ℕ → Bool) (count : ℕ)
    (answers : List (Option Served)) (gained : List LoggedEntry) (offered : List ReaderOffer)
    (old new : LoopState S) (before after : OffersMade) (report : TurnReport) : Type 0 where
  pub so_many : length answers ≡ count
  pub went : LoopProgress plan gained offered old new before after
  pub chosen : (token : ℕ) → token < count → is_some (answer_at answers token) ≡ is_due (ready token) old token
  pub tokens : (token : ℕ) → TokenProgress remaining plan moment token (answer_at answers token)
      (entries_of (old.first + token) gained) (offers_of (old.first + token) offered) old new
  pub reported : report ≡ report_of answers

apart : (f t u : ℕ) → u ≢ t → f + t ≢ f + u
apart f t u differs = λ e. differs (omega (arith, e))

module _ {S : Type 0} (plan : Plan) (remaining : S → Option (List ℕ)) (moment : ℕ) (ready : ℕ → Bool) where
  pub none-so_far : (l : LoopState S) (a : OffersMade) (report : TurnReport) → report ≡ report_of [] → TurnSoFar plan remaining moment ready 0 [] [] [] l l a a report
  none-so_far l a report reported =
      record {
        so_many = refl;
        went = loop-none plan l a;
        chosen = λ token low. absurd (omega (arith, low));
        tokens = λ token. token-none remaining plan moment token l;
        reported = reported;
      }

  -- how one token more went, at any token
  token-more : (i u : ℕ) (answers : List (Option Served)) (x : Option Served) (gained : List LoggedEntry) (offered : List ReaderOffer) (es : List InputEntry) (ds : List Dispatch) (k l m : LoopState S)
      → length answers ≡ i → TokenProgress remaining plan moment u (answer_at answers u) (entries_of (k.first + u) gained) (offers_of (k.first + u) offered) k l
      → TokenProgress remaining plan moment i x es ds l m → OthersStay i l m → (u ≡ i) ⊎ (u ≢ i)
      → TokenProgress remaining plan moment u (answer_at (answers ++ x ∷ []) u) (entries_of (k.first + u) (gained ++ entries_by (k.first + i) es)) (offers_of (k.first + u) (offered ++ offers_by (k.first + i) ds)) k m
  token-more i u answers x gained offered es ds k l m many before went others (inl is) =
      let n = k.first + u in
      let here : TokenProgress remaining plan moment u x es ds l m = subst (λ (t : ℕ). TokenProgress remaining plan moment t x es ds l m) (sym is) went in
      let same : k.first + i ≡ n = ap (λ (t : ℕ). k.first + t) (sym is) in
      let unserved = token-is remaining plan moment u (answer_at answers u) None (entries_of n gained) (entries_of n gained) (offers_of n offered) (offers_of n offered) k l
      (sym (answer-past answers u (omega (arith, many, is)))) refl refl before in
      token-is remaining plan moment u x (answer_at (answers ++ x ∷ []) u) (entries_of n gained ++ es) (entries_of n (gained ++ entries_by (k.first + i) es)) (offers_of n offered ++ ds) (offers_of n (offered ++ offers_by (k.first + i) ds)) k m
      (ap (answer_at (answers ++ x ∷ [])) (is ∙ sym many) ∙ answer-last answers x)
      (ap (λ (r : ℕ). entries_of n (gained ++ entries_by r es)) same ∙ entries-then n gained (entries_by n es) ∙ ap (λ (zs : List InputEntry). entries_of n gained ++ zs) (entries-own n es))
      (ap (λ (r : ℕ). offers_of n (offered ++ offers_by r ds)) same ∙ offers-then n offered (offers_by n ds) ∙ ap (λ (zs : List Dispatch). offers_of n offered ++ zs) (offers-own n ds))
      (token-first remaining plan moment u x es (entries_of n gained) ds (offers_of n offered) k l m unserved here)
  token-more i u answers x gained offered es ds k l m many before went others (inr differs) =
      let n = k.first + u in
      token-is remaining plan moment u (answer_at answers u) (answer_at (answers ++ x ∷ []) u) (entries_of n gained) (entries_of n (gained ++ entries_by (k.first + i) es)) (offers_of n offered) (offers_of n (offered ++ offers_by (k.first + i) ds)) k m
      (answer-other answers x u (λ e. differs (e ∙ many)))
      (entries-then n gained (entries_by (k.first + i) es) ∙ ap (λ (zs : List InputEntry). entries_of n gained ++ zs) (entries-other n (k.first + i) es (apart k.first i u differs)) ∙ append-nil (entries_of n gained))
      (offers-then n offered (offers_by (k.first + i) ds) ∙ ap (λ (zs : List Dispatch). offers_of n offered ++ zs) (offers-other n (k.first + i) ds (apart k.first i u differs)) ∙ append-nil (offers_of n offered))
      (token-stays remaining plan moment u (answer_at answers u) (entries_of n gained) (offers_of n offered) k l m (others u differs) before)

  chosen-more : (i u : ℕ) (answers : List (Option Served)) (x : Option Served) (k : LoopState S) → length answers ≡ i
      → ((token : ℕ) → token < i → is_some (answer_at answers token) ≡ is_due (ready token) k token) → is_some x ≡ is_due (ready i) k i → u < i + 1 → (u ≡ i) ⊎ (u ≢ i)
      → is_some (answer_at (answers ++ x ∷ []) u) ≡ is_due (ready u) k u
  chosen-more i u answers x k many chosen due low (inl is) =
      ap (λ (t : ℕ). is_some (answer_at (answers ++ x ∷ []) t)) (is ∙ sym many) ∙ ap is_some (answer-last answers x) ∙ due
      ∙ ap (λ (t : ℕ). is_due (ready t) k t) (sym is)
  chosen-more i u answers x k many chosen due low (inr differs) =
      ap is_some (answer-other answers x u (λ e. differs (e ∙ many))) ∙ chosen u (omega (arith, low, differs))

  -- one token more
  pub one-more : (i : ℕ) (answers : List (Option Served)) (x : Option Served) (gained : List LoggedEntry) (offered : List ReaderOffer) (es : List InputEntry) (ds : List Dispatch) (k l m : LoopState S) (a b c : OffersMade) (old new : TurnReport)
      → TurnSoFar plan remaining moment ready i answers gained offered k l a b old
      → LoopProgress plan (entries_by (l.first + i) es) (offers_by (l.first + i) ds) l m b c → TokenProgress remaining plan moment i x es ds l m
      → is_some x ≡ is_due (ready i) l i → OthersStay i l m → CountsOne x old new
      → TurnSoFar plan remaining moment ready (i + 1) (answers ++ x ∷ []) (gained ++ entries_by (k.first + i) es) (offered ++ offers_by (k.first + i) ds) k m a c new
  one-more i answers x gained offered es ds k l m a b c old new so_far went token due others counts =
      let many = so_far.so_many in
      let n = k.first + i in
      let unserved = token-is remaining plan moment i (answer_at answers i) None (entries_of n gained) (entries_of n gained) (offers_of n offered) (offers_of n offered) k l
      (sym (answer-past answers i (omega (arith, many)))) refl refl (so_far.tokens i) in
      record {
        so_many = length-append answers (x ∷ []) ∙ ap (λ (n : ℕ). n + 1) many;
        went = loop-then plan gained (entries_by n es) offered (offers_by n ds) k l m a b c so_far.went
            (subst (λ (f : ℕ). LoopProgress plan (entries_by (f + i) es) (offers_by (f + i) ds) l m b c) so_far.went.first went);
        chosen = λ u low. chosen-more i u answers x k many so_far.chosen (due ∙ due-same remaining plan moment (ready i) i (entries_of n gained) (offers_of n offered) k l unserved) low (cases_eq u i);
        tokens = λ u. token-more i u answers x gained offered es ds k l m many (so_far.tokens u) token others (cases_eq u i);
        reported = report-add answers x old new so_far.reported counts;
      }

unheld : (b : Bool) → (b ≡ true → ⊥) → b ≡ false
unheld true h = absurd (h refl)
unheld false h = refl

-- all tokens of a loop
pub all-served : {S : Type 0} (plan : Plan) (remaining : S → Option (List ℕ)) (moment : ℕ) (ready : ℕ → Bool) (n : ℕ) (answers : List (Option Served)) (gained : List LoggedEntry) (offered : List ReaderOffer) (k l : LoopState S) (a b : OffersMade) (report : TurnReport)
    → ((token : ℕ) → is_held k token ≡ true → token < n)
    → TurnSoFar plan remaining moment ready n answers gained offered k l a b report
    → TurnServed remaining plan moment ready answers gained offered k l
all-served plan remaining moment ready n answers gained offered k l a b report within so_far =
    let many = so_far.so_many in
    record {
      chosen = λ token. elim (cases_lt token n) [
        | inl low ↦ so_far.chosen token low
        | inr high ↦ ap is_some (answer-past answers token (omega (arith, many, high)))
            ∙ sym (and_right (ready token || is_listed k token) (is_held k token) (unheld (is_held k token) (λ held. omega (arith, high, within token held))))
      ];
      tokens = so_far.tokens;
    }

-- one more that is ready
pub ready-more : (ready : List Token) (i : ℕ) (d : Token) (token : ℕ) → i < length ready → is_ready (take (i + 1) ready) token ≡ (is_ready (take i ready) token || ((get_or ready i d).0 == token))
ready-more ready i d token within =
    ap (λ (l : List Token). is_ready l token) (take_more ready i d within)
    ∙ list_any-append (λ r. r.0 == token) (take i ready) (get_or ready i d ∷ [])
    ∙ ap (λ (b : Bool). is_ready (take i ready) token || b) (or-false ((get_or ready i d).0 == token))
