-- A turn of a read loop: each connection that is ready, or was in the again list, is served once.
use Rattle.std.specs.Prelude.{◌≡◌, ℕ, ◌+◌, ◌≤◌, ◌==◌, ◌&&◌, ◌||◌, Bool, true, false, List, Option, Some, None, is_some, slice_get, slice_index_or, count_by}
use Rattle.std.specs.List.{list_any}
use Rattle.slab.specs.Slab.{get}
use Rattle.router.specs.Plan.{Plan}
use Rattle.reader_core.specs.Configuration.{Dispatch}
use Rattle.reader_core.specs.Entries.{InputEntry, LoggedEntry, entries_of}
use Rattle.queue_records.specs.Offers.{OffersMade}
use Rattle.mio_loops.specs.LoopState.{LoopState, is_held, is_listed}
use Rattle.mio_loops.specs.LoopSteps.{ConnectionProgress, LoopProgress, is_again}
use Rattle.mio_loops.specs.Reading.{ReaderOffer, offers_of}
use Rattle.mio_loops.specs.declared.served.Served.{Served}
use Rattle.mio_loops.specs.declared.served.Served.TheVariants.{Drained, Again, Ended, Failed, Starved, Refused}
use Rattle.mio_loops.specs.declared.token.Token.{Token}
use Rattle.mio_loops.specs.declared.turn_report.TurnReport.{TurnReport}

-- ---- who is served

-- a token is among those that are ready
abbrev pub is_ready : List Token → ℕ → Bool
is_ready ready token = list_any (λ t. t.0 == token) ready

-- a turn serves the token's connection: it is ready or is in the again list, and is held
abbrev pub is_due : {S : Type 0} → Bool → LoopState S → ℕ → Bool
is_due ready loop token = (ready || is_listed loop token) && is_held loop token

-- ---- one token

-- whether it is in the again list, by how its connection was served; as before if it was not
abbrev pub listed_after : Option Served → Bool → Bool
listed_after None listed = listed
listed_after (Some answer) listed = is_again answer

-- its connection was served at a moment, or was not; its reader was fed these entries, and made these offers
pub record TokenProgress {S : Type 0} (remaining : S → Option (List ℕ)) (plan : Plan)
    (moment token : ℕ) (answer : Option Served) (entries : List InputEntry) (made : List Dispatch)
    (old new : LoopState S) : Type 0 where
  pub connection : ConnectionProgress remaining plan moment answer entries made
      (slice_get old.readers token) (slice_get new.readers token) (get old.sources token) (get new.sources token)
  pub listed : is_listed new token ≡ listed_after answer (is_listed old token)

-- ---- all tokens

-- the answer of a token's connection, if it was served
abbrev pub answer_at : List (Option Served) → ℕ → Option Served
answer_at answers token = slice_index_or answers token None

-- these are the answers, token by token: each connection that is due was served, and no other
pub record TurnServed {S : Type 0} (remaining : S → Option (List ℕ)) (plan : Plan)
    (moment : ℕ) (ready : ℕ → Bool) (answers : List (Option Served)) (gained : List LoggedEntry)
    (offered : List ReaderOffer) (old new : LoopState S) : Type 0 where
  pub chosen : (token : ℕ) → is_some (answer_at answers token) ≡ is_due (ready token) old token
  pub tokens : (token : ℕ) → TokenProgress remaining plan moment token (answer_at answers token)
      (entries_of (old.first + token) gained) (offers_of (old.first + token) offered) old new

-- ---- the numbers

abbrev pub has_ended : Option Served → Bool
has_ended None = false
has_ended (Some Ended) = true
has_ended (Some Drained) = false
has_ended (Some Again) = false
has_ended (Some Failed) = false
has_ended (Some Starved) = false
has_ended (Some Refused) = false

abbrev pub has_failed : Option Served → Bool
has_failed None = false
has_failed (Some Failed) = true
has_failed (Some Drained) = false
has_failed (Some Again) = false
has_failed (Some Ended) = false
has_failed (Some Starved) = false
has_failed (Some Refused) = false

abbrev pub has_starved : Option Served → Bool
has_starved None = false
has_starved (Some Starved) = true
has_starved (Some Drained) = false
has_starved (Some Again) = false
has_starved (Some Ended) = false
has_starved (Some Failed) = false
has_starved (Some Refused) = false

abbrev pub is_refused : Option Served → Bool
is_refused None = false
is_refused (Some Refused) = true
is_refused (Some Drained) = false
is_refused (Some Again) = false
is_refused (Some Ended) = false
is_refused (Some Failed) = false
is_refused (Some Starved) = false

-- how many connections were served, and how many with each answer
abbrev pub report_of : List (Option Served) → TurnReport
report_of answers =
    record {
      served = count_by is_some answers;
      ended = count_by has_ended answers;
      failed = count_by has_failed answers;
      starved = count_by has_starved answers;
      refused = count_by is_refused answers;
    }

-- no number of a report is above this
pub record IsAtMost (most : ℕ) (report : TurnReport) : Type 0 where
  pub served : report.served ≤ most
  pub ended : report.ended ≤ most
  pub failed : report.failed ≤ most
  pub starved : report.starved ≤ most
  pub refused : report.refused ≤ most

-- ---- a turn

-- readers of a loop were fed, and offers made, by serving each connection that is due at this moment, and the
-- report counts the answers
abbrev pub TurnProgress : {S : Type 0} → (remaining : S → Option (List ℕ)) → Plan → ℕ → List Token
    → TurnReport → (old new : LoopState S) → (before after : OffersMade) → Type 0
TurnProgress remaining plan moment ready report old new before after =
    (answers : List (Option Served)) × (gained : List LoggedEntry) × (offered : List ReaderOffer)
    × LoopProgress plan gained offered old new before after
    × TurnServed remaining plan moment (is_ready ready) answers gained offered old new
    × (report ≡ report_of answers)
