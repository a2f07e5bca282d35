-- What serving a connection does.
use Rattle.std.specs.Prelude.{◌≡◌, ◌≢◌, ◌⊎◌, ℕ, ◌+◌, ◌<◌, ◌≤◌, ◌==◌, ◌&&◌, Bool, true, false, if◌then◌else◌, nat_le, List, [], ◌∷◌, ◌++◌, length, Option, Some, None}
use Rattle.std.specs.List.{list_all}
use Rattle.std.specs.Io.KnownBytes.{Consumes, IsAtEnd}
use Rattle.dest_writer.specs.Counting.{Rose, counts_of, raised_by, stream_of}
use Rattle.dest_writer.specs.declared.counting.Counting.{Counting}
use Rattle.dest_writer.specs.declared.counting.Outcome.{Outcome}
use Rattle.dest_writer.specs.declared.counting.Outcome.TheVariants as outcome
use Rattle.router.specs.Plan.{Plan}
use Rattle.reader_core.specs.Configuration.{Dispatch}
use Rattle.reader_core.specs.Entries.{InputEntry, Piece, End, bytes_of_entries, input_after_entries}
use Rattle.reader_core.specs.Input.{Stream, current}
use Rattle.reader_core.specs.Kinds.{closes}
use Rattle.reader_core.specs.Reader.{ReaderModel, Represents}
use Rattle.reader_core.specs.declared.kind.ReaderKind.{ReaderKind}
use Rattle.mio_loops.specs.LoopState.{waiting_in}
use Rattle.mio_loops.specs.declared.served.Served.{Served}
use Rattle.mio_loops.specs.declared.served.Served.TheVariants.{Drained, Again, Ended, Failed, Starved, Refused}

-- a turn makes no more reads of a connection
abbrev pub most_reads : ℕ
most_reads = 16

-- and a read gives no more bytes
abbrev pub most_read : ℕ
most_read = 4096

-- the connection stays
abbrev pub stays : Served → Bool
stays Drained = true
stays Again = true
stays Ended = false
stays Failed = false
stays Starved = false
stays Refused = false

abbrev pub is_starved : Served → Bool
is_starved Starved = true
is_starved other = false

-- the last read may have had this outcome; an offer may be refused whatever the outcome
abbrev pub fits_last : Served → Outcome → Bool
fits_last Drained outcome.WouldBlock = true
fits_last Again outcome.Moved = true
fits_last Again outcome.Interrupted = true
fits_last Ended outcome.Moved = true
fits_last Failed outcome.Failed = true
fits_last Starved outcome.Moved = true
fits_last Refused last = true
fits_last other last = false

-- how a connection is served after a read with this outcome; after an interrupted read it may be read on
abbrev pub served_after : Outcome → Option Served
served_after outcome.Moved = None
served_after outcome.WouldBlock = Some Drained
served_after outcome.Interrupted = None
served_after outcome.Failed = Some Failed

-- of a stream whose bytes are known these were read: those that were fed, and a last piece that memory
-- had no room for
pub record WasRead (before after : Option (List ℕ)) (pieces : List InputEntry) (served : Served) :
    Type 0 where
  pub unfed : List ℕ
  pub read : Consumes before after (bytes_of_entries pieces ++ unfed)
  pub fed : is_starved served ≡ false → unfed ≡ []
  -- one read gave them
  pub few : length unfed ≤ most_read

-- a piece of this moment, which one read gave; the end of a connection is none
abbrev pub is_read : ℕ → InputEntry → Bool
is_read moment (Piece bytes at) = nat_le (length bytes) most_read && at == moment
is_read moment End = false

-- all are such pieces
abbrev pub are_reads : ℕ → List InputEntry → Bool
are_reads moment entries = list_all (is_read moment) entries

-- a connection that leaves has its reader ended
abbrev pub with_end : Served → List InputEntry → List InputEntry
with_end served pieces = if stays served then pieces else pieces ++ End ∷ []

-- by this plan the entries close the connection, whatever input the reader represents
abbrev pub Closes : Plan → Option ReaderModel → List InputEntry → Type 0
Closes plan None entries = ⊥
Closes plan (Some reader) entries =
    (kind : ReaderKind) (input : List Stream) (taken : List Dispatch)
    → Represents reader kind plan input taken
    → closes kind (current (input_after_entries kind entries input)) ≡ true

-- how a connection was served at a moment: from what its stream and its reader were before to what the stream
-- was then, and which offers were left waiting
pub record ConnectionServed {S : Type 0} (remaining : S → Option (List ℕ)) (plan : Plan)
    (moment : ℕ) (served : Served) (pieces : List InputEntry) (made : List Dispatch)
    (reader : Option ReaderModel) (left : List Dispatch) (source last : Counting S) : Type 0
  where
    -- at most this number of reads was made, and at least one unless an offer was refused
    pub calls : (counts_of last).calls ≤ (counts_of source).calls + most_reads
    pub tried : served ≢ Refused → Rose (counts_of source).calls (counts_of last).calls
    -- a connection that is to be served again has made all its reads
    pub again : served ≡ Again → (counts_of last).calls ≡ raised_by most_reads (counts_of source).calls
    -- the answer says how the last read ended
    pub outcome : fits_last served (counts_of last).last ≡ true
    -- it ends where the stream is at its end, or a piece closed it
    pub ended : served ≡ Ended → IsAtEnd (remaining (stream_of last)) ⊎ Closes plan reader pieces
    -- a failure ends it, and only a failure is answered `Failed`
    pub failed : served ≡ Failed → Rose (counts_of source).failures (counts_of last).failures
    pub not_failed : served ≢ Failed → (counts_of last).failures ≡ (counts_of source).failures
    -- what was read is what was fed
    pub bytes : WasRead (remaining (stream_of source)) (remaining (stream_of last)) pieces served
    -- in pieces of this moment, none longer than a read
    pub reads : are_reads moment pieces ≡ true
    -- no read was made before the offers that waited
    pub waited : (counts_of last ≡ counts_of source)
        ⊎ ((others : List Dispatch) × (made ≡ waiting_in reader ++ others))
    -- all offers are made, or one was refused
    pub offered : served ≢ Refused → left ≡ []
    pub refused : served ≡ Refused → 0 < length left

-- ---- one read

-- a connection that is read on, so far
abbrev pub served_of : Option Served → Served
served_of None = Again
served_of (Some served) = served

-- a piece is an entry, unless there was no memory for it
abbrev pub IsFedAs : List ℕ → ℕ → List InputEntry → Option Served → Type 0
IsFedAs piece moment pieces (Some Starved) = pieces ≡ []
IsFedAs piece moment pieces (Some Ended) = pieces ≡ Piece piece moment ∷ []
IsFedAs piece moment pieces (Some Refused) = pieces ≡ Piece piece moment ∷ []
IsFedAs piece moment pieces (Some Drained) = ⊥
IsFedAs piece moment pieces (Some Again) = ⊥
IsFedAs piece moment pieces (Some Failed) = ⊥
IsFedAs piece moment pieces None = pieces ≡ Piece piece moment ∷ []
