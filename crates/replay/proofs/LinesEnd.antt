-- A run of lines from its start to its end.
use Rattle.std.proofs.Common.{◌≡◌, ◌≤◌, ◌<◌, ℕ, zero, suc, ◌^◌, false, List, [], ◌∷◌, ◌++◌, length, drop, refl, sym, ap, ◌∙◌, subst, arith}
use Rattle.std.specs.Prelude.{slice_index_or}
use Rattle.std.specs.List.{AllByRecursion}
use Rattle.std.proofs.lemmas.List.{length-replicate, get_or-replicate, take_all, drop_all}
use Rattle.line_text.specs.Connection.{arrivals}
use Rattle.line_text.specs.Print.{printed_line}
use Rattle.reader_core.specs.Input.{Stream}
use Rattle.reader_core.specs.Reading.{Reading}
use Rattle.reader_core.specs.Configuration.{Configuration, Dispatch, sent_to}
use Rattle.reader_core.specs.declared.kind.ReaderKind.TheVariants.{Line}
use Rattle.relay_core.specs.Destination.{Destination, Connected, fresh_destination}
use Rattle.relay_core.specs.World.{WorldState, ReaderState, Piece, End, Up, fresh_world, reader_at, dest_at, waiting_of, after, after_all}
use Rattle.replay.specs.LinesRun.{each_of, sends_of, opening, events_of_lines}
use Rattle.replay.proofs.HandingOver.{idle, tried_all, tried_all-nil, tried_all-cons}
use Rattle.replay.proofs.OwnEvents.{ran, ran-is, ran-nil, ran-cons, ran-append, EachChanged, each_changed}
use Rattle.replay.proofs.LinesSent.{IsIdle, connects, at_offer, all_of, IsSent, round}

some_left : {A : Type 0} (k : ℕ) (all : List A) → k < length all → (x : A) × (rest : List A) × (drop k all ≡ x ∷ rest)
some_left k [] l = absurd (omega (arith, l))
some_left zero (x ∷ all) l = (x, all, refl)
some_left (suc k) (x ∷ all) l = some_left k all (omega (arith, l))

first_left : {A : Type 0} (P : A → Type 0) (k : ℕ) (all : List A) (x : A) (rest : List A) → AllByRecursion P all → drop k all ≡ x ∷ rest → P x
first_left P zero [] x rest h e = cc
first_left P zero (y ∷ all) x rest h e = let same : y ≡ x = cc in subst P same h.0
first_left P (suc k) [] x rest h e = cc
first_left P (suc k) (y ∷ all) x rest h e = first_left P k all x rest h.1 e

module _ (reading : Reading) (c : Configuration) (nothing : reading.points Line [] ≡ []) (open_first : reading.closes Line [] ≡ false) where
  abbrev start : WorldState
  start = fresh_world c (Line ∷ [])

  -- ---- the opening

  -- what a new connection does
  abbrev connected : Destination → Destination
  connected dest = tried_all c.size c.limit dest (Connected ∷ [])

  fresh-connected : connected (fresh_destination 1) ≡ idle 0 (0 ∷ []) []
  fresh-connected =
      tried_all-cons c.size c.limit (fresh_destination 1) Connected [] ∙ tried_all-nil c.size c.limit (idle 0 (0 ∷ []) [])

  module _ (lines : List ℕ) where
    abbrev input : List Stream
    input = arrivals lines 0 ∷ []

    fed : (dests : List Destination) → after reading c (at_offer reading c ([] ∷ []) 0 dests) (Piece 0 lines 0) ≡ at_offer reading c input 0 dests
    fed dests = rw (open_first, nothing) refl

    module _ (v : WorldState) (x : EachChanged reading c connected c.destinations start v) where
      after_piece : IsSent reading c input 0 (after reading c v (Piece 0 lines 0))
      after_piece =
          record {
            dests = v.destinations;
            is =
                ap (λ (readers : List ReaderState). after reading c (record { readers = readers; destinations = v.destinations }) (Piece 0 lines 0)) x.readers
                ∙ fed v.destinations;
            count = x.count ∙ length-replicate c.destinations (fresh_destination 1);
            each = λ d l.
                (0 ∷ [], x.changed d l ∙ ap connected (get_or-replicate c.destinations d (fresh_destination 1) (fresh_destination 0) l) ∙ fresh-connected);
          }

    -- each destination has a connection, and the reader has the lines
    opened : IsSent reading c input 0 (ran reading c start (opening c.destinations lines))
    opened =
        let ups = each_of (λ d. Up d ∷ []) c.destinations in
        let up = ran reading c start ups in
        let leads : ran reading c start (opening c.destinations lines) ≡ after reading c up (Piece 0 lines 0) =
        ran-append reading c start ups (Piece 0 lines 0 ∷ []) ∙ ran-cons reading c up (Piece 0 lines 0) [] ∙ ran-nil reading c (after reading c up (Piece 0 lines 0)) in
        let changed =
        each_changed reading c (λ d. Up d ∷ []) connected (λ d v l. connects reading c d v l) c.destinations start
        (rw (length-replicate c.destinations (fresh_destination 1)) (omega arith)) in
        rw leads (after_piece up changed)

    -- so all that it has to offer waits
    pub waiting-opened : waiting_of reading c (reader_at (ran reading c start (opening c.destinations lines)) 0) ≡ all_of reading c input
    waiting-opened = ap (λ (v : WorldState). waiting_of reading c (reader_at v 0)) opened.is

    -- ---- the offers

    module _ (room : 1 ≤ c.size) (some : 1 ≤ c.limit)
        (short : AllByRecursion (λ (sent : Dispatch). length (printed_line sent.point) < 2 ^ 15) (all_of reading c input)) where
      rounds : (n : ℕ) (w : WorldState) → IsSent reading c input 0 w → n ≤ length (all_of reading c input)
          → IsSent reading c input n (ran reading c w (each_of (λ m. sends_of c.destinations) n))
      rounds zero w h l = rw (ran-nil reading c w) h
      rounds (suc n) w h l =
          let before = each_of (λ m. sends_of c.destinations) n in
          let left = some_left n (all_of reading c input) (omega (arith, l)) in
          let brief = first_left (λ (sent : Dispatch). length (printed_line sent.point) < 2 ^ 15) n (all_of reading c input) left.0 left.1 short left.2 in
          rw (ran-append reading c w before (sends_of c.destinations))
          (round reading c input room some n (ran reading c w before) left.0 left.1 left.2 brief (rounds n w h (omega (arith, l))))

      -- ---- the end

      -- nothing waits, and each destination got the lines of its datapoints
      pub record AllSent (w : WorldState) : Type 0 where
        pub waiting : waiting_of reading c (reader_at w 0) ≡ []
        pub each : (d : ℕ) → d < c.destinations → IsIdle (dest_at w d) (sent_to d (all_of reading c input))

      ended : (w : WorldState) → IsSent reading c input (length (all_of reading c input)) w → AllSent (after reading c w (End 0))
      ended w h =
          let all = all_of reading c input in
          let same : all_of reading c (input ++ [] ∷ []) ≡ all = rw nothing refl in
          let end : after reading c w (End 0) ≡ at_offer reading c (input ++ [] ∷ []) (length all) h.dests =
          ap (λ (v : WorldState). after reading c v (End 0)) h.is in
          rw end
          (record {
            waiting = ap (drop (length all)) same ∙ drop_all (length all) all (omega arith);
            each = λ d l. subst (λ (sent : List Dispatch). IsIdle (slice_index_or h.dests d (fresh_destination 0)) (sent_to d sent)) (take_all (length all) all (omega arith)) (h.each d l);
          })

      pub all_sent : AllSent (ran reading c start (events_of_lines c.destinations lines (length (all_of reading c input))))
      all_sent =
          let count = length (all_of reading c input) in
          let begun = opening c.destinations lines in
          let sends = each_of (λ m. sends_of c.destinations) count in
          let sent = ran reading c start (begun ++ sends) in
          let leads : ran reading c start ((begun ++ sends) ++ End 0 ∷ []) ≡ after reading c sent (End 0) =
          ran-append reading c start (begun ++ sends) (End 0 ∷ []) ∙ ran-cons reading c sent (End 0) [] ∙ ran-nil reading c (after reading c sent (End 0)) in
          let at_end : IsSent reading c input count sent =
          rw (ran-append reading c start begun sends) (rounds count (ran reading c start begun) opened (omega arith)) in
          rw leads (ended sent at_end)

      -- the same of the run that offers as often as offers wait after the opening
      pub all_sent_of : AllSent
          (after_all reading c start
          (events_of_lines c.destinations lines
          (length (waiting_of reading c (reader_at (after_all reading c start (opening c.destinations lines)) 0)))))
      all_sent_of =
          let waits : waiting_of reading c (reader_at (after_all reading c start (opening c.destinations lines)) 0) ≡ all_of reading c input =
          ap (λ (v : WorldState). waiting_of reading c (reader_at v 0)) (sym (ran-is reading c start (opening c.destinations lines))) ∙ waiting-opened in
          rw (waits, ← (ran-is reading c start (events_of_lines c.destinations lines (length (all_of reading c input))))) all_sent
