-- A run, taken apart: if each reader and each destination allows its own part, all is allowed.
use Rattle.std.proofs.Common.{◌≡◌, ◌≢◌, ◌<◌, ℕ, Bool, true, false, ◌==◌, if◌then◌else◌, List, [], ◌∷◌, ◌++◌, length, Some, None, Option, refl, sym, ap, ◌∙◌, subst, inl, inr, filter, filter_map, map, get_or-set_same, get_or-set_other, eq-eqb}
use Rattle.std.proofs.lemmas.Bool.{cases_eq, ne_eqb, lt-ltb}
use Rattle.std.proofs.lemmas.List.{length-set}
use Rattle.std.proofs.lemmas.Grind.{common_steps}
use Rattle.std.specs.Prelude.{◌⊎◌, slice_set, ◌&&◌, nat_lt}
use Rattle.std.proofs.Common.{arith}
use Rattle.line_text.specs.Connection.{arrivals}
use Rattle.reader_core.specs.Reading.{Reading}
use Rattle.reader_core.specs.Configuration.{Configuration, Dispatch}
use Rattle.reader_core.specs.Entries.{Piece, End}
use Rattle.relay_core.specs.Destination.{Destination, Offered, fresh_destination, may_act, dest_after}
use Rattle.relay_core.specs.World.{WorldState, ReaderState, RunEvent, ActAt, reader_at, dest_at, is_closed, waiting_of, is_nothing, reader_after_piece, reader_after_end, reader_after_offer, is_allowed, step_of, world_after, readers_after, after, after_all}
use Rattle.relay_core.specs.World as worlds
use Rattle.relay_core.specs.Run.{Deed, deed_of, deeds_at, all_deeds}
use Rattle.relay_core.specs.Weave.{WovenStep, Offering, Taking, Connecting, Writing, Losing, act_of}
use Rattle.relay_core.specs.RunOfOrder.{Placed, Entering, Stepping, Part, OfReader, part_of, is_same, event_of_placed}
use Rattle.relay_core.specs.OneRun.{AreAllowed}
use Rattle.relay_core.proofs.Readers.{reader_at-set_same, reader_at-set_other}

-- what is a part's own
abbrev pub own_at : Part → List Placed → List Placed
own_at p xs = filter (λ x. is_same p (part_of x)) xs

-- the step, if it is at the destination
abbrev pub step_at : ℕ → Placed → Option WovenStep
step_at d (Entering r entry) = None
step_at d (Stepping e step) = if e == d then Some step else None

-- the act that it is at a destination
abbrev pub act_placed : Placed → Option ActAt
act_placed (Entering r entry) = None
act_placed (Stepping d step) = Some (record { dest = d; act = act_of step })

-- what was done, and where
abbrev pub act_at_of : Deed → ActAt
act_at_of deed = record { dest = deed.dest; act = deed.act }

pub either : (b : Bool) → (b ≡ true) ⊎ (b ≡ false)
either true = inl refl
either false = inr refl

-- the steps at a destination
abbrev pub woven_at : ℕ → List Placed → List WovenStep
woven_at d xs = filter_map (step_at d) xs

-- the reader and the destination exist
abbrev pub IsThere : ℕ → ℕ → Placed → Type 0
IsThere readers dests (Entering r entry) = r < readers
IsThere readers dests (Stepping d (Offering r number point kept)) = (r < readers) × (d < dests)
IsThere readers dests (Stepping d (Taking limit taken)) = d < dests
IsThere readers dests (Stepping d Connecting) = d < dests
IsThere readers dests (Stepping d (Writing count)) = d < dests
IsThere readers dests (Stepping d Losing) = d < dests

abbrev pub AreThere : ℕ → ℕ → List Placed → Type 0
AreThere readers dests [] = Unit {0}
AreThere readers dests (x ∷ xs) = IsThere readers dests x × AreThere readers dests xs

module _ (reading : Reading) (c : Configuration) where
  -- ---- one reader

  -- the reader makes this offer next
  pub record IsNext (s : ReaderState) (sent : Dispatch) : Type 0 where
    pub others : List Dispatch
    pub waits : waiting_of reading c s ≡ sent ∷ others

  abbrev pub MayRead : ReaderState → Placed → Type 0
  MayRead s (Entering r (Piece bytes moment)) = (is_closed reading c s ≡ false) × (waiting_of reading c s ≡ [])
  MayRead s (Entering r End) = Unit {0}
  MayRead s (Stepping d (Offering r number point kept)) = IsNext s (record { dest = d; point = point })
  MayRead s (Stepping d (Taking limit taken)) = Unit {0}
  MayRead s (Stepping d Connecting) = Unit {0}
  MayRead s (Stepping d (Writing count)) = Unit {0}
  MayRead s (Stepping d Losing) = Unit {0}

  abbrev pub after_read : ReaderState → Placed → ReaderState
  after_read s (Entering r (Piece bytes moment)) = reader_after_piece (arrivals bytes moment) s
  after_read s (Entering r End) = reader_after_end s
  after_read s (Stepping d step) = reader_after_offer s

  -- the reader allows one after the other, and this is its state at the end
  abbrev pub Reads : ReaderState → List Placed → ReaderState → Type 0
  Reads s [] end = s ≡ end
  Reads s (x ∷ xs) end = MayRead s x × Reads (after_read s x) xs end

  -- ---- one destination

  abbrev pub Goes : Destination → List WovenStep → Destination → Type 0
  Goes t [] end = t ≡ end
  Goes t (step ∷ steps) end = (may_act t (act_of step) ≡ true) × Goes (dest_after c.size c.limit t (act_of step)) steps end

  -- ---- all of them

  module _ (readers dests : ℕ) (reader_end : ℕ → ReaderState) (dest_end : ℕ → Destination) where
    pub record IsBefore (w : WorldState) (xs : List Placed) : Type 0 where
      pub reader_count : length w.readers ≡ readers
      pub dest_count : length w.destinations ≡ dests
      pub reads : (r : ℕ) → r < readers → Reads (reader_at w r) (own_at (OfReader r) xs) (reader_end r)
      pub goes : (d : ℕ) → d < dests → Goes (dest_at w d) (woven_at d xs) (dest_end d)

    -- ---- one reader continues

    own_first : (r : ℕ) (x : Placed) (xs : List Placed) → part_of x ≡ OfReader r → (w : WorldState)
        → ((q : ℕ) → q < readers → Reads (reader_at w q) (own_at (OfReader q) (x ∷ xs)) (reader_end q)) → r < readers
        → MayRead (reader_at w r) x × Reads (after_read (reader_at w r) x) (own_at (OfReader r) xs) (reader_end r)
    own_first r x xs e w reads l =
        let same : is_same (OfReader r) (part_of x) ≡ true = ap (is_same (OfReader r)) e ∙ grind (arith, common_steps) in
        rw same at (reads r l)

    own_others : (r : ℕ) (x : Placed) (xs : List Placed) → part_of x ≡ OfReader r → (w : WorldState) (dests_after : List Destination)
        → ((q : ℕ) → q < readers → Reads (reader_at w q) (own_at (OfReader q) (x ∷ xs)) (reader_end q)) → r < readers → length w.readers ≡ readers
        → (q : ℕ) → q < readers
        → Reads (reader_at (record { readers = slice_set w.readers r (after_read (reader_at w r) x); destinations = dests_after }) q) (own_at (OfReader q) xs) (reader_end q)
    own_others r x xs e w dests_after reads l count q lq = by_case (cases_eq q r)
      where
        by_case : (q ≡ r) ⊎ (q ≢ r)
            → Reads (reader_at (record { readers = slice_set w.readers r (after_read (reader_at w r) x); destinations = dests_after }) q) (own_at (OfReader q) xs) (reader_end q)
        by_case (inl same) = rw (same, reader_at-set_same w r (after_read (reader_at w r) x) dests_after (subst (λ n. r < n) (sym count) l)) (own_first r x xs e w reads l).1
        by_case (inr other) =
            let apart : is_same (OfReader q) (part_of x) ≡ false = ap (is_same (OfReader q)) e ∙ ne_eqb q r other in
            rw (reader_at-set_other w r q (after_read (reader_at w r) x) dests_after other) (rw apart at (reads q lq))

    -- ---- one destination continues

    goes_first : (d : ℕ) (step : WovenStep) (xs : List Placed) (w : WorldState)
        → ((e : ℕ) → e < dests → Goes (dest_at w e) (woven_at e (Stepping d step ∷ xs)) (dest_end e)) → d < dests
        → (may_act (dest_at w d) (act_of step) ≡ true) × Goes (dest_after c.size c.limit (dest_at w d) (act_of step)) (woven_at d xs) (dest_end d)
    goes_first d step xs w goes l = rw (eq-eqb d d refl) at (goes d l)

    goes_others : (d : ℕ) (step : WovenStep) (xs : List Placed) (w : WorldState) (readers_after : List ReaderState)
        → ((e : ℕ) → e < dests → Goes (dest_at w e) (woven_at e (Stepping d step ∷ xs)) (dest_end e)) → d < dests → length w.destinations ≡ dests
        → (e : ℕ) → e < dests
        → Goes (dest_at (record { readers = readers_after; destinations = slice_set w.destinations d (dest_after c.size c.limit (dest_at w d) (act_of step)) }) e) (woven_at e xs) (dest_end e)
    goes_others d step xs w readers_after goes l count e le = by_case (cases_eq e d)
      where
        by_case : (e ≡ d) ⊎ (e ≢ d)
            → Goes (dest_at (record { readers = readers_after; destinations = slice_set w.destinations d (dest_after c.size c.limit (dest_at w d) (act_of step)) }) e) (woven_at e xs) (dest_end e)
        by_case (inl same) =
            rw (same, get_or-set_same w.destinations d (dest_after c.size c.limit (dest_at w d) (act_of step)) (fresh_destination 0) (subst (λ n. d < n) (sym count) l))
            (goes_first d step xs w goes l).1
        by_case (inr other) =
            rw (get_or-set_other w.destinations d e (dest_after c.size c.limit (dest_at w d) (act_of step)) (fresh_destination 0) other)
            (rw (ne_eqb d e (λ k. other (sym k))) at (goes e le))

    -- ---- one event

    reader_allowed : (r : ℕ) (bytes : List ℕ) (moment : ℕ) (w : WorldState) → r < length w.readers
        → is_closed reading c (reader_at w r) ≡ false → waiting_of reading c (reader_at w r) ≡ []
        → is_allowed reading c w (worlds.Piece r bytes moment) ≡ true
    reader_allowed r bytes moment w l open_yet none = rw (lt-ltb r (length w.readers) l, open_yet, none) refl

    dest_allowed : (d : ℕ) (w : WorldState) (b : Bool) → length w.destinations ≡ dests → d < dests → b ≡ true → (nat_lt d (length w.destinations) && b) ≡ true
    dest_allowed d w b count l may = rw (may, lt-ltb d (length w.destinations) (subst (λ n. d < n) (sym count) l)) refl

    -- the event is allowed, and this is the state after it
    pub record GoesOn (w : WorldState) (event : RunEvent) (act : Option ActAt) (xs : List Placed) : Type 0 where
      pub allowed : is_allowed reading c w event ≡ true
      pub step : step_of reading c w event ≡ act
      pub is_before : IsBefore (world_after reading c w event) xs

    dest_moves : (d : ℕ) (step : WovenStep) (x : RunEvent) (xs : List Placed) (w : WorldState)
        → step_of reading c w x ≡ Some (record { dest = d; act = act_of step })
        → is_allowed reading c w x ≡ (nat_lt d (length w.destinations) && may_act (dest_at w d) (act_of step))
        → readers_after reading c w x ≡ w.readers
        → ((q : ℕ) → q < readers → Reads (reader_at w q) (own_at (OfReader q) xs) (reader_end q))
        → d < dests → IsBefore w (Stepping d step ∷ xs) → GoesOn w x (Some (record { dest = d; act = act_of step })) xs
    dest_moves d step x xs w is may same reads l s =
        record {
          allowed = may ∙ dest_allowed d w (may_act (dest_at w d) (act_of step)) s.dest_count l (goes_first d step xs w s.goes l).0;
          step = is;
          is_before =
              rw (is, same)
              (record {
                reader_count = s.reader_count;
                dest_count = length-set w.destinations d (dest_after c.size c.limit (dest_at w d) (act_of step)) ∙ s.dest_count;
                reads = reads;
                goes = goes_others d step xs w w.readers s.goes l s.dest_count;
              });
        }

    one_step : (w : WorldState) (x : Placed) (xs : List Placed) → IsThere readers dests x → IsBefore w (x ∷ xs) → GoesOn w (event_of_placed x) (act_placed x) xs
    one_step w (Entering r (Piece bytes moment)) xs l s =
        let may : MayRead (reader_at w r) (Entering r (Piece bytes moment)) = (own_first r (Entering r (Piece bytes moment)) xs refl w s.reads l).0 in
        let there : r < length w.readers = subst (λ n. r < n) (sym s.reader_count) l in
        record {
          allowed = reader_allowed r bytes moment w there may.0 may.1;
          step = refl;
          is_before = record {
            reader_count = length-set w.readers r (after_read (reader_at w r) (Entering r (Piece bytes moment))) ∙ s.reader_count;
            dest_count = s.dest_count;
            reads = own_others r (Entering r (Piece bytes moment)) xs refl w w.destinations s.reads l s.reader_count;
            goes = s.goes;
          };
        }
    one_step w (Entering r End) xs l s =
        record {
          allowed = lt-ltb r (length w.readers) (subst (λ n. r < n) (sym s.reader_count) l);
          step = refl;
          is_before = record {
            reader_count = length-set w.readers r (after_read (reader_at w r) (Entering r End)) ∙ s.reader_count;
            dest_count = s.dest_count;
            reads = own_others r (Entering r End) xs refl w w.destinations s.reads l s.reader_count;
            goes = s.goes;
          };
        }
    one_step w (Stepping d (Offering r number point kept)) xs l s =
        let next : IsNext (reader_at w r) (record { dest = d; point = point }) = (own_first r (Stepping d (Offering r number point kept)) xs refl w s.reads l.0).0 in
        record {
          allowed = rw next.waits refl;
          step = rw next.waits refl;
          is_before =
              rw next.waits
              (record {
                reader_count = length-set w.readers r (reader_after_offer (reader_at w r)) ∙ s.reader_count;
                dest_count = length-set w.destinations d (dest_after c.size c.limit (dest_at w d) (Offered r point)) ∙ s.dest_count;
                reads =
                    own_others r (Stepping d (Offering r number point kept)) xs refl w
                    (slice_set w.destinations d (dest_after c.size c.limit (dest_at w d) (Offered r point))) s.reads l.0 s.reader_count;
                goes =
                    goes_others d (Offering r number point kept) xs w (slice_set w.readers r (reader_after_offer (reader_at w r))) s.goes l.1 s.dest_count;
              });
        }
    one_step w (Stepping d (Taking limit taken)) xs l s = dest_moves d (Taking limit taken) (worlds.Take d) xs w refl refl refl s.reads l s
    one_step w (Stepping d Connecting) xs l s = dest_moves d Connecting (worlds.Up d) xs w refl refl refl s.reads l s
    one_step w (Stepping d (Writing count)) xs l s = dest_moves d (Writing count) (worlds.Wrote d count) xs w refl refl refl s.reads l s
    one_step w (Stepping d Losing) xs l s = dest_moves d Losing (worlds.Down d) xs w refl refl refl s.reads l s

    -- ---- all events

    pub record AllGo (w : WorldState) (xs : List Placed) (events : List RunEvent) : Type 0 where
      pub allowed : AreAllowed reading c w events
      pub reader_ends : (r : ℕ) → r < readers → reader_at (after_all reading c w events) r ≡ reader_end r
      pub dest_ends : (d : ℕ) → d < dests → dest_at (after_all reading c w events) d ≡ dest_end d
      pub acts : (d : ℕ) → map (λ deed. deed.act) (deeds_at d (all_deeds reading c w events)) ≡ map act_of (woven_at d xs)
      pub done : map act_at_of (all_deeds reading c w events) ≡ filter_map act_placed xs

    done_more : (w : WorldState) (x : Placed) (xs : List Placed) (deeds : List Deed) → map act_at_of deeds ≡ filter_map act_placed xs
        → map act_at_of (deed_of reading w (act_placed x) ++ deeds) ≡ filter_map act_placed (x ∷ xs)
    done_more w (Entering r entry) xs deeds same = same
    done_more w (Stepping d step) xs deeds same = ap (λ acts. record { dest = d; act = act_of step } ∷ acts) same

    acts_more : (d : ℕ) (w : WorldState) (x : Placed) (xs : List Placed) (deeds : List Deed)
        → map (λ deed. deed.act) (deeds_at d deeds) ≡ map act_of (woven_at d xs)
        → map (λ deed. deed.act) (deeds_at d (deed_of reading w (act_placed x) ++ deeds)) ≡ map act_of (woven_at d (x ∷ xs))
    acts_more d w (Entering r entry) xs deeds same = same
    acts_more d w (Stepping e step) xs deeds same = elim (either (e == d)) [
      | inl h ↦ rw h (ap (λ acts. act_of step ∷ acts) same)
      | inr h ↦ rw h same
    ]

    pub all_go : (w : WorldState) (xs : List Placed) → AreThere readers dests xs → IsBefore w xs → AllGo w xs (map event_of_placed xs)
    all_go w [] there s = record { allowed = tt; reader_ends = s.reads; dest_ends = s.goes; acts = λ d. refl; done = refl }
    all_go w (x ∷ xs) there s =
        let on = one_step w x xs there.0 s in
        let rest = all_go (world_after reading c w (event_of_placed x)) xs there.1 on.is_before in
        let same : after reading c w (event_of_placed x) ≡ world_after reading c w (event_of_placed x) = rw on.allowed refl in
        let deeds : all_deeds reading c w (map event_of_placed (x ∷ xs)) ≡ deed_of reading w (act_placed x) ++ all_deeds reading c (world_after reading c w (event_of_placed x)) (map event_of_placed xs) =
        rw (on.allowed, on.step) refl in
        record {
          allowed = (on.allowed, subst (λ v. AreAllowed reading c v (map event_of_placed xs)) (sym same) rest.allowed);
          reader_ends = λ r l. ap (λ v. reader_at (after_all reading c v (map event_of_placed xs)) r) same ∙ rest.reader_ends r l;
          dest_ends = λ d l. ap (λ v. dest_at (after_all reading c v (map event_of_placed xs)) d) same ∙ rest.dest_ends d l;
          acts = λ d. ap (λ ds. map (λ deed. deed.act) (deeds_at d ds)) deeds ∙ acts_more d w x xs _ (rest.acts d);
          done = ap (map act_at_of) deeds ∙ done_more w x xs _ rest.done;
        }
