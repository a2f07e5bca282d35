-- A world in which lines are sent: what each destination has after so many offers.
use Rattle.std.proofs.Common.{◌≡◌, ◌≤◌, ◌<◌, ℕ, zero, suc, ◌+◌, ◌^◌, eqb, true, false, List, [], ◌∷◌, ◌++◌, length, map, take, drop, flat_map, refl, sym, ap, ap₂, ◌∙◌, subst, arith, inl, inr, eq-eqb, ne_eqb, get_or-set_same, get_or-set_other}
use Rattle.std.specs.Prelude.{◌⊎◌, slice_set, slice_index_or}
use Rattle.std.proofs.lemmas.Bool.{cases_eq}
use Rattle.std.proofs.lemmas.List.{append-nil, length-set, length_push, map-append}
use Rattle.std.proofs.lemmas.List.Concat.{flat_map-append}
use Rattle.std.proofs.lemmas.List.Elements.{filter-append}
use Rattle.line_text.specs.Datapoint.{Datapoint}
use Rattle.line_text.specs.Print.{printed_line, printed_lines}
use Rattle.reader_core.specs.Input.{Stream}
use Rattle.reader_core.specs.Reading.{Reading, accepted_of}
use Rattle.reader_core.specs.Configuration.{Configuration, Dispatch, sends, sent_to}
use Rattle.reader_core.specs.declared.kind.ReaderKind.TheVariants.{Line}
use Rattle.relay_core.specs.Destination.{Destination, Offered, Taken, Connected, Written, fresh_destination, dest_after}
use Rattle.relay_core.specs.World.{WorldState, ReaderState, Offer, Take, Up, Wrote, dest_at, after}
use Rattle.replay.specs.LinesRun.{each_of, hands_to, sends_of}
use Rattle.replay.proofs.HandingOver.{halves, idle, handing, tried_all, hands_nothing, hands_one}
use Rattle.replay.proofs.OwnEvents.{ran, ran-cons, Own, own-nil, own-cons, EachChanged, each_changed}

-- ---- lists

pub take-next : {A : Type 0} (k : ℕ) (all : List A) (x : A) (rest : List A) → drop k all ≡ x ∷ rest → take (suc k) all ≡ take k all ++ x ∷ []
take-next zero [] x rest e = cc
take-next zero (y ∷ all) x rest e = cc
take-next (suc k) [] x rest e = cc
take-next (suc k) (y ∷ all) x rest e = ap (λ (l : List _). y ∷ l) (take-next k all x rest e)

pub sent_to-append : (d : ℕ) (all more : List Dispatch) → sent_to d (all ++ more) ≡ sent_to d all ++ sent_to d more
sent_to-append d all more = rw filter-append (map-append (λ s. s.point) _ _)

-- the next offer is for this destination, or for another
sent_to-here : (d k : ℕ) (all : List Dispatch) (sent : Dispatch) (rest : List Dispatch) → drop k all ≡ sent ∷ rest → sent.dest ≡ d
    → sent_to d (take (suc k) all) ≡ sent_to d (take k all) ++ sent.point ∷ []
sent_to-here d k all sent rest e here =
    let test : eqb sent.dest d ≡ true = eq-eqb sent.dest d here in
    ap (sent_to d) (take-next k all sent rest e) ∙ sent_to-append d (take k all) (sent ∷ []) ∙ rw test refl

sent_to-elsewhere : (d k : ℕ) (all : List Dispatch) (sent : Dispatch) (rest : List Dispatch) → drop k all ≡ sent ∷ rest → (sent.dest ≡ d → ⊥)
    → sent_to d (take (suc k) all) ≡ sent_to d (take k all)
sent_to-elsewhere d k all sent rest e away =
    let test : eqb sent.dest d ≡ false = ne_eqb sent.dest d away in
    ap (sent_to d) (take-next k all sent rest e) ∙ sent_to-append d (take k all) (sent ∷ []) ∙ rw test (append-nil (sent_to d (take k all)))

-- ---- a destination

-- its one connection got the lines of these datapoints, and nothing is left
abbrev pub IsIdle : Destination → List Datapoint → Type 0
IsIdle dest points = (next : List ℕ) × (dest ≡ idle (length points) next (printed_lines points))

module _ (reading : Reading) (c : Configuration) where
  wrote : (d : ℕ) (parts : List ℕ) → Own reading c d (map (λ n. Wrote d n) parts) (map (λ n. Written n) parts)
  wrote d [] = own-nil reading c d
  wrote d (part ∷ parts) =
      own-cons reading c d (Wrote d part) (Written part) (map (λ n. Wrote d n) parts) (map (λ n. Written n) parts) (λ w. refl) (λ w. refl) (wrote d parts)

  -- a destination takes a batch and writes it
  hands : (d : ℕ) → Own reading c d (hands_to d) (handing c.size c.limit 15)
  hands d =
      own-cons reading c d (Take d) Taken (map (λ n. Wrote d n) (halves 15)) (map (λ n. Written n) (halves 15)) (λ w. refl) (λ w. refl) (wrote d (halves 15))

  pub connects : (d : ℕ) → Own reading c d (Up d ∷ []) (Connected ∷ [])
  connects d = own-cons reading c d (Up d) Connected [] [] (λ w. refl) (λ w. refl) (own-nil reading c d)

  -- ---- a world

  -- one reader of lines made so many offers
  abbrev pub at_offer : List Stream → ℕ → List Destination → WorldState
  at_offer input made dests = record { readers = record { kind = Line; input = input; made = made } ∷ []; destinations = dests }

  -- all that it has to offer
  abbrev pub all_of : List Stream → List Dispatch
  all_of input = flat_map (sends c) (accepted_of reading Line input)

  offered : (input : List Stream) (k : ℕ) (dests : List Destination) (sent : Dispatch) (rest : List Dispatch) → drop k (all_of input) ≡ sent ∷ rest
      → after reading c (at_offer input k dests) (Offer 0)
      ≡ at_offer input (k + 1) (slice_set dests sent.dest (dest_after c.size c.limit (slice_index_or dests sent.dest (fresh_destination 0)) (Offered 0 sent.point)))
  offered input k dests sent rest e = rw e refl

  module _ (input : List Stream) where
    -- after this many offers each destination got the lines of its datapoints among them
    pub record IsSent (made : ℕ) (w : WorldState) : Type 0 where
      pub dests : List Destination
      pub is : w ≡ at_offer input made dests
      pub count : length dests ≡ c.destinations
      pub each : (d : ℕ) → d < c.destinations → IsIdle (slice_index_or dests d (fresh_destination 0)) (sent_to d (take made (all_of input)))

    module _ (room : 1 ≤ c.size) (some : 1 ≤ c.limit) where
      -- what a destination does after an offer
      abbrev handed : Destination → Destination
      handed dest = tried_all c.size c.limit dest (handing c.size c.limit 15)

      here : (k d : ℕ) (dest : Destination) (sent : Dispatch) (rest : List Dispatch) → drop k (all_of input) ≡ sent ∷ rest
          → length (printed_line sent.point) < 2 ^ 15 → sent.dest ≡ d → IsIdle dest (sent_to d (take k (all_of input)))
          → IsIdle (handed (dest_after c.size c.limit dest (Offered 0 sent.point))) (sent_to d (take (suc k) (all_of input)))
      here k d dest sent rest e short same (next, is) =
          let points = sent_to d (take k (all_of input)) in
          let one = hands_one c.size c.limit 15 (length points) 0 next (printed_lines points) sent.point room some short in
          let bytes : printed_lines points ++ printed_line sent.point ≡ printed_lines (points ++ sent.point ∷ []) =
          sym (flat_map-append printed_line points (sent.point ∷ []) ∙ ap (λ (l : List ℕ). printed_lines points ++ l) (append-nil (printed_line sent.point))) in (
            one.0,
            ap (λ (x : Destination). handed (dest_after c.size c.limit x (Offered 0 sent.point))) is
                ∙ one.1
                ∙ ap₂ (λ (n : ℕ) (l : List ℕ). idle n one.0 l) (sym (length_push points sent.point)) bytes
                ∙ ap (λ (l : List Datapoint). idle (length l) one.0 (printed_lines l)) (sym (sent_to-here d k (all_of input) sent rest e same)),
          )

      elsewhere : (k d : ℕ) (dest : Destination) (sent : Dispatch) (rest : List Dispatch) → drop k (all_of input) ≡ sent ∷ rest
          → (sent.dest ≡ d → ⊥) → IsIdle dest (sent_to d (take k (all_of input)))
          → IsIdle (handed dest) (sent_to d (take (suc k) (all_of input)))
      elsewhere k d dest sent rest e away (next, is) =
          let points = sent_to d (take k (all_of input)) in (
            next,
            ap handed is
                ∙ hands_nothing c.size c.limit 15 (length points) next (printed_lines points)
                ∙ ap (λ (l : List Datapoint). idle (length l) next (printed_lines l)) (sym (sent_to-elsewhere d k (all_of input) sent rest e away)),
          )

      module _ (k : ℕ) (w : WorldState) (sent : Dispatch) (rest : List Dispatch) (e : drop k (all_of input) ≡ sent ∷ rest)
          (short : length (printed_line sent.point) < 2 ^ 15) (h : IsSent k w) where
        -- the destination of the offer before it, and with it
        abbrev before : Destination
        before = slice_index_or h.dests sent.dest (fresh_destination 0)

        abbrev with_offer : Destination
        with_offer = dest_after c.size c.limit before (Offered 0 sent.point)

        abbrev mid : WorldState
        mid = at_offer input (k + 1) (slice_set h.dests sent.dest with_offer)

        leads : ran reading c w (sends_of c.destinations) ≡ ran reading c mid (each_of hands_to c.destinations)
        leads =
            ran-cons reading c w (Offer 0) (each_of hands_to c.destinations)
            ∙ ap (λ (v : WorldState). ran reading c v (each_of hands_to c.destinations))
            (ap (λ (v : WorldState). after reading c v (Offer 0)) h.is ∙ offered input k h.dests sent rest e)

        changed : EachChanged reading c handed c.destinations mid (ran reading c mid (each_of hands_to c.destinations))
        changed =
            each_changed reading c hands_to handed (λ d v l. hands d v l) c.destinations mid
            (rw (length-set h.dests sent.dest with_offer, h.count) (omega arith))

        at_one : (d : ℕ) (v : WorldState) → d < c.destinations → EachChanged reading c handed c.destinations mid v → (d ≡ sent.dest) ⊎ (d ≡ sent.dest → ⊥)
            → IsIdle (dest_at v d) (sent_to d (take (suc k) (all_of input)))
        at_one d v l x (inl same) =
            let there : sent.dest < length h.dests = rw h.count (rw same at l) in
            let found : dest_at v d ≡ handed with_offer =
            x.changed d l ∙ ap handed (rw same (get_or-set_same h.dests sent.dest with_offer (fresh_destination 0) there)) in
            let idle_before = subst (λ (n : ℕ). IsIdle (slice_index_or h.dests n (fresh_destination 0)) (sent_to d (take k (all_of input)))) same (h.each d l) in
            rw found (here k d before sent rest e short (sym same) idle_before)
        at_one d v l x (inr apart) =
            let found : dest_at v d ≡ handed (slice_index_or h.dests d (fresh_destination 0)) =
            x.changed d l ∙ ap handed (get_or-set_other h.dests sent.dest d with_offer (fresh_destination 0) apart) in
            rw found (elsewhere k d (slice_index_or h.dests d (fresh_destination 0)) sent rest e (λ same. apart (sym same)) (h.each d l))

        after_it : (v : WorldState) → EachChanged reading c handed c.destinations mid v → IsSent (suc k) v
        after_it v x =
            let next : k + 1 ≡ suc k = omega arith in
            record {
              dests = v.destinations;
              is =
                  ap (λ (readers : List ReaderState). record { readers = readers; destinations = v.destinations }) x.readers
                  ∙ ap (λ (n : ℕ). at_offer input n v.destinations) next;
              count = x.count ∙ length-set h.dests sent.dest with_offer ∙ h.count;
              each = λ d l. at_one d v l x (cases_eq d sent.dest);
            }

        -- one offer, after which each destination takes what it has and writes it
        pub round : IsSent (suc k) (ran reading c w (sends_of c.destinations))
        round = rw leads (after_it (ran reading c mid (each_of hands_to c.destinations)) changed)
