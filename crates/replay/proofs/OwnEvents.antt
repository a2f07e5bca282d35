-- Events that change one destination, and those that change each destination by itself.
use Rattle.std.proofs.Common.{◌≡◌, ◌≤◌, ◌<◌, ℕ, zero, suc, Bool, true, false, List, [], ◌∷◌, ◌++◌, length, Some, refl, sym, ap, ◌∙◌, arith, lt-ltb, inl, inr, get_or-set_same, get_or-set_other, set-set}
use Rattle.std.specs.Prelude.{◌⊎◌, ◌≢◌, slice_set}
use Rattle.std.proofs.lemmas.Bool.{cases_eq}
use Rattle.std.proofs.lemmas.List.{length-set, set-get_or}
use Rattle.reader_core.specs.Reading.{Reading}
use Rattle.reader_core.specs.Configuration.{Configuration}
use Rattle.relay_core.specs.Destination.{Destination, Act, fresh_destination, may_act, dest_after}
use Rattle.relay_core.specs.World.{WorldState, RunEvent, ActAt, dest_at, may_step, is_allowed, world_after, after, after_all}
use Rattle.replay.specs.LinesRun.{each_of}
use Rattle.replay.proofs.HandingOver.{tried, tried_all, tried_all-nil, tried_all-cons}

-- the world with another destination in this place
abbrev pub with_dest : WorldState → ℕ → Destination → WorldState
with_dest w d dest = record { readers = w.readers; destinations = slice_set w.destinations d dest }

with_dest-same : (w : WorldState) (d : ℕ) → with_dest w d (dest_at w d) ≡ w
with_dest-same w d =
    ap (λ (dests : List Destination). record { readers = w.readers; destinations = dests }) (set-get_or w.destinations d (fresh_destination 0))

pub dest_at-with_same : (w : WorldState) (d : ℕ) (dest : Destination) → d < length w.destinations → dest_at (with_dest w d dest) d ≡ dest
dest_at-with_same w d dest l = get_or-set_same w.destinations d dest (fresh_destination 0) l

pub dest_at-with_other : (w : WorldState) (d e : ℕ) (dest : Destination) → (e ≡ d → ⊥) → dest_at (with_dest w d dest) e ≡ dest_at w e
dest_at-with_other w d e dest n = get_or-set_other w.destinations d e dest (fresh_destination 0) n

module _ (reading : Reading) (c : Configuration) where
  -- the world after these events; it does not unfold by itself, since each event names the world before it many times
  pub ran : WorldState → List RunEvent → WorldState
  ran w events = after_all reading c w events

  pub ran-is : (w : WorldState) (events : List RunEvent) → ran w events ≡ after_all reading c w events
  unfolding ran
  ran-is w events = refl

  pub ran-nil : (w : WorldState) → ran w [] ≡ w
  unfolding ran
  ran-nil w = refl

  pub ran-cons : (w : WorldState) (event : RunEvent) (events : List RunEvent) → ran w (event ∷ events) ≡ ran (after reading c w event) events
  unfolding ran
  ran-cons w event events = refl

  pub ran-append : (w : WorldState) (events more : List RunEvent) → ran w (events ++ more) ≡ ran (ran w events) more
  unfolding ran
  ran-append w [] more = refl
  ran-append w (event ∷ events) more = ran-append (after reading c w event) events more

  -- ---- the events of one destination

  abbrev one_act : ℕ → Act → ActAt
  one_act d act = record { dest = d; act = act }

  -- the events are these acts at the destination
  abbrev pub Own : ℕ → List RunEvent → List Act → Type 0
  Own d events acts =
      (w : WorldState) → d < length w.destinations
      → ran w events ≡ with_dest w d (tried_all c.size c.limit (dest_at w d) acts)

  own_step : (w : WorldState) (d : ℕ) (event : RunEvent) (act : Act) → d < length w.destinations
      → is_allowed reading c w event ≡ may_step reading c w (Some (one_act d act))
      → world_after reading c w event ≡ with_dest w d (dest_after c.size c.limit (dest_at w d) act)
      → (b : Bool) → may_act (dest_at w d) act ≡ b
      → after reading c w event ≡ with_dest w d (tried c.size c.limit (dest_at w d) act)
  own_step w d event act l allowed leads true e =
      let there = lt-ltb d (length w.destinations) l in
      let yes : is_allowed reading c w event ≡ true = allowed ∙ rw (there, e) in
      rw (yes, e) leads
  own_step w d event act l allowed leads false e =
      let there = lt-ltb d (length w.destinations) l in
      let no : is_allowed reading c w event ≡ false = allowed ∙ rw (there, e) in
      rw (no, e) (sym (with_dest-same w d))

  pub own-nil : (d : ℕ) → Own d [] []
  own-nil d w l = ran-nil w ∙ sym (ap (with_dest w d) (tried_all-nil c.size c.limit (dest_at w d)) ∙ with_dest-same w d)

  pub own-cons : (d : ℕ) (event : RunEvent) (act : Act) (events : List RunEvent) (acts : List Act)
      → ((w : WorldState) → is_allowed reading c w event ≡ may_step reading c w (Some (one_act d act)))
      → ((w : WorldState) → world_after reading c w event ≡ with_dest w d (dest_after c.size c.limit (dest_at w d) act))
      → Own d events acts → Own d (event ∷ events) (act ∷ acts)
  own-cons d event act events acts allowed leads others w l =
      let dest = tried c.size c.limit (dest_at w d) act in
      let stepped = own_step w d event act l (allowed w) (leads w) (may_act (dest_at w d) act) refl in
      let within : d < length (slice_set w.destinations d dest) = rw length-set l in
      ran-cons w event events
      ∙ ap (λ (v : WorldState). ran v events) stepped
      ∙ others (with_dest w d dest) within
      ∙ ap (λ (x : Destination). with_dest (with_dest w d dest) d (tried_all c.size c.limit x acts)) (dest_at-with_same w d dest l)
      ∙ ap (λ (dests : List Destination). record { readers = w.readers; destinations = dests })
      (set-set w.destinations d dest (tried_all c.size c.limit dest acts))
      ∙ ap (with_dest w d) (sym (tried_all-cons c.size c.limit (dest_at w d) act acts))

  -- ---- each destination by itself

  -- the first n destinations have changed, and nothing else
  pub record EachChanged (change : Destination → Destination) (n : ℕ) (old new : WorldState) : Type 0 where
    pub readers : new.readers ≡ old.readers
    pub count : length new.destinations ≡ length old.destinations
    pub changed : (d : ℕ) → d < n → dest_at new d ≡ change (dest_at old d)
    pub others : (d : ℕ) → n ≤ d → dest_at new d ≡ dest_at old d

  one_more : (change : Destination → Destination) (n : ℕ) (old mid : WorldState) → n < length old.destinations
      → EachChanged change n old mid → EachChanged change (suc n) old (with_dest mid n (change (dest_at mid n)))
  one_more change n old mid l h =
      record {
        readers = h.readers;
        count = length-set mid.destinations n (change (dest_at mid n)) ∙ h.count;
        changed = λ d less. by_case d less (cases_eq d n);
        others = λ d le. dest_at-with_other mid n d (change (dest_at mid n)) (λ e. absurd (omega (arith, le, e))) ∙ h.others d (omega (arith, le));
      }
    where
      by_case : (d : ℕ) → d < suc n → (d ≡ n) ⊎ (d ≡ n → ⊥) → dest_at (with_dest mid n (change (dest_at mid n))) d ≡ change (dest_at old d)
      by_case d less (inl e) =
          let there : n < length mid.destinations = rw h.count l in
          rw e (dest_at-with_same mid n (change (dest_at mid n)) there ∙ ap change (h.others n (omega arith)))
      by_case d less (inr apart) =
          dest_at-with_other mid n d (change (dest_at mid n)) apart ∙ h.changed d (let e : d ≢ n = apart in omega (arith, less))

  pub each_changed : (events : ℕ → List RunEvent) (change : Destination → Destination)
      → ((d : ℕ) (w : WorldState) → d < length w.destinations → ran w (events d) ≡ with_dest w d (change (dest_at w d)))
      → (n : ℕ) (w : WorldState) → n ≤ length w.destinations → EachChanged change n w (ran w (each_of events n))
  each_changed events change own zero w l =
      rw (ran-nil w) (record { readers = refl; count = refl; changed = λ d less. absurd (omega (arith, less)); others = λ d le. refl })
  each_changed events change own (suc n) w l =
      let mid = ran w (each_of events n) in
      let h : EachChanged change n w mid = each_changed events change own n w (omega (arith, l)) in
      let there : n < length mid.destinations = rw h.count (omega (arith, l)) in
      let next : ran w (each_of events (suc n)) ≡ with_dest mid n (change (dest_at mid n)) = ran-append w (each_of events n) (events n) ∙ own n mid there in
      rw next (one_more change n w mid (omega (arith, l)) h)
