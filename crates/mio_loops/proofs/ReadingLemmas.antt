-- What one reader is fed and offers, one step after another.
use Rattle.std.proofs.Common.{◌≡◌, ◌≤◌, ℕ, false, List, [], ◌∷◌, ◌++◌, length, flat_map, refl, sym, ap, ◌∙◌, subst, arith, append_assoc}
use Rattle.std.proofs.lemmas.Bool.{and_right}
use Rattle.std.proofs.lemmas.List.{append-nil, length-append, map-append}
use Rattle.line_text.specs.Connection.{arrivals}
use Rattle.line_text.specs.Datapoint.{Datapoint}
use Rattle.dest_queue.specs.declared.offer.Kept.{Kept}
use Rattle.router.specs.Plan.{Plan}
use Rattle.reader_core.specs.Configuration.{Configuration, Dispatch, sends}
use Rattle.reader_core.specs.Entries.{InputEntry, Piece, End, LoggedEntry, input_after_entry, input_after_entries}
use Rattle.reader_core.specs.Input.{Stream, has_connections, current, input_after_piece, input_after_end}
use Rattle.reader_core.specs.Kinds.{relay_reading, closes}
use Rattle.reader_core.specs.Laws.{ClosedLaw}
use Rattle.reader_core.specs.Offers.{offers_of_point}
use Rattle.reader_core.specs.PlanConfiguration.{PlanSends, configuration_of}
use Rattle.reader_core.specs.Reader.{ReaderModel, Represents, is_closed}
use Rattle.reader_core.specs.Reading.{accepted_of}
use Rattle.reader_core.specs.declared.kind.ReaderKind.{ReaderKind}
use Rattle.reader_core.specs.Record.{NoneAfterClosing, AreMadeBefore, offers_on}
use Rattle.queue_records.specs.Offers.{OffersMade, after_offer}
use Rattle.mio_loops.specs.InputLog.{LogState, log_after, log_after_all}
use Rattle.mio_loops.specs.Reading.{ReaderOffer, entries_by, offers_by, AreMade, GoesOn, WaitingMade, ReaderProgress}

pub entered-then : (kind : ReaderKind) (xs ys : List InputEntry) (input : List Stream)
    → input_after_entries kind (xs ++ ys) input ≡ input_after_entries kind ys (input_after_entries kind xs input)
entered-then kind [] ys input = refl
entered-then kind (x ∷ xs) ys input = entered-then kind xs ys (input_after_entry kind x input)

pub made-then : (xs ys : List ReaderOffer) (a b c : OffersMade) → AreMade xs a b → AreMade ys b c → AreMade (xs ++ ys) a c
made-then [] ys a b c first second = subst (λ (d : OffersMade). AreMade ys d c) first second
made-then (x ∷ xs) ys a b c first second =
    (first.0, made-then xs ys (after_offer x.reader x.sent.dest x.sent.point first.0 a) b c first.1 second)

pub noted-then : (xs ys : List LoggedEntry) (l : LogState) → log_after_all (xs ++ ys) l ≡ log_after_all ys (log_after_all xs l)
noted-then [] ys l = refl
noted-then (x ∷ xs) ys l = noted-then xs ys (log_after x l)

-- ---- what is asked of entries, of one list and then of another

module _ (c : Configuration) (kind : ReaderKind) where
  closing-then : (xs ys : List InputEntry) (input : List Stream) → NoneAfterClosing relay_reading c kind input xs
      → NoneAfterClosing relay_reading c kind (input_after_entries kind xs input) ys → NoneAfterClosing relay_reading c kind input (xs ++ ys)
  closing-then [] ys input first second = second
  closing-then (Piece bytes moment ∷ xs) ys input first second =
      (first.0, closing-then xs ys (input_after_entry kind (Piece bytes moment) input) first.1 second)
  closing-then (End ∷ xs) ys input first second = closing-then xs ys (input_after_entry kind End input) first second

  pub before-more : (few many : ℕ) (xs : List InputEntry) (input : List Stream) → few ≤ many → AreMadeBefore relay_reading c few kind input xs → AreMadeBefore relay_reading c many kind input xs
  before-more few many [] input within before = tt
  before-more few many (Piece bytes moment ∷ xs) input within before =
      let made = before.0 in (
        omega (arith, made, within),
        before-more few many xs (input_after_entry kind (Piece bytes moment) input) within before.1,
      )
  before-more few many (End ∷ xs) input within before = before-more few many xs (input_after_entry kind End input) within before

  before-then : (few many : ℕ) (xs ys : List InputEntry) (input : List Stream) → few ≤ many → AreMadeBefore relay_reading c few kind input xs
      → AreMadeBefore relay_reading c many kind (input_after_entries kind xs input) ys → AreMadeBefore relay_reading c many kind input (xs ++ ys)
  before-then few many [] ys input within first second = second
  before-then few many (Piece bytes moment ∷ xs) ys input within first second =
      let made = first.0 in (
        omega (arith, made, within),
        before-then few many xs ys (input_after_entry kind (Piece bytes moment) input) within first.1 second,
      )
  before-then few many (End ∷ xs) ys input within first second = before-then few many xs ys (input_after_entry kind End input) within first second

made-more : (taken ms ns : List Dispatch) → length (taken ++ ms) ≤ length (taken ++ (ms ++ ns))
made-more taken ms ns =
    let all = length-append taken (ms ++ ns) in
    let more = length-append ms ns in
    let few = length-append taken ms in
    omega (arith, all, more, few)

pub flat_map-same : (f g : Datapoint → List Dispatch) → ((p : Datapoint) → f p ≡ g p) → (ps : List Datapoint) → flat_map f ps ≡ flat_map g ps
flat_map-same f g same [] = refl
flat_map-same f g same (p ∷ ps) = ap (λ (l : List Dispatch). l ++ flat_map f ps) (same p) ∙ ap (λ (l : List Dispatch). g p ++ l) (flat_map-same f g same ps)

-- a reader with no offers waiting has made all offers of its input
all-made : PlanSends → (plan : Plan) (size limit : ℕ) (x : ReaderModel) (kind : ReaderKind) (input : List Stream) (taken : List Dispatch) → x.waiting ≡ [] → Represents x kind plan input taken
    → length (offers_on relay_reading (configuration_of plan size limit) kind input) ≤ length (taken ++ [])
all-made law plan size limit x kind input taken nothing represents =
    let all : length (offers_on relay_reading (configuration_of plan size limit) kind input) ≡ length (taken ++ []) = ap length
    (flat_map-same (sends (configuration_of plan size limit)) (offers_of_point plan) (law plan size limit) (accepted_of relay_reading kind input)
    ∙ represents.waiting ∙ ap (λ (w : List Dispatch). taken ++ w) nothing) in
    omega (arith, all)

-- ---- a reader goes on

module _ (plan : Plan) where
  -- offers alone
  pub goes-offers : (ms : List Dispatch) (x y : ReaderModel)
      → ((kind : ReaderKind) (input : List Stream) (taken : List Dispatch) → Represents x kind plan input taken → Represents y kind plan input (taken ++ ms))
      → GoesOn plan [] ms x y
  goes-offers ms x y goes = λ kind input taken represents. record {
    represents = goes kind input taken represents;
    stays_open = λ size limit. tt;
    made_before = λ size limit. tt;
  }

  pub goes-none : (x : ReaderModel) → GoesOn plan [] [] x x
  goes-none x = goes-offers [] x x (λ kind input taken represents. subst (λ (t : List Dispatch). Represents x kind plan input t) (sym (append-nil taken)) represents)

  -- an end alone
  pub goes-end : (x y : ReaderModel) → ((kind : ReaderKind) (input : List Stream) (taken : List Dispatch) → Represents x kind plan input taken → Represents y kind plan (input_after_end kind input) taken)
      → GoesOn plan (End ∷ []) [] x y
  goes-end x y goes = λ kind input taken represents. record {
    represents = subst (λ (t : List Dispatch). Represents y kind plan (input_after_end kind input) t) (sym (append-nil taken)) (goes kind input taken represents);
    stays_open = λ size limit. tt;
    made_before = λ size limit. tt;
  }

  -- a piece alone, where the connection is open and nothing waits
  goes-piece : PlanSends → ClosedLaw → (bytes : List ℕ) (moment : ℕ) (x y : ReaderModel) → x.waiting ≡ [] → is_closed x ≡ false
      → ((kind : ReaderKind) (input : List Stream) (taken : List Dispatch) → Represents x kind plan input taken → Represents y kind plan (input_after_piece kind (arrivals bytes moment) input) taken)
      → GoesOn plan (Piece bytes moment ∷ []) [] x y
  goes-piece sends_law closed_law bytes moment x y nothing begun goes = λ kind input taken represents. record {
    represents = subst (λ (t : List Dispatch). Represents y kind plan (input_after_piece kind (arrivals bytes moment) input) t) (sym (append-nil taken)) (goes kind input taken represents);
    stays_open = λ size limit. (and_right (has_connections kind) (closes kind (current input)) (sym (closed_law x kind plan input taken represents) ∙ begun), tt);
    made_before = λ size limit. (all-made sends_law plan size limit x kind input taken nothing represents, tt);
  }

  pub goes-then : (xs ys : List InputEntry) (ms ns : List Dispatch) (x y z : ReaderModel) → GoesOn plan xs ms x y → GoesOn plan ys ns y z → GoesOn plan (xs ++ ys) (ms ++ ns) x z
  goes-then xs ys ms ns x y z first second = λ kind input taken represents.
      let one = first kind input taken represents in
      let two = second kind (input_after_entries kind xs input) (taken ++ ms) one.represents in
      record {
        represents =
            subst (λ (t : List Dispatch). Represents z kind plan (input_after_entries kind (xs ++ ys) input) t) (append_assoc taken ms ns)
            (subst (λ (i : List Stream). Represents z kind plan i ((taken ++ ms) ++ ns)) (sym (entered-then kind xs ys input)) two.represents);
        stays_open = λ size limit. closing-then (configuration_of plan size limit) kind xs ys input (one.stays_open size limit) (two.stays_open size limit);
        made_before = λ size limit.
            before-then (configuration_of plan size limit) kind (length (taken ++ ms)) (length (taken ++ (ms ++ ns))) xs ys input (made-more taken ms ns) (one.made_before size limit)
            (subst (λ (t : List Dispatch). AreMadeBefore relay_reading (configuration_of plan size limit) (length t) kind (input_after_entries kind xs input) ys) (append_assoc taken ms ns) (two.made_before size limit));
      }

  pub went-none : (n : ℕ) (x : ReaderModel) (a : OffersMade) (l : LogState) → ReaderProgress plan n [] [] x x a a l l
  went-none n x a l = record { reader = goes-none x; offers = refl; log = refl }

  pub went-then : (n : ℕ) (xs ys : List InputEntry) (ms ns : List Dispatch) (x y z : ReaderModel) (a b c : OffersMade) (k l m : LogState)
      → ReaderProgress plan n xs ms x y a b k l → ReaderProgress plan n ys ns y z b c l m → ReaderProgress plan n (xs ++ ys) (ms ++ ns) x z a c k m
  went-then n xs ys ms ns x y z a b c k l m first second =
      record {
        reader = goes-then xs ys ms ns x y z first.reader second.reader;
        offers =
            subst (λ (os : List ReaderOffer). AreMade os a c) (sym (map-append (λ (s : Dispatch). record { reader = n; sent = s }) ms ns))
            (made-then (offers_by n ms) (offers_by n ns) a b c first.offers second.offers);
        log =
            second.log ∙ ap (log_after_all (entries_by n ys)) first.log
            ∙ sym (noted-then (entries_by n xs) (entries_by n ys) k)
            ∙ ap (λ (es : List LoggedEntry). log_after_all es k) (sym (map-append (λ (e : InputEntry). record { reader = n; entry = e }) xs ys));
      }

  -- offers alone
  pub went-waiting : (n : ℕ) (ms : List Dispatch) (x y : ReaderModel) (a b : OffersMade) (l : LogState) → WaitingMade n ms x y a b → ReaderProgress plan n [] ms x y a b l l
  went-waiting n ms x y a b l made = record { reader = made.reader plan; offers = made.offers; log = refl }

  -- an entry alone
  pub went-entry : (n : ℕ) (e : InputEntry) (x y : ReaderModel) (a : OffersMade) (l m : LogState) → GoesOn plan (e ∷ []) [] x y
      → m ≡ log_after (record { reader = n; entry = e }) l → ReaderProgress plan n (e ∷ []) [] x y a a l m
  went-entry n e x y a l m goes noted = record { reader = goes; offers = refl; log = noted }

  -- a piece, where the connection is open and nothing waits, and then offers
  pub went-piece : PlanSends → ClosedLaw → (n : ℕ) (bytes : List ℕ) (moment : ℕ) (ms : List Dispatch) (x y z : ReaderModel) (a b : OffersMade) (l m : LogState)
      → x.waiting ≡ [] → is_closed x ≡ false
      → ((kind : ReaderKind) (input : List Stream) (taken : List Dispatch) → Represents x kind plan input taken → Represents y kind plan (input_after_piece kind (arrivals bytes moment) input) taken)
      → m ≡ log_after (record { reader = n; entry = Piece bytes moment }) l → WaitingMade n ms y z a b
      → ReaderProgress plan n (Piece bytes moment ∷ []) ms x z a b l m
  went-piece sends_law closed_law n bytes moment ms x y z a b l m nothing begun goes noted made =
      went-then n (Piece bytes moment ∷ []) [] [] ms x y z a a b l m m
      (went-entry n (Piece bytes moment) x y a l m (goes-piece sends_law closed_law bytes moment x y nothing begun goes) noted)
      (went-waiting n ms y z a b m made)

-- ---- offers that wait

pub waiting-none : (n : ℕ) (x : ReaderModel) (a : OffersMade) → WaitingMade n [] x x a a
waiting-none n x a = record { waiting = refl; reader = λ plan. goes-none plan x; offers = refl }

-- one offer more
pub waiting-more : (n : ℕ) (ms : List Dispatch) (s : Dispatch) (kept : Kept) (x y z : ReaderModel) (a b c : OffersMade)
    → WaitingMade n ms x y a b → y.waiting ≡ s ∷ z.waiting
    → ((kind : ReaderKind) (plan : Plan) (input : List Stream) (taken : List Dispatch) → Represents y kind plan input taken → Represents z kind plan input (taken ++ s ∷ []))
    → c ≡ after_offer n s.dest s.point kept b
    → WaitingMade n (ms ++ s ∷ []) x z a c
waiting-more n ms s kept x y z a b c first waits goes door =
    record {
      waiting = first.waiting ∙ ap (λ (w : List Dispatch). ms ++ w) waits ∙ sym (append_assoc ms (s ∷ []) z.waiting);
      reader = λ plan. goes-then plan [] [] ms (s ∷ []) x y z (first.reader plan) (goes-offers plan (s ∷ []) y z (λ kind input taken represents. goes kind plan input taken represents));
      offers =
          subst (λ (os : List ReaderOffer). AreMade os a c) (sym (map-append (λ (t : Dispatch). record { reader = n; sent = t }) ms (s ∷ [])))
          (made-then (offers_by n ms) (offers_by n (s ∷ [])) a b c first.offers (kept, door));
    }

abbrev first_or : {A : Type 0} → A → List A → A
first_or a [] = a
first_or a (x ∷ xs) = x

pub same_first : {A : Type 0} (a b : A) (xs ys : List A) → a ∷ xs ≡ b ∷ ys → a ≡ b
same_first a b xs ys is = ap (first_or a) is

-- the first offer that waits is made and taken out
pub waiting-next : (n : ℕ) (ms : List Dispatch) (s t : Dispatch) (kept : Kept) (others : List Dispatch) (x y z : ReaderModel) (a b c : OffersMade)
    → WaitingMade n ms x y a b → y.waiting ≡ s ∷ others → y.waiting ≡ t ∷ z.waiting
    → ((kind : ReaderKind) (plan : Plan) (input : List Stream) (taken : List Dispatch) → Represents y kind plan input taken → Represents z kind plan input (taken ++ t ∷ []))
    → c ≡ after_offer n s.dest s.point kept b
    → WaitingMade n (ms ++ s ∷ []) x z a c
waiting-next n ms s t kept others x y z a b c first waits next goes door =
    let same = same_first s t others z.waiting (sym waits ∙ next) in
    waiting-more n ms s kept x y z a b c first (next ∙ ap (λ (u : Dispatch). u ∷ z.waiting) (sym same))
    (λ kind plan input taken represents. subst (λ (u : Dispatch). Represents z kind plan input (taken ++ u ∷ [])) (sym same) (goes kind plan input taken represents))
    door
