-- What a list of a part has left, and what the events that went through have of each part.
use Rattle.std.proofs.Common.{◌≡◌, ◌≢◌, ◌≤◌, ◌<◌, ◌+◌, ℕ, zero, suc, Vec, Global, Option, Some, Bool, true, false, cond, ◌==◌, List, [], ◌∷◌, ◌++◌, length, map, take, drop, set, get_or, replicate, filter, All, arith, inl, inr, refl, sym, ap, subst, ◌∙◌}
use Rattle.std.proofs.lemmas.List.{append-nil, append_assoc, drop_all, drop_more, drop-map, get_or-set_same, get_or-set_other, get_or-replicate, get_or_past, length-map, length-replicate, take_more, map-append}
use Rattle.std.proofs.lemmas.List.Elements.{All-nil, All-cons, All-push, All-head, All-tail, filter-append, filter_map-append}
use Rattle.std.specs.List.{filter_map, cons_option}
use Rattle.dest_queue.specs.declared.step.Step.{Step}
use Rattle.std.proofs.lemmas.Bool.{cases_eq, cases_lt, eq-eqb}
use borrow.Author.Count.{below_more}
use Rattle.std.proofs.lemmas.Bool.Decides.{nat_tests}
use Rattle.relay_core.specs.Event.{run_event}
use Rattle.relay_core.specs.declared.event.Event.{Event}
use Rattle.relay_core.specs.WorldModel.{WorldModel}
use Rattle.relay_core.specs.World.{RunEvent, Piece, End, Offer, Take, Up, Wrote, Down}
use Rattle.run_record.specs.PartEvents.{is_fed_to, is_connection_of, is_done_by, is_step, lists_of, list_at, PartsOfRun}
use Rattle.queue_records.specs.Numbered.{StepAt}
use Rattle.run_record.specs.Making.{Continues, Records, is_of, number_of, Reaches, rest_of, Moves, Made, AreUsed, MakesParts}
use Rattle.run_record.specs.QueueSteps.{step_numbered, steps_numbered, event_of}
use Rattle.run_record.specs.declared.applying.Part.{Part}
use Rattle.run_record.specs.declared.applying.Part.TheVariants.{Reader, Writer}
use Rattle.run_record.proofs.Making.{same-continues, more-continues}
use Rattle.run_record.proofs.Recording.{records-none, records-more}

-- ---- a list of one part

pub reaches-none : (part : Part) (list : List RunEvent) (start : ℕ) (s : WorldModel) (text : List ℕ) → Reaches part list start start s s text text [] []
reaches-none part list start s text =
    record { added = []; goes = same-continues s text; each = All-nil (λ (event : RunEvent). is_of part event ≡ true); has = refl }

-- another event of the part
pub reaches-more : (part : Part) (list : List RunEvent) (start place : ℕ) (old mid new : WorldModel) (a b c : List ℕ) (event : RunEvent)
    → Reaches part list start place old mid a b [] [] → Continues mid new b c (event ∷ []) → is_of part event ≡ true → drop place list ≡ event ∷ drop (place + 1) list
    → Reaches part list start (place + 1) old new a c [] []
reaches-more part list start place old mid new a b c event r goes own at =
    record {
      added = r.added ++ event ∷ [];
      goes = subst (λ (l : List RunEvent). Continues old new a c l) (ap (λ (l : List RunEvent). l ++ event ∷ []) (append-nil r.added) ∙ sym (append-nil (r.added ++ event ∷ [])))
          (more-continues old mid new a b c (r.added ++ []) (event ∷ []) r.goes goes);
      each = All-push (λ (e : RunEvent). is_of part e ≡ true) r.added event r.each own;
      has = append_assoc r.added (event ∷ []) (drop (place + 1) list) ∙ ap (λ (l : List RunEvent). r.added ++ l) (sym at) ∙ r.has;
    }

-- events that are not of the list
unfoldable pub reaches-beside : (part : Part) (list : List RunEvent) (start place : ℕ) (old mid new : WorldModel) (a b c : List ℕ) (last : List RunEvent)
    → Reaches part list start place old mid a b [] [] → Continues mid new b c last → Reaches part list start place old new a c [] last
reaches-beside part list start place old mid new a b c last r goes =
    record {
      added = r.added;
      goes = subst (λ (l : List RunEvent). Continues old new a c (l ++ last)) (append-nil r.added) (more-continues old mid new a b c (r.added ++ []) last r.goes goes);
      each = r.each;
      has = r.has;
    }

-- the list's next event, which is not of the part
unfoldable pub reaches-over : (part : Part) (list : List RunEvent) (start place : ℕ) (old mid new : WorldModel) (a b c : List ℕ) (event : RunEvent)
    → Reaches part list start place old mid a b [] [] → Continues mid new b c (event ∷ []) → drop place list ≡ event ∷ drop (place + 1) list
    → Reaches part list start (place + 1) old new a c (event ∷ []) (event ∷ [])
reaches-over part list start place old mid new a b c event r goes at =
    record {
      added = r.added;
      goes = subst (λ (l : List RunEvent). Continues old new a c (l ++ event ∷ [])) (append-nil r.added)
          (more-continues old mid new a b c (r.added ++ []) (event ∷ []) r.goes goes);
      each = r.each;
      has = ap (λ (l : List RunEvent). r.added ++ l) (sym at) ∙ r.has;
    }

-- past the list's end, it is at every place there
pub reaches-end : (part : Part) (list : List RunEvent) (start place end : ℕ) (old new : WorldModel) (a b : List ℕ) (last : List RunEvent)
    → length list ≤ place → length list ≤ end → Reaches part list start place old new a b [] last → Reaches part list start end old new a b [] last
reaches-end part list start place end old new a b last past beyond r =
    record {
      added = r.added;
      goes = r.goes;
      each = r.each;
      has = ap (λ (l : List RunEvent). r.added ++ l) (drop_all end list beyond ∙ sym (drop_all place list past)) ∙ r.has;
    }

start-there : (starts moved : List ℕ) (number place : ℕ) → number < length starts → moved ≡ set starts number place → get_or moved number 0 ≡ place
start-there starts moved number place within moves =
    ap (λ (l : List ℕ). get_or l number 0) moves ∙ get_or-set_same starts number place 0 within

-- its start moves there
pub moves-there : (part : Part) (lists : List (List RunEvent)) (starts moved : List ℕ) (list : List RunEvent) (start place number limit : ℕ) (old new : WorldModel) (a b : List ℕ)
    (these last : List RunEvent) (steps : List StepAt) → number ≡ number_of part → list ≡ list_at lists number → start ≡ get_or starts number 0 → number < length starts
    → moved ≡ set starts number place → (r : Reaches part list start place old new a b these last) → Records old limit a (r.added ++ last) steps
    → Moves part lists starts moved limit old new a b these last steps
moves-there part lists starts moved list start place number limit old new a b these last steps numbered listed started within moves r records =
    let here : r.added ++ (these ++ rest_of lists moved number) ≡ rest_of lists starts number =
    ap (λ (n : ℕ). r.added ++ (these ++ drop n (list_at lists number))) (start-there starts moved number place within moves)
    ∙ ap (λ (l : List RunEvent). r.added ++ (these ++ drop place l)) (sym listed)
    ∙ r.has ∙ ap (λ (n : ℕ). drop n list) started ∙ ap (λ (l : List RunEvent). drop (get_or starts number 0) l) listed in
    record {
      added = r.added;
      goes = r.goes;
      records = records;
      each = r.each;
      has = subst (λ (n : ℕ). r.added ++ (these ++ rest_of lists moved n) ≡ rest_of lists starts n) numbered here;
      others = λ k other.
          ap (λ (l : List ℕ). drop (get_or l k 0) (list_at lists k)) moves
          ∙ ap (λ (n : ℕ). drop n (list_at lists k)) (get_or-set_other starts number k place 0 (λ e. other (e ∙ numbered)));
    }

-- and at its end nothing is left
pub used-there : (part : Part) (lists : List (List RunEvent)) (starts moved : List ℕ) (list : List RunEvent) (place number : ℕ) → number ≡ number_of part
    → list ≡ list_at lists number → number < length starts → moved ≡ set starts number place → length list ≤ place → rest_of lists moved (number_of part) ≡ []
used-there part lists starts moved list place number numbered listed within moves past =
    subst (λ (n : ℕ). rest_of lists moved n ≡ []) numbered
    (ap (λ (n : ℕ). drop n (list_at lists number)) (start-there starts moved number place within moves)
    ∙ ap (λ (l : List RunEvent). drop place l) (sym listed) ∙ drop_all place list past)

-- ---- what passes a test

pub none-pass : (p q : RunEvent → Bool) → ((event : RunEvent) → q event ≡ true → p event ≡ false) → (events : List RunEvent) → All (λ (event : RunEvent). q event ≡ true) events
    → filter p events ≡ []
none-pass p q fails [] all = refl
none-pass p q fails (event ∷ events) all =
    let P : RunEvent → Type 0 = λ (e : RunEvent). q e ≡ true in
    ap (λ (b : Bool). cond b (event ∷ filter p events) (filter p events)) (fails event (All-head P event events all)) ∙ none-pass p q fails events (All-tail P event events all)

pub all-pass : (p q : RunEvent → Bool) → ((event : RunEvent) → q event ≡ true → p event ≡ true) → (events : List RunEvent) → All (λ (event : RunEvent). q event ≡ true) events
    → filter p events ≡ events
all-pass p q passes [] all = refl
all-pass p q passes (event ∷ events) all =
    let P : RunEvent → Type 0 = λ (e : RunEvent). q e ≡ true in
    ap (λ (b : Bool). cond b (event ∷ filter p events) (filter p events)) (passes event (All-head P event events all))
    ∙ ap (λ (l : List RunEvent). event ∷ l) (all-pass p q passes events (All-tail P event events all))

another : (n r k : ℕ) → (n == r) ≡ true → k ≢ r → (n == k) ≡ false
another n r k e other = grind (arith, nat_tests)

fed-no-other : (r k : ℕ) → k ≢ r → (event : RunEvent) → is_fed_to r event ≡ true → is_fed_to k event ≡ false
fed-no-other r k other (Piece n bytes moment) e = another n r k e other
fed-no-other r k other (End n) e = another n r k e other
fed-no-other r k other (Offer n) e = refl
fed-no-other r k other (Take d) e = refl
fed-no-other r k other (Up d) e = refl
fed-no-other r k other (Wrote d count) e = refl
fed-no-other r k other (Down d) e = refl

fed-not-done : (r d : ℕ) (event : RunEvent) → is_fed_to r event ≡ true → is_done_by d event ≡ false
fed-not-done r d (Piece n bytes moment) e = refl
fed-not-done r d (End n) e = refl
fed-not-done r d (Offer n) e = refl
fed-not-done r d (Take n) e = cc
fed-not-done r d (Up n) e = cc
fed-not-done r d (Wrote n count) e = cc
fed-not-done r d (Down n) e = cc

fed-no-step : (r : ℕ) (event : RunEvent) → is_fed_to r event ≡ true → is_step event ≡ false
fed-no-step r (Piece n bytes moment) e = refl
fed-no-step r (End n) e = refl
fed-no-step r (Offer n) e = cc
fed-no-step r (Take d) e = cc
fed-no-step r (Up d) e = refl
fed-no-step r (Wrote d count) e = refl
fed-no-step r (Down d) e = refl

connection-done : (d : ℕ) (event : RunEvent) → is_connection_of d event ≡ true → is_done_by d event ≡ true
connection-done d (Piece n bytes moment) e = e
connection-done d (End n) e = e
connection-done d (Offer n) e = e
connection-done d (Take n) e = cc
connection-done d (Up n) e = e
connection-done d (Wrote n count) e = e
connection-done d (Down n) e = e

connection-no-other : (d k : ℕ) → k ≢ d → (event : RunEvent) → is_connection_of d event ≡ true → is_done_by k event ≡ false
connection-no-other d k other (Piece n bytes moment) e = refl
connection-no-other d k other (End n) e = refl
connection-no-other d k other (Offer n) e = refl
connection-no-other d k other (Take n) e = cc
connection-no-other d k other (Up n) e = another n d k e other
connection-no-other d k other (Wrote n count) e = another n d k e other
connection-no-other d k other (Down n) e = another n d k e other

connection-not-fed : (d r : ℕ) (event : RunEvent) → is_connection_of d event ≡ true → is_fed_to r event ≡ false
connection-not-fed d r (Piece n bytes moment) e = cc
connection-not-fed d r (End n) e = cc
connection-not-fed d r (Offer n) e = refl
connection-not-fed d r (Take n) e = refl
connection-not-fed d r (Up n) e = refl
connection-not-fed d r (Wrote n count) e = refl
connection-not-fed d r (Down n) e = refl

connection-no-step : (d : ℕ) (event : RunEvent) → is_connection_of d event ≡ true → is_step event ≡ false
connection-no-step d (Piece n bytes moment) e = refl
connection-no-step d (End n) e = refl
connection-no-step d (Offer n) e = cc
connection-no-step d (Take n) e = cc
connection-no-step d (Up n) e = refl
connection-no-step d (Wrote n count) e = refl
connection-no-step d (Down n) e = refl

-- ---- what no queue records

-- events of a part are recorded by no queue
quiet-part : (part : Part) (event : RunEvent) → is_of part event ≡ true → is_step event ≡ false
quiet-part (Reader r) event e = fed-no-step r event e
quiet-part (Writer d) event e = connection-no-step d event e

quiet : (part : Part) (events : List RunEvent) → All (λ (event : RunEvent). is_of part event ≡ true) events → All (λ (event : RunEvent). is_step event ≡ false) events
quiet part [] all = All-nil (λ (event : RunEvent). is_step event ≡ false)
quiet part (event ∷ events) all =
    let P : RunEvent → Type 0 = λ (e : RunEvent). is_of part e ≡ true in
    All-cons (λ (e : RunEvent). is_step e ≡ false) event events (quiet-part part event (All-head P event events all)) (quiet part events (All-tail P event events all))

pub records-own : (part : Part) (list : List RunEvent) (start place limit : ℕ) (old new : WorldModel) (a b : List ℕ) (r : Reaches part list start place old new a b [] [])
    → Records old limit a (r.added ++ []) []
records-own part list start place limit old new a b r =
    records-none old limit a (r.added ++ [])
    (subst (λ (l : List RunEvent). All (λ (event : RunEvent). is_step event ≡ false) l) (sym (append-nil r.added)) (quiet part r.added r.each))

-- and then a step
pub records-step : (part : Part) (list : List RunEvent) (start place limit : ℕ) (old mid new : WorldModel) (a b : List ℕ) (last : List RunEvent) (steps : List StepAt)
    (r : Reaches part list start place old mid a b [] []) → Records mid limit b last steps → Records old limit a (r.added ++ last) steps
records-step part list start place limit old mid new a b last steps r records =
    subst (λ (l : List RunEvent). Records old limit a (l ++ last) steps) (append-nil r.added)
    (records-more old mid limit a b (r.added ++ []) last [] steps new r.goes (records-own part list start place limit old mid a b r) records)

-- ---- all parts

goes-on : (p : RunEvent → Bool) (xs ys rest left whole : List RunEvent) → filter p xs ++ rest ≡ whole → filter p ys ++ left ≡ rest → filter p (xs ++ ys) ++ left ≡ whole
goes-on p xs ys rest left whole first second =
    ap (λ (l : List RunEvent). l ++ left) (filter-append p xs ys) ∙ append_assoc (filter p xs) (filter p ys) left ∙ ap (λ (l : List RunEvent). filter p xs ++ l) second ∙ first

made-more : (fed written : List (List RunEvent)) (fs ws gs xs : List ℕ) (limit : ℕ) (old mid new : WorldModel) (a b c : List ℕ) (steps longer : List StepAt) (more : List RunEvent)
    (others : List StepAt) → Made fed written fs ws limit old mid a b steps → Continues mid new b c more → Records mid limit b more others
    → ((r : ℕ) → filter (is_fed_to r) more ++ rest_of fed gs r ≡ rest_of fed fs r)
    → ((d : ℕ) → filter (is_done_by d) more ++ rest_of written xs d ≡ rest_of written ws d) → filter is_step more ≡ map event_of others → steps ++ others ≡ longer
    → Made fed written gs xs limit old new a c longer
made-more fed written fs ws gs xs limit old mid new a b c steps longer more others m goes records inputs writers order joined =
    record {
      added = m.added ++ more;
      goes = more-continues old mid new a b c m.added more m.goes goes;
      records = subst (λ (l : List StepAt). Records old limit a (m.added ++ more) l) joined (records-more old mid limit a b m.added more steps others new m.goes m.records records);
      inputs = λ r. goes-on (is_fed_to r) m.added more (rest_of fed fs r) (rest_of fed gs r) (list_at fed r) (m.inputs r) (inputs r);
      writers = λ d. goes-on (is_done_by d) m.added more (rest_of written ws d) (rest_of written xs d) (list_at written d) (m.writers d) (writers d);
      in_order = filter-append is_step m.added more ∙ ap (λ (l : List RunEvent). l ++ filter is_step more) m.in_order
          ∙ ap (λ (l : List RunEvent). map event_of steps ++ l) order ∙ sym (map-append event_of steps others) ∙ ap (λ (l : List StepAt). map event_of l) joined;
    }

pub made-none : (fed written : List (List RunEvent)) (fs ws : List ℕ) (limit : ℕ) (s : WorldModel) (text : List ℕ) → ((r : ℕ) → rest_of fed fs r ≡ list_at fed r)
    → ((d : ℕ) → rest_of written ws d ≡ list_at written d) → Made fed written fs ws limit s s text text []
made-none fed written fs ws limit s text inputs writers =
    record {
      added = [];
      goes = same-continues s text;
      records = records-none s limit text [] (All-nil (λ (event : RunEvent). is_step event ≡ false));
      inputs = inputs;
      writers = writers;
      in_order = refl;
    }

-- a reader's events, and then others that are of no list of a reader
fed-moves : (fed : List (List RunEvent)) (fs gs : List ℕ) (r limit : ℕ) (mid new : WorldModel) (b c : List ℕ) (last : List RunEvent) (steps : List StepAt)
    → ((k : ℕ) → filter (is_fed_to k) last ≡ [])
    → (v : Moves (Reader r) fed fs gs limit mid new b c [] last steps) → (k : ℕ) → filter (is_fed_to k) (v.added ++ last) ++ rest_of fed gs k ≡ rest_of fed fs k
fed-moves fed fs gs r limit mid new b c last steps none v k =
    let short : filter (is_fed_to k) (v.added ++ last) ≡ filter (is_fed_to k) v.added =
    filter-append (is_fed_to k) v.added last ∙ ap (λ (l : List RunEvent). filter (is_fed_to k) v.added ++ l) (none k) ∙ append-nil (filter (is_fed_to k) v.added) in
    ap (λ (l : List RunEvent). l ++ rest_of fed gs k) short
    ∙ elim (cases_eq k r) [
      | inl same ↦ subst (λ (n : ℕ). filter (is_fed_to n) v.added ++ rest_of fed gs n ≡ rest_of fed fs n) (sym same)
          (ap (λ (l : List RunEvent). l ++ rest_of fed gs r) (all-pass (is_fed_to r) (is_fed_to r) (λ event e. e) v.added v.each) ∙ v.has)
      | inr other ↦ ap (λ (l : List RunEvent). l ++ rest_of fed gs k) (none-pass (is_fed_to k) (is_fed_to r) (fed-no-other r k other) v.added v.each) ∙ v.others k other
    ]

-- events of a destination's connection, and then these of the list
written-moves : (written : List (List RunEvent)) (ws xs : List ℕ) (d limit : ℕ) (mid new : WorldModel) (b c : List ℕ) (these : List RunEvent) (steps : List StepAt)
    → filter (is_done_by d) these ≡ these
    → ((k : ℕ) → k ≢ d → filter (is_done_by k) these ≡ []) → (v : Moves (Writer d) written ws xs limit mid new b c these these steps)
    → (k : ℕ) → filter (is_done_by k) (v.added ++ these) ++ rest_of written xs k ≡ rest_of written ws k
written-moves written ws xs d limit mid new b c these steps own none v k =
    let P : ℕ → Type 0 = λ (n : ℕ). filter (is_done_by n) (v.added ++ these) ++ rest_of written xs n ≡ rest_of written ws n in
    elim (cases_eq k d) [
      | inl same ↦ subst P (sym same)
          (ap (λ (l : List RunEvent). l ++ rest_of written xs d)
          (filter-append (is_done_by d) v.added these
          ∙ ap (λ (l : List RunEvent). l ++ filter (is_done_by d) these) (all-pass (is_done_by d) (is_connection_of d) (connection-done d) v.added v.each)
          ∙ ap (λ (l : List RunEvent). v.added ++ l) own)
          ∙ append_assoc v.added these (rest_of written xs d) ∙ v.has)
      | inr other ↦ ap (λ (l : List RunEvent). l ++ rest_of written xs k)
          (filter-append (is_done_by k) v.added these
          ∙ ap (λ (l : List RunEvent). l ++ filter (is_done_by k) these) (none-pass (is_done_by k) (is_connection_of d) (connection-no-other d k other) v.added v.each)
          ∙ none k other)
          ∙ v.others k other
    ]

-- of events of a part, and others that do not pass, none passes
none-of-both : (p q : RunEvent → Bool) (xs ys : List RunEvent) → ((event : RunEvent) → q event ≡ true → p event ≡ false) → All (λ (event : RunEvent). q event ≡ true) xs
    → filter p (xs ++ ys) ≡ filter p ys
none-of-both p q xs ys fails each =
    filter-append p xs ys ∙ ap (λ (l : List RunEvent). l ++ filter p ys) (none-pass p q fails xs each)

pub made-offer : (fed written : List (List RunEvent)) (fs ws gs : List ℕ) (r limit : ℕ) (old mid new : WorldModel) (a b c : List ℕ) (steps : List StepAt) (step : StepAt)
    → event_of step ≡ Offer r → Made fed written fs ws limit old mid a b steps → Moves (Reader r) fed fs gs limit mid new b c [] (Offer r ∷ []) (step ∷ [])
    → Made fed written gs ws limit old new a c (steps ++ step ∷ [])
made-offer fed written fs ws gs r limit old mid new a b c steps step is m v =
    made-more fed written fs ws gs ws limit old mid new a b c steps (steps ++ step ∷ []) (v.added ++ Offer r ∷ []) (step ∷ []) m v.goes v.records
    (fed-moves fed fs gs r limit mid new b c (Offer r ∷ []) (step ∷ []) (λ k. refl) v)
    (λ d. ap (λ (l : List RunEvent). l ++ rest_of written ws d) (none-of-both (is_done_by d) (is_fed_to r) v.added (Offer r ∷ []) (fed-not-done r d) v.each))
    (none-of-both is_step (is_fed_to r) v.added (Offer r ∷ []) (fed-no-step r) v.each ∙ ap (λ (e : RunEvent). e ∷ []) (sym is)) refl

pub made-fed : (fed written : List (List RunEvent)) (fs ws gs : List ℕ) (r limit : ℕ) (old mid new : WorldModel) (a b c : List ℕ) (steps : List StepAt)
    → Made fed written fs ws limit old mid a b steps → Moves (Reader r) fed fs gs limit mid new b c [] [] [] → Made fed written gs ws limit old new a c steps
made-fed fed written fs ws gs r limit old mid new a b c steps m v =
    made-more fed written fs ws gs ws limit old mid new a b c steps steps (v.added ++ []) [] m v.goes v.records
    (fed-moves fed fs gs r limit mid new b c [] [] (λ k. refl) v)
    (λ d. ap (λ (l : List RunEvent). l ++ rest_of written ws d) (none-of-both (is_done_by d) (is_fed_to r) v.added [] (fed-not-done r d) v.each))
    (none-of-both is_step (is_fed_to r) v.added [] (fed-no-step r) v.each) (append-nil steps)

own-take : (d : ℕ) → filter (is_done_by d) (Take d ∷ []) ≡ Take d ∷ []
own-take d = ap (λ (b : Bool). cond b (Take d ∷ []) []) (eq-eqb d d refl)

no-other-take : (d k : ℕ) → k ≢ d → filter (is_done_by k) (Take d ∷ []) ≡ []
no-other-take d k other = ap (λ (b : Bool). cond b (Take d ∷ []) []) (another d d k (eq-eqb d d refl) other)

pub made-take : (fed written : List (List RunEvent)) (fs ws xs : List ℕ) (d limit : ℕ) (old mid new : WorldModel) (a b c : List ℕ) (steps : List StepAt) (step : StepAt)
    → event_of step ≡ Take d → Made fed written fs ws limit old mid a b steps → Moves (Writer d) written ws xs limit mid new b c (Take d ∷ []) (Take d ∷ []) (step ∷ [])
    → Made fed written fs xs limit old new a c (steps ++ step ∷ [])
made-take fed written fs ws xs d limit old mid new a b c steps step is m v =
    made-more fed written fs ws fs xs limit old mid new a b c steps (steps ++ step ∷ []) (v.added ++ Take d ∷ []) (step ∷ []) m v.goes v.records
    (λ r. ap (λ (l : List RunEvent). l ++ rest_of fed fs r) (none-of-both (is_fed_to r) (is_connection_of d) v.added (Take d ∷ []) (connection-not-fed d r) v.each))
    (written-moves written ws xs d limit mid new b c (Take d ∷ []) (step ∷ []) (own-take d) (no-other-take d) v)
    (none-of-both is_step (is_connection_of d) v.added (Take d ∷ []) (connection-no-step d) v.each ∙ ap (λ (e : RunEvent). e ∷ []) (sym is)) refl

pub made-written : (fed written : List (List RunEvent)) (fs ws xs : List ℕ) (d limit : ℕ) (old mid new : WorldModel) (a b c : List ℕ) (steps : List StepAt)
    → Made fed written fs ws limit old mid a b steps → Moves (Writer d) written ws xs limit mid new b c [] [] [] → Made fed written fs xs limit old new a c steps
made-written fed written fs ws xs d limit old mid new a b c steps m v =
    made-more fed written fs ws fs xs limit old mid new a b c steps steps (v.added ++ []) [] m v.goes v.records
    (λ r. ap (λ (l : List RunEvent). l ++ rest_of fed fs r) (none-of-both (is_fed_to r) (is_connection_of d) v.added [] (connection-not-fed d r) v.each))
    (written-moves written ws xs d limit mid new b c [] [] refl (λ k other. refl) v)
    (none-of-both is_step (is_connection_of d) v.added [] (connection-no-step d) v.each) (append-nil steps)

-- ---- at the end

pub used-more : (part : Part) (lists : List (List RunEvent)) (starts moved : List ℕ) (limit : ℕ) (old new : WorldModel) (a b : List ℕ) (these last : List RunEvent) (steps : List StepAt)
    → AreUsed lists starts (number_of part) → Moves part lists starts moved limit old new a b these last steps → rest_of lists moved (number_of part) ≡ []
    → AreUsed lists moved (number_of part + 1)
used-more part lists starts moved limit old new a b these last steps used v here =
    below_more (λ (k : ℕ). rest_of lists moved k ≡ []) (number_of part)
    (λ k below. let other : k ≢ number_of part = omega arith in v.others k other ∙ used k below) here

-- nothing is left of a list that is not there
none-left : (lists : List (List RunEvent)) (starts : List ℕ) (count : ℕ) → length lists ≤ count → AreUsed lists starts count → (k : ℕ) → rest_of lists starts k ≡ []
none-left lists starts count all used k =
    elim (cases_lt k count) [
      | inl below ↦ used k below
      | inr above ↦ let past : length lists ≤ k = omega arith in
          ap (λ (l : List RunEvent). drop (get_or starts k 0) l) (get_or_past lists k [] past) ∙ drop_all (get_or starts k 0) [] (omega arith)
    ]

whole : (p : RunEvent → Bool) (added rest list : List RunEvent) → filter p added ++ rest ≡ list → rest ≡ [] → filter p added ≡ list
whole p added rest list is none =
    sym (append-nil (filter p added)) ∙ ap (λ (l : List RunEvent). filter p added ++ l) (sym none) ∙ is

pub made-all : (parts : PartsOfRun) (fs ws : List ℕ) (readers dests limit : ℕ) (old new : WorldModel) (a b : List ℕ) → Made parts.fed parts.written fs ws limit old new a b parts.steps
    → length parts.fed ≤ readers → AreUsed parts.fed fs readers → length parts.written ≤ dests → AreUsed parts.written ws dests → MakesParts parts limit old new a b
made-all parts fs ws readers dests limit old new a b m few used few_written used_written =
    record {
      added = m.added;
      goes = m.goes;
      records = m.records;
      has_parts = record {
        inputs = λ r. whole (is_fed_to r) m.added (rest_of parts.fed fs r) (list_at parts.fed r) (m.inputs r) (none-left parts.fed fs readers few used r);
        writers = λ d. whole (is_done_by d) m.added (rest_of parts.written ws d) (list_at parts.written d) (m.writers d) (none-left parts.written ws dests few_written used_written d);
        in_order = m.in_order;
      };
    }

pub nothing-used : (count : ℕ) (lists : List (List RunEvent)) (starts : List ℕ) → starts ≡ replicate count 0 → (k : ℕ) → rest_of lists starts k ≡ list_at lists k
nothing-used count lists starts zeros k =
    let zero_there : get_or starts k 0 ≡ 0 =
    ap (λ (l : List ℕ). get_or l k 0) zeros
    ∙ elim (cases_lt k count) [
      | inl below ↦ get_or-replicate count k 0 0 below
      | inr above ↦ get_or_past (replicate count 0) k 0 (omega (arith, length-replicate {A = ℕ}))
    ] in
    ap (λ (n : ℕ). drop n (list_at lists k)) zero_there

-- ---- the lists of the code

pub list-there : (lists : List (Vec Event Global)) (k : ℕ) (list : Vec Event Global) → k < length lists → list ≡ get_or lists k list
    → map run_event list.items ≡ list_at (lists_of lists) k
list-there [] k list below is = absurd (omega arith)
list-there (first ∷ lists) zero list below is = ap (λ (v : Vec Event Global). map run_event v.items) is
list-there (first ∷ lists) (suc k) list below is = list-there lists k list (omega arith) is

-- the list's next event
pub next-event : (list : List Event) (place : ℕ) (event : Event) → place < length list → event ≡ get_or list place event
    → drop place (map run_event list) ≡ run_event event ∷ drop (place + 1) (map run_event list)
next-event list place event below is =
    drop-map run_event place list
    ∙ ap (λ (l : List Event). map run_event l) (drop_more list place event below)
    ∙ ap (λ (e : Event). run_event e ∷ map run_event (drop (place + 1) list)) (sym is)
    ∙ ap (λ (l : List RunEvent). run_event event ∷ l) (sym (drop-map run_event (place + 1) list))

-- the next step of an order
one-numbered : (f : ℕ → Option StepAt) (number : ℕ) (step : StepAt) → f number ≡ Some step → filter_map f (number ∷ []) ≡ step ∷ []
one-numbered f number step found = ap (λ (o : Option StepAt). cons_option o []) found

pub next-numbered : (histories : List (Vec Step Global)) (order : List ℕ) (i : ℕ) (step : StepAt) → i < length order
    → step_numbered histories (get_or order i 0) ≡ Some step
    → steps_numbered histories (take i order) ++ step ∷ [] ≡ steps_numbered histories (take (i + 1) order)
next-numbered histories order i step below found =
    ap (λ (l : List StepAt). filter_map (step_numbered histories) (take i order) ++ l) (sym (one-numbered (step_numbered histories) (get_or order i 0) step found))
    ∙ sym (filter_map-append (step_numbered histories) (take i order) (get_or order i 0 ∷ []))
    ∙ ap (λ (l : List ℕ). filter_map (step_numbered histories) l) (sym (take_more order i 0 below))

pub count-lists : (lists : List (Vec Event Global)) → length (lists_of lists) ≡ length lists
count-lists lists = length-map lists (λ (list : Vec Event Global). map run_event list.items)

pub made-same : (fed written : List (List RunEvent)) (fs gs ws xs : List ℕ) (limit : ℕ) (old new same : WorldModel) (a b c : List ℕ) (steps longer : List StepAt) → gs ≡ fs → xs ≡ ws
    → same ≡ new → c ≡ b → steps ≡ longer → Made fed written fs ws limit old new a b steps → Made fed written gs xs limit old same a c longer
made-same fed written fs gs ws xs limit old new same a b c steps longer f w s t l m =
    subst (λ (v : List ℕ). Made fed written v xs limit old same a c longer) (sym f)
    (subst (λ (v : List ℕ). Made fed written fs v limit old same a c longer) (sym w)
    (subst (λ (v : WorldModel). Made fed written fs ws limit old v a c longer) (sym s)
    (subst (λ (v : List ℕ). Made fed written fs ws limit old new a v longer) (sym t)
    (subst (λ (v : List StepAt). Made fed written fs ws limit old new a b v) l m))))
