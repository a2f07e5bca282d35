-- The lines of the datapoints that are sent for lines are as short as a printed line is.
use Rattle.std.proofs.Common.{◌≡◌, ◌≤◌, ℕ, zero, suc, leb, eqb, Bool, true, false, cond, List, [], ◌∷◌, ◌++◌, length, map, take, flat_map, filter_map, nat_abs, ℤ, Some, None, Ok, Err, Option, Result, refl, ap, ◌∙◌, subst, arith, option_and_then, ok_or, leb-true}
use Rattle.std.specs.List.{AllByRecursion, cons_option, prefix_len}
use Rattle.line_text.specs.declared.fault.LineFault.{LineFault}
use Rattle.line_text.specs.declared.fault.LineFault.TheVariants.{BadValue, BadTime}
use Rattle.line_text.specs.Datapoint.{Datapoint}
use Rattle.line_text.specs.Name.{is_name}
use Rattle.line_text.specs.Number.{Decimal, number_of}
use Rattle.line_text.specs.Value.{value_of, most_units}
use Rattle.line_text.specs.Time.{time_of, time_below_zero, time_from_zero, whole_part, last_time}
use Rattle.line_text.specs.Value.{is_below_zero}
use Rattle.line_text.specs.Field.{fields}
use Rattle.line_text.specs.Line.{Line, ◌>>=◌, name_in, value_in, time_in, point_in, of_fields, reading, point_or_none, points}
use Rattle.line_text.specs.Connection.{Arrival, arrivals, is_newline, cut, cut_with, cut_from, lines, is_short, accepted_points}
use Rattle.line_text.specs.Print.{printed_line, longest_printed}
use Rattle.line_text.specs.Laws.{IsDatapoint, ValueLaw, OneLineLaw}
use Rattle.router.specs.Plan.{under_name}
use Rattle.reader_core.specs.Configuration.{Configuration, Dispatch, dispatches, sends}

-- ---- what is found, if something is

-- whatever is there has the property
abbrev pub Gives : {A : Type 0} → (A → Type 0) → Option A → Type 0
Gives {A} P o = (x : A) → o ≡ Some x → P x

pub gives-some : {A : Type 0} (P : A → Type 0) (x : A) → P x → Gives P (Some x)
gives-some P x h y e = let same : x ≡ y = cc in subst P same h

pub gives-none : {A : Type 0} (P : A → Type 0) → Gives P None
gives-none P y e = cc

pub gives-cond : {A : Type 0} (P : A → Type 0) (b : Bool) (o other : Option A) → (b ≡ true → Gives P o) → Gives P other → Gives P (cond b o other)
gives-cond P true o other h h' = h refl
gives-cond P false o other h h' = h'

bind-ok : {A B : Type 0} (r : Result A LineFault) (f : A → Result B LineFault) (y : B) → (r >>= f) ≡ Ok y → (x : A) × (r ≡ Ok x) × (f x ≡ Ok y)
bind-ok (Ok x) f y e = (x, refl, e)
bind-ok (Err fault) f y e = cc

ok_or-ok : {A : Type 0} (o : Option A) (fault : LineFault) (x : A) → ok_or o fault ≡ Ok x → o ≡ Some x
ok_or-ok None fault x e = cc
ok_or-ok (Some y) fault x e = let same : y ≡ x = cc in ap (λ (z : _). Some z) same

and_then-some : {A B : Type 0} (f : A → Option B) (o : Option A) (y : B) → option_and_then f o ≡ Some y → (x : A) × (f x ≡ Some y)
and_then-some f None y e = cc
and_then-some f (Some x) y e = (x, e)

point_or_none-some : (r : Result (Option Datapoint) LineFault) (p : Datapoint) → point_or_none r ≡ Some p → r ≡ Ok (Some p)
point_or_none-some (Ok found) p e = ap (λ (o : Option Datapoint). Ok o) e
point_or_none-some (Err fault) p e = cc

-- ---- one line

-- a value and a time that a datapoint may have
pub record IsInRange (p : Datapoint) : Type 0 where
  pub value : nat_abs p.value ≤ most_units
  pub time : p.time ≤ last_time

time-in_range : (d : Decimal) (moment : ℕ) → moment ≤ last_time → Gives (λ t. t ≤ last_time) (time_of d moment)
time-in_range d moment l =
    let P = λ (t : ℕ). t ≤ last_time in
    let whole = whole_part d in
    gives-cond P (is_below_zero d) (time_below_zero whole moment) (time_from_zero whole)
    (λ below. gives-cond P (eqb whole 0) (Some 0) (cond (eqb whole 1) (Some moment) None) (λ none. gives-some P 0 (omega arith))
    (gives-cond P (eqb whole 1) (Some moment) None (λ one. gives-some P moment l) (gives-none P)))
    (gives-cond P (leb whole last_time) (Some whole) None (λ fits. gives-some P whole (leb-true _ _ fits)) (gives-none P))

made_of : (p q : Datapoint) → p ≡ q → IsInRange p → IsInRange q
made_of p q e h = subst IsInRange e h

same_ok : (p q : Datapoint) → ◌≡◌ {A = Result Datapoint LineFault} (Ok p) (Ok q) → p ≡ q
same_ok p q e = cc

module _ (values : ValueLaw) where
  value-in_range : (d : Decimal) → Gives (λ v. nat_abs v ≤ most_units) (value_of d)
  value-in_range d v e = ((values d v).0 e).within

  -- of the three fields of a datapoint, what the last one gives
  with_time : (name third : List ℕ) (v : ℤ) (moment : ℕ) (p : Datapoint) → nat_abs v ≤ most_units → moment ≤ last_time
      → (ok_or (time_in third moment) BadTime >>= (λ t. Ok (record { name = name; value = v; time = t }))) ≡ Ok p → IsInRange p
  with_time name third v moment p value l e =
      let found = bind-ok (ok_or (time_in third moment) BadTime) (λ t. Ok (record { name = name; value = v; time = t })) p e in
      let timed = and_then-some (λ d. time_of d moment) (number_of third) found.0 (ok_or-ok (time_in third moment) BadTime found.0 found.1) in
      made_of (record { name = name; value = v; time = found.0 }) p (same_ok _ p found.2)
      (record { value = value; time = time-in_range timed.0 moment l found.0 timed.1 })

  with_value : (name second third : List ℕ) (moment : ℕ) (p : Datapoint) → moment ≤ last_time
      → (ok_or (value_in second) BadValue
      >>= (λ v. ok_or (time_in third moment) BadTime >>= (λ t. Ok (record { name = name; value = v; time = t })))) ≡ Ok p → IsInRange p
  with_value name second third moment p l e =
      let found =
      bind-ok (ok_or (value_in second) BadValue)
      (λ v. ok_or (time_in third moment) BadTime >>= (λ t. Ok (record { name = name; value = v; time = t }))) p e in
      let valued = and_then-some value_of (number_of second) found.0 (ok_or-ok (value_in second) BadValue found.0 found.1) in
      with_time name third found.0 moment p (value-in_range valued.0 found.0 valued.1) l found.2

  three-in_range : (first second third : List ℕ) (moment : ℕ) (p : Datapoint) → moment ≤ last_time
      → point_in first second third moment ≡ Ok p → IsInRange p
  three-in_range first second third moment p l e =
      let found =
      bind-ok (name_in first)
      (λ n. ok_or (value_in second) BadValue >>= (λ v. ok_or (time_in third moment) BadTime >>= (λ t. Ok (record { name = n; value = v; time = t })))) p e in
      with_value found.0 second third moment p l found.2

  fields-in_range : (parts : List (List ℕ)) (moment : ℕ) (p : Datapoint) → moment ≤ last_time
      → of_fields parts moment ≡ Ok (Some p) → IsInRange p
  fields-in_range [] moment p l e = cc
  fields-in_range (first ∷ []) moment p l e = cc
  fields-in_range (first ∷ second ∷ []) moment p l e = cc
  fields-in_range (first ∷ second ∷ third ∷ []) moment p l e =
      let found = bind-ok (point_in first second third moment) (λ q. Ok (Some q)) (Some p) e in
      let same : found.0 ≡ p = cc in
      three-in_range first second third moment p l (found.1 ∙ ap (λ (q : Datapoint). Ok q) same)
  fields-in_range (first ∷ second ∷ third ∷ fourth ∷ others) moment p l e = cc

  line-in_range : (line : Line) → line.moment ≤ last_time → Gives IsInRange (point_or_none (reading line))
  line-in_range line l p e =
      fields-in_range (fields line.text) line.moment p l (point_or_none-some (reading line) p e)

-- ---- the lines of a connection

IsTimely : Line → Type 0
IsTimely line = line.moment ≤ last_time

timely-cut : (c : List Arrival) → AllByRecursion (λ (a : Arrival). a.moment ≤ last_time) c → AllByRecursion IsTimely (cut c).ended
unfolding IsTimely
timely-cut [] h = tt
timely-cut (a ∷ c) h = by_case (is_newline a) refl (timely-cut c h.1)
  where
    with_byte : (b : ℕ) (ended : List Line) (rest : List ℕ) → AllByRecursion (λ (line : Line). line.moment ≤ last_time) ended
        → AllByRecursion (λ (line : Line). line.moment ≤ last_time) (cut_with b ended rest).ended
    with_byte b [] rest h' = tt
    with_byte b (line ∷ others) rest h' = h'

    by_case : (b : Bool) → is_newline a ≡ b → AllByRecursion (λ (line : Line). line.moment ≤ last_time) (cut c).ended
        → AllByRecursion (λ (line : Line). line.moment ≤ last_time) (cut_from a (cut c)).ended
    by_case true e h' = rw e (h.0, h')
    by_case false e h' = rw e (with_byte a.byte (cut c).ended (cut c).unended h')

timely-arrivals : (bytes : List ℕ) → AllByRecursion (λ (a : Arrival). a.moment ≤ last_time) (arrivals bytes 0)
timely-arrivals [] = tt
timely-arrivals (b ∷ bytes) = (omega arith, timely-arrivals bytes)

taken : {A : Type 0} (P : A → Type 0) (n : ℕ) (all : List A) → AllByRecursion P all → AllByRecursion P (take n all)
taken P zero all h = tt
taken P (suc n) [] h = tt
taken P (suc n) (x ∷ all) h = (h.0, taken P n all h.1)

found : {A B : Type 0} (P : A → Type 0) (Q : B → Type 0) (f : A → Option B) → ((x : A) → P x → Gives Q (f x)) → (all : List A) → AllByRecursion P all
    → AllByRecursion Q (filter_map f all)
found P Q f gives [] h = tt
found P Q f gives (x ∷ all) h = by_case (f x) (gives x h.0) (found P Q f gives all h.1)
  where
    by_case : (o : Option _) → Gives Q o → AllByRecursion Q (filter_map f all) → AllByRecursion Q (cons_option o (filter_map f all))
    by_case None g h' = h'
    by_case (Some y) g h' = (g y refl, h')

pub accepted-in_range : ValueLaw → (bytes : List ℕ) → AllByRecursion IsInRange (accepted_points (arrivals bytes 0))
unfolding IsTimely
accepted-in_range values bytes =
    let k = cut (arrivals bytes 0) in
    found IsTimely IsInRange (λ line. point_or_none (reading line)) (line-in_range values) (lines (arrivals bytes 0))
    (taken IsTimely (prefix_len is_short k.ended) k.ended (timely-cut (arrivals bytes 0) (timely-arrivals bytes)))

-- ---- what is sent

joined : {A : Type 0} (P : A → Type 0) (xs ys : List A) → AllByRecursion P xs → AllByRecursion P ys → AllByRecursion P (xs ++ ys)
joined P [] ys h h' = h'
joined P (x ∷ xs) ys h h' = (h.0, joined P xs ys h.1 h')

all-joined : {A B : Type 0} (P : A → Type 0) (Q : B → Type 0) (f : A → List B) → ((x : A) → P x → AllByRecursion Q (f x)) → (all : List A) → AllByRecursion P all
    → AllByRecursion Q (flat_map f all)
all-joined P Q f gives [] h = tt
all-joined P Q f gives (x ∷ all) h = joined Q (f x) (flat_map f all) (gives x h.0) (all-joined P Q f gives all h.1)

module _ (c : Configuration) (named : (name : List ℕ) → Gives (λ new. is_name new ≡ true) (c.rewrite name)) (one_line : OneLineLaw) where
  IsBrief : Dispatch → Type 0
  IsBrief sent = length (printed_line sent.point) ≤ longest_printed

  to_each : (dests : List ℕ) (point : Datapoint) → IsDatapoint point → AllByRecursion IsBrief (map (λ d. record { dest = d; point = point }) dests)
  unfolding IsBrief
  to_each [] point is = tt
  to_each (d ∷ dests) point is = ((one_line point is).short, to_each dests point is)

  sent-brief : (point : Datapoint) → IsInRange point → (o : Option (List ℕ)) → Gives (λ new. is_name new ≡ true) o
      → AllByRecursion IsBrief (dispatches c (under_name point o))
  sent-brief point h None g = tt
  sent-brief point h (Some name) g =
      to_each (c.route name) (record point { name = name }) (record { name = g name refl; value = h.value; time = h.time })

  pub sent-short : (points : List Datapoint) → AllByRecursion IsInRange points
      → AllByRecursion (λ (sent : Dispatch). length (printed_line sent.point) ≤ longest_printed) (flat_map (sends c) points)
  unfolding IsBrief
  sent-short points h =
      all-joined IsInRange IsBrief (sends c) (λ point is. sent-brief point is (c.rewrite point.name) (named point.name)) points h
