-- Reading the items of a list of destinations one after the other.
use Rattle.std.proofs.Common.{◌≡◌, ℕ, ◌+◌, ◌<◌, ◌≤◌, List, [], ◌∷◌, ◌++◌, map, length, get_or, drop, Option, Some, None, Ok, Err, eqb, refl, sym, ap, ◌∙◌, append_assoc, arith, inl, inr}
use Rattle.std.specs.Option.{option_map, ok_or}
use Rattle.std.specs.List.{slice_split}
use Rattle.std.proofs.lemmas.Option.{none-some, same_Some}
use Rattle.std.proofs.lemmas.List.{append-nil, at_drop_more, at_drop_all, length-map}
use Rattle.std.proofs.lemmas.List.Splits.{length-slice_split}
use Rattle.conf_text.specs.declared.dest.DestFault.{DestFault}
use Rattle.conf_text.specs.declared.dest.DestFault.TheVariants.{BadDestination, NoMemory}
use Rattle.relay_base.specs.Memory.{Fails}
use Rattle.relay_base.specs.White.{strip}
use Rattle.conf_text.specs.Destination.{Destination, destination_of, destinations_of, all_some}

-- the destinations of items
abbrev pub dests_in : List (List ℕ) → Option (List Destination)
dests_in items = all_some (map (λ item. destination_of (strip item)) items)

-- what was read before, and what is still read
abbrev pub followed_by : List Destination → Option (List Destination) → Option (List Destination)
followed_by front rest = option_map (λ ds. front ++ ds) rest

regroup : (front : List Destination) (d : Destination) (rest : Option (List Destination)) → followed_by front (option_map (λ ds. d ∷ ds) rest) ≡ followed_by (front ++ d ∷ []) rest
regroup front d None = refl
regroup front d (Some ds) = ap (λ (xs : List Destination). Some xs) (sym (append_assoc front (d ∷ []) ds))

one_more : (items : List (List ℕ)) (n : ℕ) (item : List ℕ) → (n < length items) × (item ≡ get_or items n item) → dests_in (drop n items) ≡ dests_in (item ∷ drop (n + 1) items)
one_more items n item h = at_drop_more dests_in items n item h.0 ∙ ap (λ (i : List ℕ). dests_in (i ∷ drop (n + 1) items)) (sym h.1)

pub goes_on : (front : List Destination) (items : List (List ℕ)) (n : ℕ) (item : List ℕ) (d : Destination) (total : Option (List Destination)) → (n < length items) × (item ≡ get_or items n item)
    → destination_of (strip item) ≡ Some d → followed_by front (dests_in (drop n items)) ≡ total → followed_by (front ++ d ∷ []) (dests_in (drop (n + 1) items)) ≡ total
goes_on front items n item d total at read so_far =
    let here : dests_in (item ∷ drop (n + 1) items) ≡ option_map (λ ds. d ∷ ds) (dests_in (drop (n + 1) items)) = rw read refl in
    sym (regroup front d (dests_in (drop (n + 1) items))) ∙ ap (followed_by front) (sym (one_more items n item at ∙ here)) ∙ so_far

pub stops : (front : List Destination) (items : List (List ℕ)) (n : ℕ) (item : List ℕ) (total : Option (List Destination)) → (n < length items) × (item ≡ get_or items n item)
    → destination_of (strip item) ≡ None → followed_by front (dests_in (drop n items)) ≡ total → total ≡ None
stops front items n item total at read so_far =
    let here : dests_in (item ∷ drop (n + 1) items) ≡ None = rw read refl in
    sym so_far ∙ ap (followed_by front) (one_more items n item at ∙ here)

pub is_done : (front : List Destination) (items : List (List ℕ)) (n : ℕ) (total : Option (List Destination)) → length items ≤ n → followed_by front (dests_in (drop n items)) ≡ total → total ≡ Some front
is_done front items n total le so_far =
    sym so_far ∙ ap (followed_by front) (at_drop_all dests_in items n le) ∙ ap (λ (xs : List Destination). Some xs) (append-nil front)

pub ok_or_is : {A : Type 0} (o : Option A) (x : A) → ok_or o BadDestination ≡ Ok x → o ≡ Some x
ok_or_is None x e = absurd cc
ok_or_is (Some y) x e = cc

not_ok : {A : Type 0} (o : Option A) (fault : DestFault) → ok_or o BadDestination ≡ Err fault → (o ≡ None) × (BadDestination ≡ fault)
not_ok None fault e = (refl, cc)
not_ok (Some y) fault e = absurd cc

-- a fault of an item is the fault of the list
pub fails : (e : DestFault) (front : List Destination) (items : List (List ℕ)) (n : ℕ) (item : List ℕ) (total : Option (List Destination)) → (n < length items) × (item ≡ get_or items n item)
    → Fails NoMemory (ok_or (destination_of (strip item)) BadDestination) e → followed_by front (dests_in (drop n items)) ≡ total
    → Fails NoMemory (ok_or total BadDestination) e
fails e front items n item total at (inl memory) so_far = inl memory
fails e front items n item total at (inr fault) so_far =
    let none = not_ok (destination_of (strip item)) e fault in
    inr (ap (λ (o : Option (List Destination)). ok_or o BadDestination) (stops front items n item total at none.0 so_far) ∙ ap (λ (f : DestFault). Err f) none.1)

-- ---- how many there are

length_all_some : {A : Type 0} (os : List (Option A)) (xs : List A) → all_some os ≡ Some xs → length xs ≡ length os
length_all_some [] xs e = ap length (sym (same_Some [] xs e))
length_all_some (None ∷ os) xs e = absurd (none-some xs e)
length_all_some {A} (Some x ∷ os) xs e = omega (arith, more (all_some os) xs (length_all_some os) e)
  where
    more : (rest : Option (List A)) (ys : List A) → ((zs : List A) → rest ≡ Some zs → length zs ≡ length os) → option_map (λ zs. x ∷ zs) rest ≡ Some ys → length ys ≡ length os + 1
    more None ys counts h = absurd (none-some ys h)
    more (Some zs) ys counts h = omega (arith, ap length (same_Some (x ∷ zs) ys h), counts zs refl)

-- a list of destinations has at least one
pub at_least_one : (text : List ℕ) (ds : List Destination) → destinations_of text ≡ Some ds → 1 ≤ length ds
at_least_one text ds e =
    let items = slice_split (λ b. eqb b 44) text in
    let dests = map (λ item. destination_of (strip item)) items in
    omega (arith, length_all_some dests ds e, length-map items (λ item. destination_of (strip item)), length-slice_split (λ b. eqb b 44) text)
