-- What an index of names finds: the first that has the name.
use Rattle.std.proofs.Common.{◌≡◌, ℕ, ◌+◌, ◌-◌, ◌<◌, ◌≤◌, Bool, true, false, cond, List, [], ◌∷◌, ◌++◌, map, length, get_or, Option, Some, None, refl, sym, ap, ◌∙◌, subst, arith, add-one, add-zero, zero-add, ◌||◌}
use Rattle.std.specs.List.{position_from, find, list_any}
use Rattle.std.specs.Option.{is_some}
use Rattle.std.specs.Map.{update}
use Rattle.std.specs.Str.{bytes_eq}
use Rattle.std.proofs.lemmas.Option.{none-some, same_Some}
use Rattle.std.proofs.lemmas.Slice.Eq.{bytes_eq-Decides}
use Rattle.conf_text.specs.Places.{place_of}

-- the first value that is there
abbrev first_place : Option ℕ → Option ℕ → Option ℕ
first_place None o = o
first_place (Some n) o = Some n

-- ---- an index from i on

found_from : {A : Type 0} (name : A → List ℕ) (t : List ℕ → Bool) (i : ℕ) (xs : List A) (n : ℕ) → position_from t i (map name xs) ≡ Some n → (i ≤ n) × (n < i + length xs) × ((d : A) → find (λ x. t (name x)) xs ≡ Some (get_or xs (n - i) d))
found_from name t i [] n e = absurd (none-some n e)
found_from {A} name t i (x ∷ xs) n e =
    let P : Bool → Type 0 = λ b. cond b (Some i) (position_from t (i + 1) (map name xs)) ≡ Some n → (i ≤ n) × (n < i + length (x ∷ xs)) × ((d : A) → cond b (Some x) (find (λ y. t (name y)) xs) ≡ Some (get_or (x ∷ xs) (n - i) d)) in
    let here : P true = λ h.
    let same = same_Some i n h in
    let none : 0 ≡ n - i = omega arith in
    (omega arith, omega arith, λ d. ap (λ k. Some (get_or (x ∷ xs) k d)) none) in
    let later : P false = λ h.
    let r = found_from name t (i + 1) xs n h in
    let next : n - (i + 1) + 1 ≡ n - i = omega (arith, r.0) in
    (omega (arith, r.0), omega (arith, r.1), λ d. r.2 d ∙ ap (λ k. Some (get_or (x ∷ xs) k d)) (sym (add-one (n - (i + 1))) ∙ next)) in
    (elim (t (name x)) as P [ true ↦ here | false ↦ later ]) e

none_from : {A : Type 0} (name : A → List ℕ) (t : List ℕ → Bool) (i : ℕ) (xs : List A) → position_from t i (map name xs) ≡ None → find (λ x. t (name x)) xs ≡ None
none_from name t i [] e = refl
none_from name t i (x ∷ xs) e =
    let P : Bool → Type 0 = λ b. cond b (Some i) (position_from t (i + 1) (map name xs)) ≡ None → cond b (Some x) (find (λ y. t (name y)) xs) ≡ None in
    (elim (t (name x)) as P [ true ↦ λ h. absurd (none-some i (sym h)) | false ↦ λ h. none_from name t (i + 1) xs h ]) e

push_from : (t : List ℕ → Bool) (i : ℕ) (names : List (List ℕ)) (k : List ℕ) → position_from t i (names ++ k ∷ []) ≡ first_place (position_from t i names) (cond (t k) (Some (i + length names)) None)
push_from t i [] k = ap (λ n. cond (t k) (Some n) None) (sym (add-zero i))
push_from t i (n ∷ names) k =
    let P : Bool → Type 0 = λ b. cond b (Some i) (position_from t (i + 1) (names ++ k ∷ [])) ≡ first_place (cond b (Some i) (position_from t (i + 1) names)) (cond (t k) (Some (i + length (n ∷ names))) None) in
    let more : i + 1 + length names ≡ i + length (n ∷ names) = omega arith in
    elim (t n) as P [ true ↦ refl | false ↦ push_from t (i + 1) names k ∙ ap (λ j. first_place (position_from t (i + 1) names) (cond (t k) (Some j) None)) more ]

-- none if no name passes
unlisted_from : {A : Type 0} (name : A → List ℕ) (t : List ℕ → Bool) (i : ℕ) (xs : List A) → list_any (λ x. t (name x)) xs ≡ false → position_from t i (map name xs) ≡ None
unlisted_from name t i [] e = refl
unlisted_from name t i (x ∷ xs) e =
    let P : Bool → Type 0 = λ b. (b || list_any (λ y. t (name y)) xs) ≡ false → cond b (Some i) (position_from t (i + 1) (map name xs)) ≡ None in
    (elim (t (name x)) as P [ true ↦ λ h. absurd cc | false ↦ λ h. unlisted_from name t (i + 1) xs h ]) e

listed_from : {A : Type 0} (name : A → List ℕ) (t : List ℕ → Bool) (i : ℕ) (xs : List A) → list_any (λ x. t (name x)) xs ≡ is_some (position_from t i (map name xs))
listed_from name t i [] = refl
listed_from name t i (x ∷ xs) =
    let P : Bool → Type 0 = λ b. (b || list_any (λ y. t (name y)) xs) ≡ is_some (cond b (Some i) (position_from t (i + 1) (map name xs))) in
    elim (t (name x)) as P [ true ↦ refl | false ↦ listed_from name t (i + 1) xs ]

-- ---- the index of a name

pub found : {A : Type 0} (name : A → List ℕ) (q : List ℕ) (xs : List A) (n : ℕ) → place_of q (map name xs) ≡ Some n → (n < length xs) × ((d : A) → find (λ x. bytes_eq q (name x)) xs ≡ Some (get_or xs n d))
found name q xs n e = let r = found_from name (bytes_eq q) 0 xs n e in (omega (arith, r.1), λ d. r.2 d ∙ ap (λ k. Some (get_or xs k d)) (omega arith))

pub not_found : {A : Type 0} (name : A → List ℕ) (q : List ℕ) (xs : List A) → place_of q (map name xs) ≡ None → find (λ x. bytes_eq q (name x)) xs ≡ None
not_found name q xs e = none_from name (bytes_eq q) 0 xs e

pub unlisted : {A : Type 0} (name : A → List ℕ) (q : List ℕ) (xs : List A) → list_any (λ x. bytes_eq q (name x)) xs ≡ false → place_of q (map name xs) ≡ None
unlisted name q xs e = unlisted_from name (bytes_eq q) 0 xs e

pub listed : {A : Type 0} (name : A → List ℕ) (q : List ℕ) (xs : List A) → list_any (λ x. bytes_eq q (name x)) xs ≡ is_some (place_of q (map name xs))
listed name q xs = listed_from name (bytes_eq q) 0 xs

or_none : (o : Option ℕ) → first_place o None ≡ o
or_none None = refl
or_none (Some n) = refl

other_way : (a b : List ℕ) → bytes_eq a b ≡ false → bytes_eq b a ≡ false
other_way a b h =
    let P : Bool → Type 0 = λ v. bytes_eq b a ≡ v → bytes_eq b a ≡ false in
    (elim (bytes_eq b a) as P [ true ↦ λ e. absurd (let yes = (bytes_eq-Decides a b).1 (sym ((bytes_eq-Decides b a).0 e)) in cc) | false ↦ λ e. e ]) refl

-- the index of a name that is put at the end
last_place : (names : List (List ℕ)) (k : List ℕ) → place_of k names ≡ None → place_of k (names ++ k ∷ []) ≡ Some (length names)
last_place names k absent =
    push_from (bytes_eq k) 0 names k ∙ ap (λ o. first_place o (cond (bytes_eq k k) (Some (0 + length names)) None)) absent
    ∙ ap (λ b. cond b (Some (0 + length names)) None) ((bytes_eq-Decides k k).1 refl) ∙ ap (λ (n : ℕ). Some n) (zero-add (length names))

other_place : (names : List (List ℕ)) (k q : List ℕ) → bytes_eq k q ≡ false → place_of q (names ++ k ∷ []) ≡ place_of q names
other_place names k q h =
    push_from (bytes_eq q) 0 names k ∙ ap (λ b. first_place (place_of q names) (cond b (Some (0 + length names)) None)) (other_way k q h) ∙ or_none (place_of q names)

-- an index of names, after one more name is put in
pub index-push : (names : List (List ℕ)) (k : List ℕ) (old new : List ℕ → Option ℕ) → place_of k names ≡ None → ((q : List ℕ) → old q ≡ place_of q names)
    → ((q : List ℕ) → new q ≡ update bytes_eq old k (Some (length names)) q) → (q : List ℕ) → new q ≡ place_of q (names ++ k ∷ [])
index-push names k old new absent before change q =
    let P : Bool → Type 0 = λ b. bytes_eq k q ≡ b → cond b (Some (length names)) (old q) ≡ place_of q (names ++ k ∷ []) in
    let put : P true = λ h. sym (subst (λ (r : List ℕ). place_of r (names ++ k ∷ []) ≡ Some (length names)) ((bytes_eq-Decides k q).0 h) (last_place names k absent)) in
    let kept : P false = λ h. before q ∙ sym (other_place names k q h) in
    change q ∙ (elim (bytes_eq k q) as P [ true ↦ put | false ↦ kept ]) refl
