-- Mentioning one after the other keeps each at its first mention.
use Rattle.std.proofs.Common.{◌≡◌, ◌==◌, ◌&&◌, ◌||◌, not, Bool, true, false, cond, List, [], ◌∷◌, ◌++◌, refl, ap, sym, ◌∙◌, append_assoc}
use Rattle.std.proofs.lemmas.Bool.{eqb-true}
use Rattle.std.proofs.lemmas.List.{append-nil}
use Rattle.std.proofs.lemmas.List.Elements.{filter_agree}
use Rattle.std.proofs.lemmas.List.Folds.{list_any-append}
use Rattle.std.specs.List.{filter, list_any}
use Rattle.relay_base.specs.declared.dest_id.DestId.{DestId}
use Rattle.relay_base.specs.DestIds.{same_id, first_mentions}
use Rattle.relay_rules.specs.Destinations.{has_id, with_more}

filter-cond : {X : Type 0} (p : X → Bool) (x : X) (xs : List X) (b : Bool) →
    filter p (cond b (x ∷ xs) xs) ≡ cond (b && p x) (x ∷ filter p xs) (filter p xs)
filter-cond p x xs true = refl
filter-cond p x xs false = refl

filter-filter : {X : Type 0} (p q : X → Bool) (xs : List X) → filter p (filter q xs) ≡ filter (λ x. q x && p x) xs
filter-filter p q [] = refl
filter-filter {X} p q (x ∷ xs) =
    filter-cond p x (filter q xs) (q x) ∙ ap (λ (ys : List X). cond (q x && p x) (x ∷ ys) ys) (filter-filter p q xs)

-- the destination is not among those
is_new : List DestId → DestId → Bool
is_new ids other = not (has_id ids other)

is_other : DestId → DestId → Bool
is_other id other = not (same_id id other)

either : (a b : Bool) → not (a || (b || false)) ≡ (not b && not a)
either true true = refl
either true false = refl
either false true = refl
either false false = refl

is_new-push : (ids : List DestId) (id other : DestId) → is_new (ids ++ id ∷ []) other ≡ (is_other id other && is_new ids other)
unfolding is_new is_other
is_new-push ids id other =
    ap not (list_any-append (λ (it : DestId). same_id it other) ids (id ∷ [])) ∙ either (has_id ids other) (same_id id other)

same_have : (ids : List DestId) (id other : DestId) → same_id id other ≡ true → has_id ids id ≡ has_id ids other
same_have ids id other same = ap (λ n. list_any (λ (it : DestId). it.0 == n) ids) (eqb-true id.0 other.0 same)

covered : (a b : Bool) → (a ≡ true → b ≡ true) → not b ≡ (not a && not b)
covered true true h = refl
covered true false h = sym (h refl)
covered false true h = refl
covered false false h = refl

is_new-seen : (ids : List DestId) (id other : DestId) → has_id ids id ≡ true → is_new ids other ≡ (is_other id other && is_new ids other)
unfolding is_new is_other
is_new-seen ids id other seen = covered (same_id id other) (has_id ids other) (λ same. sym (same_have ids id other same) ∙ seen)

-- one mention more, of a destination that is in the list or is not
next : (ids more : List DestId) (id : DestId) (has : Bool) → has_id ids id ≡ has →
    cond has ids (ids ++ id ∷ []) ++ filter (is_new (cond has ids (ids ++ id ∷ []))) more
    ≡ ids ++ cond (not has) (id ∷ filter (is_new ids) (filter (is_other id) more)) (filter (is_new ids) (filter (is_other id) more))
next ids more id true is =
    ap (λ (xs : List DestId). ids ++ xs)
    (filter_agree (is_new ids) _ (λ other. is_new-seen ids id other is) more ∙ sym (filter-filter (is_new ids) (is_other id) more))
next ids more id false is =
    append_assoc ids (id ∷ []) _
    ∙ ap (λ (xs : List DestId). ids ++ id ∷ xs)
    (filter_agree (is_new (ids ++ id ∷ [])) _ (λ other. is_new-push ids id other) more ∙ sym (filter-filter (is_new ids) (is_other id) more))

with_more-is : (ids more : List DestId) → with_more ids more ≡ ids ++ filter (is_new ids) (first_mentions more)
unfolding is_new is_other
with_more-is ids [] = sym (append-nil ids)
with_more-is ids (id ∷ more) =
    with_more-is (cond (has_id ids id) ids (ids ++ id ∷ [])) more ∙ next ids (first_mentions more) id (has_id ids id) refl

filter_all : (xs : List DestId) → filter (is_new []) xs ≡ xs
unfolding is_new
filter_all [] = refl
filter_all (x ∷ xs) = ap (λ (ys : List DestId). x ∷ ys) (filter_all xs)

-- from nothing on, these are the first mentions
pub with_more-nil : (more : List DestId) → with_more [] more ≡ first_mentions more
with_more-nil more = with_more-is [] more ∙ filter_all (first_mentions more)
