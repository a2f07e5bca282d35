-- Lists of names, each with its route.
use Rattle.std.proofs.Common.{◌≡◌, ℕ, Bool, true, false, List, [], ◌∷◌, Some, is_some, slice_get, nat_eq, refl, sym, ap, subst, inl, inr}
use Rattle.std.proofs.lemmas.List.Elements.{All-weaker, All-contains, All-contains_itself, All-head}
use Rattle.std.specs.Prelude.{◌⊎◌, Contains, Result, Ok, Err, OnOk, OnErr}
use Rattle.std.specs.List.{All}
use Rattle.std.specs.Map.{lookup, lookup_entry}
use Rattle.std.specs.Cmp.Lexicographic.{pointwise, bytes_decides}
use Rattle.lru.specs.LruCache.{LruCache, lru_cache, promoted, put_entries}
use Rattle.lru.proofs.CallerLemmas.{Contains-promoted, Contains-lookup_entry, Contains-put_entries, IsPut}
use Rattle.name_table.specs.NameTable.{Keeps}

-- a law of each entry holds for entries that are all among them
pub law_among : {E : Type 0} (law : E → Type 0) (before after : List E) → All (Contains before) after → All law before → All law after
law_among law before after among all = All-weaker (Contains before) law (λ e old. All-contains law before e all old) after among

-- and for the first one
pub law_first : {E : Type 0} (law : E → Type 0) (entries : List E) (e : E) → slice_get entries 0 ≡ Some e → All law entries → law e
law_first law [] e first all = cc
law_first law (f ∷ entries) e first all =
    let same : f ≡ e = cc in subst law same (All-head law f entries all)

pub same_name : (a b : List ℕ) → pointwise nat_eq a b ≡ true → b ≡ a
same_name a b is = sym ((bytes_decides a b).0 is)

module _ {V : Type 0} where
  -- an entry that is made the most recent one was there
  pub promoted_among : (test : List ℕ → Bool) (entries : List (List ℕ × V)) → All (Contains entries) (promoted test entries)
  promoted_among test entries =
      All-weaker (Contains (promoted test entries)) (Contains entries) (Contains-promoted test entries) (promoted test entries) (All-contains_itself (promoted test entries))

  is_there : (test : List ℕ → Bool) (entries : List (List ℕ × V)) → is_some (lookup test entries) ≡ true → (e : List ℕ × V) × (lookup_entry test entries ≡ Some e)
  is_there test [] is = cc
  is_there test (f ∷ entries) is = (elim (test f.0) as (λ y. test f.0 ≡ y → (e : List ℕ × V) × (lookup_entry test (f ∷ entries) ≡ Some e)) [
    | true ↦ λ t. (f, rw t refl)
    | false ↦ λ t. let rest = is_there test entries (rw t at is) in (rest.0, rw t rest.1)
  ]) refl

  -- it is the first one then
  pub promoted_first : (name : List ℕ) (entries : List (List ℕ × V)) → is_some (lookup (pointwise nat_eq name) entries) ≡ true
      → (value : V) × (slice_get (promoted (pointwise nat_eq name) entries) 0 ≡ Some (name, value))
  promoted_first name entries is =
      let found = is_there (pointwise nat_eq name) entries is in
      let passes = (Contains-lookup_entry (pointwise nat_eq name) entries found.0 found.1).1 in
      (found.0.1, rw found.1 (ap (λ (n : List ℕ). Some (n, found.0.1)) (same_name name found.0.0 passes)))

  pub keeps_same : (entries : List (List ℕ × V)) (e : List ℕ × V) → Keeps entries e entries
  keeps_same entries e = All-weaker (Contains entries) (λ (f : List ℕ × V). Contains entries f ⊎ (f ≡ e)) (λ f old. inl old) entries (All-contains_itself entries)

  the_put : (cache : LruCache (List ℕ) V) (name : List ℕ) (value : V) (e : List ℕ × V) → IsPut (pointwise nat_eq) cache name value e → e ≡ (name, value)
  the_put cache name value e put =
      let named : e.0 ≡ name = elim put.1 [
        | inl same ↦ same
        | inr was ↦ same_name name e.0 was.2
      ] in λ i. (named i, put.0 i)

  -- what is put is the only entry that may be new
  put_keeps : (cache : LruCache (List ℕ) V) (name : List ℕ) (value : V) → Keeps cache.entries (name, value) (put_entries (pointwise nat_eq) cache name value)
  put_keeps cache name value =
      let after = put_entries (pointwise nat_eq) cache name value in
      All-weaker (Contains after) (λ (e : List ℕ × V). Contains cache.entries e ⊎ (e ≡ (name, value))) (λ e held. elim (Contains-put_entries (pointwise nat_eq) cache name value e held) [
        | inl old ↦ inl old
        | inr put ↦ inr (the_put cache name value e put)
      ]) after (All-contains_itself after)

  -- and if it is refused, nothing is new
  pub put_done : {A B : Type 0} (old new : LruCache (List ℕ) V) (name : List ℕ) (value : V) (r : Result A B)
      → OnOk r (new ≡ lru_cache (put_entries (pointwise nat_eq) old name value) old.cap) → OnErr r (new ≡ old) → Keeps old.entries (name, value) new.entries
  put_done old new name value (Ok x) ok err = rw ok (put_keeps old name value)
  put_done old new name value (Err x) ok err = rw err (keeps_same old.entries (name, value))
