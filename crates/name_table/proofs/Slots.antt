-- Slots, and the entries that they hold.
use Rattle.std.proofs.Common.{◌≡◌, ℕ, ◌<◌, List, [], ◌∷◌, ◌++◌, length, get_or, set, Option, Some, None, IfSome, refl, sym, ap, ◌∙◌, subst, inl, inr}
use Rattle.std.proofs.lemmas.List.Elements.{All-nil, All-cons, All-push, All-head, All-tail, All-set, All-weaker, All-get_or, All-contains_itself}
use Rattle.std.specs.Prelude.{◌⊎◌, Contains}
use Rattle.std.specs.List.{All}
use Rattle.name_table.specs.NameTable.{entries_in, Keeps}

module _ {E : Type 0} where
  module _ (P : E → Type 0) where
    abbrev OnEntry : Option E → Type 0
    OnEntry slot = IfSome slot P

    -- what holds for each entry holds in each slot
    pub All-slots : (slots : List (Option E)) → All P (entries_in slots) → All OnEntry slots
    All-slots [] all = All-nil OnEntry
    All-slots (None ∷ slots) all = All-cons OnEntry None slots tt (All-slots slots all)
    All-slots (Some e ∷ slots) all =
        All-cons OnEntry (Some e) slots (All-head P e (entries_in slots) all) (All-slots slots (All-tail P e (entries_in slots) all))

    -- and the reverse
    pub All-entries : (slots : List (Option E)) → All OnEntry slots → All P (entries_in slots)
    All-entries [] all = All-nil P
    All-entries (None ∷ slots) all = All-entries slots (All-tail OnEntry None slots all)
    All-entries (Some e ∷ slots) all =
        All-cons P e (entries_in slots) (All-head OnEntry (Some e) slots all) (All-entries slots (All-tail OnEntry (Some e) slots all))

  -- what a slot holds is an entry
  pub contains_slot : (slots : List (Option E)) (i : ℕ) (d : Option E) → i < length slots → IfSome (get_or slots i d) (Contains (entries_in slots))
  contains_slot slots i d within =
      All-get_or (OnEntry (Contains (entries_in slots))) slots i d within (All-slots (Contains (entries_in slots)) slots (All-contains_itself (entries_in slots)))

  pub keeps_same : (entries : List E) (e : E) → Keeps entries e entries
  keeps_same entries e = All-weaker (Contains entries) (λ (f : E). Contains entries f ⊎ (f ≡ e)) (λ f old. inl old) entries (All-contains_itself entries)

  -- an entry that is put into a slot is the only one that may be new
  pub keeps_set : (slots : List (Option E)) (i : ℕ) (e : E) → Keeps (entries_in slots) e (entries_in (set slots i (Some e)))
  keeps_set slots i e =
      let Kept : E → Type 0 = λ f. Contains (entries_in slots) f ⊎ (f ≡ e) in
      All-entries Kept (set slots i (Some e)) (All-set (OnEntry Kept) slots i (Some e) (inr refl) (All-slots Kept slots (keeps_same (entries_in slots) e)))

  abbrev AreFree : List (Option E) → Type 0
  AreFree slots = All (λ (slot : Option E). slot ≡ None) slots

  pub none_free : (slots : List (Option E)) → slots ≡ [] → AreFree slots
  none_free slots none = subst (λ (l : List (Option E)). AreFree l) (sym none) (All-nil (λ (slot : Option E). slot ≡ None))

  pub one_more_free : (slots more : List (Option E)) → more ≡ slots ++ None ∷ [] → AreFree slots → AreFree more
  one_more_free slots more pushed free =
      subst (λ (l : List (Option E)). AreFree l) (sym pushed) (All-push (λ (slot : Option E). slot ≡ None) slots None free refl)

  -- free slots hold none
  pub entries_free : (slots : List (Option E)) → All (λ (slot : Option E). slot ≡ None) slots → entries_in slots ≡ []
  entries_free [] free = refl
  entries_free (slot ∷ slots) free = rw (All-head (λ (s : Option E). s ≡ None) slot slots free) (entries_free slots (All-tail (λ (s : Option E). s ≡ None) slot slots free))

  -- what was read in a slot is an entry
  pub contains_at : (slots items : List (Option E)) (i : ℕ) (o : Option E) (e : E)
      → items ≡ slots → i < length items → o ≡ get_or items i o → Some e ≡ o → Contains (entries_in slots) e
  contains_at slots items i o e same within at is =
      subst (λ (s : Option E). IfSome s (Contains (entries_in slots))) (sym (is ∙ at ∙ ap (λ (l : List (Option E)). get_or l i o) same))
      (contains_slot slots i o (subst (λ (l : List (Option E)). i < length l) same within))
