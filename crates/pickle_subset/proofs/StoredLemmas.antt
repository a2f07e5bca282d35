-- The memo of a reader holds what Python has stored.
use Rattle.std.proofs.Common.{◌≡◌, ℕ, suc, ◌+◌, ◌<◌, ◌≤◌, ◌⊎◌, inl, inr, Bool, true, false, cond, List, [], ◌∷◌, length, Option, Some, None, is_some, refl, sym, ap, ◌∙◌, arith}
use Rattle.std.specs.Prelude.{◌==◌}
use Rattle.std.specs.Ordering.{nat_cmp}
use Rattle.std.specs.Cmp.{nat_cmp_total, unsigned_tied}
use Rattle.std.specs.FinMap as fin
use Rattle.std.specs.FinMap.{FinMap, get-insert, get-empty, len-insert, len-empty}
use Rattle.std.proofs.lemmas.Bool.{eqb-true, eq-eqb}
use Rattle.pickle_subset.specs.Value.{Item}
use Rattle.pickle_subset.specs.Python.{Objects, number_of}

abbrev pub Memo : Type 0
Memo = FinMap nat_cmp Item

pub record Holds (objects : Objects) (stored : List ℕ) (memo : Memo) : Type 0 where
  pub size : fin.len memo ≡ length stored
  pub none : (n : ℕ) → length stored ≤ n → fin.get memo n ≡ None
  pub each : (id n : ℕ) → number_of id stored ≡ Some n → fin.get memo n ≡ Some (objects id)

pub Holds-nothing : (objects : Objects) → Holds objects [] fin.empty
Holds-nothing objects = record {
  size = len-empty nat_cmp Item;
  none = λ n above. get-empty nat_cmp n;
  each = λ id n is. absurd cc;
}

below_all : (id n : ℕ) (before : List ℕ) (b : Bool) → (number_of id before ≡ Some n → n < length before) → cond b (Some (length before)) (number_of id before) ≡ Some n → n < suc (length before)
below_all id n before true less e = let same : length before ≡ n = cc in omega arith
below_all id n before false less e = let under = less e in omega arith

pub number_of-below : (id n : ℕ) (stored : List ℕ) → number_of id stored ≡ Some n → n < length stored
number_of-below id n [] is = absurd cc
number_of-below id n (last ∷ before) is = below_all id n before (id == last) (λ e. number_of-below id n before e) is

differ : (a b : ℕ) (t : Bool) → (a == b) ≡ t → a < b ⊎ b < a → t ≡ false
differ a b true e (inl less) = let same : a ≡ b = eqb-true a b e in absurd (omega arith)
differ a b true e (inr more) = let same : a ≡ b = eqb-true a b e in absurd (omega arith)
differ a b false e apart = refl

pub Holds-stored : (objects : Objects) (stored : List ℕ) (memo : Memo) (id : ℕ) (item : Item) → objects id ≡ item → Holds objects stored memo
    → Holds objects (id ∷ stored) (fin.insert memo (length stored) item)
Holds-stored objects stored memo id item is h = record {
  size =
      len-insert nat_cmp_total memo (length stored) item
      ∙ ap (λ (found : Option Item). cond (is_some found) (fin.len memo) (fin.len memo + 1)) (h.none (length stored) (omega arith))
      ∙ ap (λ (n : ℕ). n + 1) h.size
      ∙ one_more (length stored);
  none = λ n above.
      let apart : (n == length stored) ≡ false = differ n (length stored) (n == length stored) refl (inr (omega arith)) in
      get-insert nat_cmp_total memo (length stored) item n
      ∙ ap (λ (b : Bool). cond b (Some item) (fin.get memo n)) (unsigned_tied n (length stored) ∙ apart)
      ∙ h.none n (omega arith);
  each = λ other n found. first other n (other == id) refl found;
}
  where
    one_more : (n : ℕ) → n + 1 ≡ suc n
    one_more n = omega arith

    before : (other n : ℕ) → number_of other stored ≡ Some n → fin.get (fin.insert memo (length stored) item) n ≡ Some (objects other)
    before other n found =
        let less = number_of-below other n stored found in
        get-insert nat_cmp_total memo (length stored) item n
        ∙ ap (λ (b : Bool). cond b (Some item) (fin.get memo n)) (unsigned_tied n (length stored) ∙ differ n (length stored) (n == length stored) refl (inl less))
        ∙ h.each other n found

    first : (other n : ℕ) (t : Bool) → (other == id) ≡ t → cond t (Some (length stored)) (number_of other stored) ≡ Some n
        → fin.get (fin.insert memo (length stored) item) n ≡ Some (objects other)
    first other n true e found =
        let at : length stored ≡ n = cc in
        let same : other ≡ id = eqb-true other id e in
        let here : (n == length stored) ≡ true = eq-eqb n (length stored) (sym at) in
        get-insert nat_cmp_total memo (length stored) item n
        ∙ ap (λ (b : Bool). cond b (Some item) (fin.get memo n)) (unsigned_tied n (length stored) ∙ here)
        ∙ sym (ap Some (ap objects same ∙ is))
    first other n false e found = before other n found
