-- What a caller's proof cites.
use Rattle.std.proofs.Common.{ℕ, List, subst, sym, inl, inr}
use Rattle.std.proofs.lemmas.List.Elements.{All-weaker, All-contains}
use Rattle.std.specs.Prelude.{◌≡◌, ◌⊎◌, Contains}
use Rattle.std.specs.List.{All}
use Rattle.name_table.specs.NameTable.{IsFound, Keeps}

module _ {V : Type 0} (law : List ℕ × V → Type 0) where
  -- a law that holds for each entry, and for a new one, holds for each entry afterwards
  pub All-keeps : (before : List (List ℕ × V)) (entry : List ℕ × V) (after : List (List ℕ × V))
      → Keeps before entry after → All law before → law entry → All law after
  All-keeps before entry after keeps all one = All-weaker (λ (e : List ℕ × V). Contains before e ⊎ (e ≡ entry)) law (λ e. elim [
    | inl old ↦ All-contains law before e all old
    | inr same ↦ subst law (sym same) one
  ]) after keeps

  -- it holds for what is found
  pub law-found : (entries : List (List ℕ × V)) (text : List ℕ) (entry : List ℕ × V) → IsFound entries text entry → All law entries → law entry
  law-found entries text entry found all = All-contains law entries entry all found.held
