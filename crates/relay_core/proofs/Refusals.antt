-- Calls that are refused: for an offer that is next and can be counted, memory alone.
use Rattle.std.proofs.Common.{◌≡◌, ◌<◌, ◌≤◌, ℕ, List, length, Ok, Err, refl, ap, ◌∙◌, arith}
use Rattle.std.proofs.lemmas.List.{set-get_or}
use Rattle.std.specs.Prelude.{Result, IsErrOf, OnErr, slice_index, slice_index_or, slice_set}
use Rattle.dest_queue.specs.Queue.{Queue}
use Rattle.dest_queue.specs.Offer.{IsOutOfTurn, IsExhausted, last_count}
use Rattle.dest_queue.specs.declared.offer.Kept.{Kept}
use Rattle.dest_queue.specs.declared.offer.OfferFault.{OfferFault}
use Rattle.dest_queue.specs.declared.offer.OfferFault.TheVariants.{NoSuchReader, OutOfTurn, Exhausted, NoMemory}

-- what holds anyway holds at a refusal
pub on_err : {T E : Type 0} (r : Result T E) (P : Type 0) → P → OnErr r P
on_err (Ok x) P p = tt
on_err (Err e) P p = p

-- an item that stayed the same, put back, changes nothing
pub put_back : {X : Type 0} (xs : List X) (i : ℕ) (old new d : X) → new ≡ old → old ≡ slice_index_or xs i d → slice_set xs i new ≡ xs
put_back {X} xs i old new d same is = ap (λ (x : X). slice_set xs i x) (same ∙ is) ∙ set-get_or xs i d

-- only out of memory refuses it
pub only_memory : (q : Queue) (reader number : ℕ) (answer : Result Kept OfferFault) (fault : OfferFault) → answer ≡ Err fault
    → reader < length q.next → number ≡ slice_index q.next reader → q.offered < last_count
    → (IsErrOf answer NoSuchReader → length q.next ≤ reader)
    → ((expected : ℕ) → IsErrOf answer (OutOfTurn expected) → IsOutOfTurn q reader number expected)
    → (IsErrOf answer Exhausted → IsExhausted q reader number)
    → fault ≡ NoMemory
only_memory q reader number answer NoSuchReader e there next few none turn spent = let past = none e in absurd (omega (arith, there, past))
only_memory q reader number answer (OutOfTurn expected) e there next few none turn spent = let t = turn expected e in absurd (t.2 (rw (t.1) next))
only_memory q reader number answer Exhausted e there next few none turn spent = let x = (spent e).1 in absurd (omega (arith, few, x))
only_memory q reader number answer NoMemory e there next few none turn spent = refl
