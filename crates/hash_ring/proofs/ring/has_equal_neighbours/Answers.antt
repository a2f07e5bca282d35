use Rattle.std.proofs.Common.{◌≡◌, ◌≢◌, ℕ, suc, ◌-◌, get_or, sym, subst, arith, add-one}
use Rattle.hash_ring.specs.Entry.{Entry, place_of}
use Rattle.hash_ring.proofs.SortedLemmas.{shared_from_neighbours, apart_from_neighbours}
use Rattle.hash_ring.proofs.ring.has_equal_neighbours.Goals as goal

pub returns-then-entries-i : goal.returns-then-entries-i
returns-then-entries-i c =
    let es = c.args.entries.now in
    let d : Entry = (0, record { 0 = 0 }) in
    let k = c.loop-i.i - 1 in
    let next : c.loop-i.i ≡ suc k = omega arith in
    let same : place_of (get_or es k d) ≡ place_of (get_or es (suc k) d) = subst (λ (n : ℕ). place_of (get_or es k d) ≡ place_of (get_or es n d)) next c.if-entries-i.true in
    sym (shared_from_neighbours es k d (omega arith) same)

pub returns : goal.returns
returns c =
    let es = c.args.entries.now in
    sym (apart_from_neighbours es c.requires (λ k d within. subst (λ (n : ℕ). place_of (get_or es k d) ≢ place_of (get_or es n d)) (add-one k) (c.loop-i.invariant k d (omega arith))))
