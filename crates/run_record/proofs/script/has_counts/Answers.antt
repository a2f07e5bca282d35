use Rattle.std.proofs.Common.{◌≡◌, ◌<◌, ◌+◌, ℕ, Bool, true, false, List, Some, ltb, refl, sym, ◌∙◌, subst, slice_get, get_or, ◌&&◌, eqb, not, arith}
use Rattle.std.proofs.lemmas.Bool.Decides.{nat_tests}
use Rattle.std.proofs.lemmas.Option.{slice_get_within, get_or_from_slice_get}
use Rattle.dest_queue.specs.Counts.{counts_of}
use Rattle.dest_queue.specs.declared.counts.Counts.{Counts}
use Rattle.reader_core.specs.Kinds.{relay_reading}
use Rattle.relay_core.specs.Relay.{run_of}
use Rattle.relay_core.specs.Run.{Run, dest_in}
use Rattle.run_record.proofs.script.has_counts.Goals as goal

-- the queues of a run before this one have the counts
abbrev HasBefore : List Counts → ℕ → Run → Type 0
HasBefore counts n run = (d : ℕ) (c : Counts) → d < n → slice_get counts d ≡ Some c → c ≡ counts_of (dest_in relay_reading run d).queue

has_one_more : (counts : List Counts) (n : ℕ) (x : Counts) (run : Run) → HasBefore counts n run → x ≡ counts_of (dest_in relay_reading run n).queue
    → ((c : Counts) → slice_get counts n ≡ Some c → c ≡ x) → HasBefore counts (n + 1) run
has_one_more counts n x run before here same = λ d c below got.
    let P : Bool → Type 0 = λ b. ltb d n ≡ b → c ≡ counts_of (dest_in relay_reading run d).queue in
    let each : (b : Bool) → P b = λ b. elim b as P [
      | true ↦ λ test. before d c (grind (arith, nat_tests)) got
      | false ↦ λ test.
          let is : d ≡ n = grind (arith, nat_tests) in
          subst (λ (k : ℕ). c ≡ counts_of (dest_in relay_reading run k).queue) (sym is) (same c (subst (λ (k : ℕ). slice_get counts k ≡ Some c) is got) ∙ here)
    ] in
    each (ltb d n) refl

-- counts that are equal field by field
equal : (a b : Counts) → not (eqb a.offered b.offered && (eqb a.kept b.kept && (eqb a.dropped b.dropped && (eqb a.taken b.taken && (eqb a.queued b.queued && eqb a.seals b.seals))))) ≡ false → a ≡ b
equal a b test =
    let offered : a.offered ≡ b.offered = grind (arith, nat_tests) in
    let kept : a.kept ≡ b.kept = grind (arith, nat_tests) in
    let dropped : a.dropped ≡ b.dropped = grind (arith, nat_tests) in
    let taken : a.taken ≡ b.taken = grind (arith, nat_tests) in
    let queued : a.queued ≡ b.queued = grind (arith, nat_tests) in
    let seals : a.seals ≡ b.seals = grind (arith, nat_tests) in
    rw (offered, kept, dropped, taken, queued, seals) refl

-- what a list has beyond its end
abbrev none : Counts
none = record { offered = 0; kept = 0; dropped = 0; taken = 0; queued = 0; seals = 0 }

pub loop-dest-preserved : goal.loop-dest-preserved
loop-dest-preserved c =
    λ size limit kinds events represents. has_one_more c.args.counts.now c.loop-dest.dest c.counts.result (run_of c.args.world.now.plan size limit kinds events) (c.loop-dest.invariant size limit kinds events represents) (c.counts.ensures size limit kinds events represents)
    (λ x got. sym (get_or_from_slice_get c.args.counts.now c.loop-dest.dest x none got) ∙ sym (equal c.counts.result (get_or c.args.counts.now c.loop-dest.dest none) (sym c.ne.ensures ∙ c.if-ne.false)))

pub returns : goal.returns
returns c = λ true size limit kinds events represents d x got. c.loop-dest.invariant size limit kinds events represents d x (omega (arith, c.loop-dest-test.false, slice_get_within c.args.counts.now d x got)) got
