use Rattle.std.proofs.Common.{◌≡◌, suc, ◌+◌, ◌-◌, ◌≤◌, true, length, sym, ◌∙◌, arith}
use Rattle.hash_ring.specs.Entry.{is_taken}
use Rattle.hash_ring.proofs.PlaceLemmas.{IsRun, run_more, run_is_short, free_further}
use Rattle.hash_ring.proofs.entries.RingEntries.free_place.Goals as goal

-- this position is taken too
taken_here : (c : goal.In-loop-self) → is_taken c.self.inside.entries.items c.loop-self.free ≡ true
taken_here c = sym (c.self.invariant.0 c.loop-self.free) ∙ sym c.contains.ensures ∙ c.loop-self-test.true

longer_run : (c : goal.In-loop-self) → IsRun c.self.inside.entries.items c.args.wanted (c.loop-self.free + 1)
longer_run c = run_more _ _ _ c.loop-self.invariant.run (taken_here c)

still_short : (c : goal.In-loop-self) → c.loop-self.free + 1 ≤ c.args.wanted + length c.self.inside.entries.items
still_short c = run_is_short _ _ _ (omega arith) (longer_run c)

pub loop-self-smaller : goal.loop-self-smaller
loop-self-smaller c = let short = still_short c in omega arith

pub loop-self-preserved : goal.loop-self-preserved
loop-self-preserved c =
    let short = still_short c in
    let es = c.self.inside.entries.items in
    let left = c.args.wanted + length es in
    let one_less : left - c.loop-self.free ≡ suc (left - (c.loop-self.free + 1)) = omega arith in
    record {
      from = omega arith;
      run = longer_run c;
      within = short;
      search = sym (free_further es c.loop-self.free _ _ (taken_here c) one_less) ∙ c.loop-self.invariant.search;
    }
