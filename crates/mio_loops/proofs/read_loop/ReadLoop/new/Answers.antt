use Rattle.std.proofs.Common.{ℕ, List, Bool, false, length, get_or, is_some, ap, sym, ◌∙◌, arith}
use Rattle.std.proofs.lemmas.Bool.{false≢true}
use Rattle.mio_loops.proofs.LoopLemmas.{none-held, none-some, flags-none, count_of_same}
use Rattle.mio_loops.proofs.read_loop.ReadLoop.new.Goals as goal

pub invariant_of-result : goal.invariant_of-result
invariant_of-result g c =
    let sources = c.in_ok-sources.sources in
    let none = c.in_ok-sources.ensures.empty in
    let few = c.requires.receiver in
    record {
      readers = c.in_ok-readers.ensures.count;
      flags = ap length (c.in_ok-again.ensures.items_if_clones_equal (λ y is. is)) ∙ count_of_same 1024 false;
      one_read = ap length (c.in_ok-buffer.ensures.items_if_clones_equal (λ y is. is)) ∙ count_of_same {A = ℕ} 4096 0;
      first = omega (arith, few);
      room = c.in_ok-sources.ensures.capacity;
      tokens = λ token held. absurd (false≢true (sym (ap is_some (none-held sources token none)) ∙ held));
      all_open = λ token reader found. (c.in_ok-readers.ensures.fresh token reader found).begins;
      none_forgotten = λ token source held free. absurd (none-some source (sym (none-held sources token none) ∙ held));
    }

pub returns-clause-readers : goal.returns-clause-readers
returns-clause-readers g c = (c.in_ok-readers.ensures.count, λ token reader found plan. (c.in_ok-readers.ensures.fresh token reader found).represents plan)

pub returns-clause-listed : goal.returns-clause-listed
returns-clause-listed g c = λ token. ap (λ (flags : List Bool). get_or flags token false) (c.in_ok-again.ensures.items_if_clones_equal (λ y is. is)) ∙ flags-none 1024 token
