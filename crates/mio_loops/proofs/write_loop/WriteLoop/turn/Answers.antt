use Rattle.std.proofs.Common.{◌≡◌, ◌≤◌, ◌++◌, ◌∙◌, ℕ, length, take, drop, ap, sym, subst}
use Rattle.queue_records.specs.Takes.{IsHandedBy}
use Rattle.mio_loops.proofs.WriteLoopLemmas.{refilled, sound-turned, up-now, turn-as}
use Rattle.mio_loops.proofs.write_loop.WriteLoop.turn.Goals as goal

pub take_turns-requires-clause-few : goal.take_turns-requires-clause-few
take_turns-requires-clause-few g c = subst (λ (n : ℕ). n ≤ 64) (ap length (sym c.deref_mut.ensures.value)) c.self.invariant.0

pub take_turns-requires-clause-owned : goal.take_turns-requires-clause-owned
take_turns-requires-clause-owned g c =
    λ dest up. c.requires.owned dest (up-now c.deref_mut.result.now c.args.self.now dest (c.deref_mut.ensures.value ∙ c.self.view_is) up)

pub invariant_of-self : goal.invariant_of-self
invariant_of-self g c =
    let inside = c.self.inside in
    let news = c.take_turns.new.destinations in
    let items = inside.destinations.items in
    let count : length news ≡ length items = c.take_turns.auto.destinations ∙ ap length c.deref_mut.ensures.value in
    let all = inside.destinations.ok.0 ∙ sym count in
    let after = take inside.destinations.len (news ++ drop (length news) items) in
    sound-turned items after inside.logs.items inside.logs.cap (ap length (refilled inside.destinations.len news (drop (length news) items) all) ∙ count) c.self.invariant

pub returns-clause-turn : goal.returns-clause-turn
returns-clause-turn g c =
    let inside = c.self.inside in
    let news = c.take_turns.new.destinations in
    let items = inside.destinations.items in
    let count : length news ≡ length items = c.take_turns.auto.destinations ∙ ap length c.deref_mut.ensures.value in
    let all = inside.destinations.ok.0 ∙ sym count in
    let t = c.take_turns.ensures.turn in (
      t.0,
      turn-as g.W.Write.contents (IsHandedBy g.S.Supply.record_of g.S.Supply.may_hand) _ t.0 c.deref_mut.result.now news c.args.self.now _ _ _
          (c.deref_mut.ensures.value ∙ c.self.view_is) (refilled inside.destinations.len news (drop (length news) items) all) t.1,
      t.2,
    )

pub returns-clause-dests : goal.returns-clause-dests
returns-clause-dests g c =
    let inside = c.self.inside in
    let news = c.take_turns.new.destinations in
    let items = inside.destinations.items in
    let count : length news ≡ length items = c.take_turns.auto.destinations ∙ ap length c.deref_mut.ensures.value in
    ap length (refilled inside.destinations.len news (drop (length news) items) (inside.destinations.ok.0 ∙ sym count)) ∙ count ∙ ap length c.self.view_is

pub returns-clause-ups : goal.returns-clause-ups
returns-clause-ups g c =
    let inside = c.self.inside in
    let news = c.take_turns.new.destinations in
    let items = inside.destinations.items in
    let count : length news ≡ length items = c.take_turns.auto.destinations ∙ ap length c.deref_mut.ensures.value in
    let after = take inside.destinations.len (news ++ drop (length news) items) in
    let same = refilled inside.destinations.len news (drop (length news) items) (inside.destinations.ok.0 ∙ sym count) in
    λ dest up. up-now c.deref_mut.result.now c.args.self.now dest (c.deref_mut.ensures.value ∙ c.self.view_is) (c.take_turns.ensures.ups dest (up-now after news dest same up))

pub returns-clause-owners : goal.returns-clause-owners
returns-clause-owners g c = c.take_turns.ensures.owners
