use Rattle.std.proofs.Common.{◌≡◌, ◌<◌, ℕ, length, Option, Some, None, is_some, refl, sym, ap, subst, ◌∙◌, true, false}
use Rattle.std.proofs.lemmas.Bool.{false≢true}
use Rattle.std.proofs.lemmas.List.{get_or-set_same}
use Rattle.std.proofs.lemmas.Option.{slice_get_read}
use Rattle.std.specs.Option.{option_copied_mut}
use Rattle.slab.specs.Slab.{get, with_value}
use Rattle.slab.proofs.SlabLemmas.{Updates-with_value}
use Rattle.dest_writer.specs.Counting.{counts_of}
use Rattle.dest_writer.specs.declared.counting.Counting.{Counting}
use Rattle.mio_loops.specs.LoopState.{LoopState, is_held, would_block}
use Rattle.queue_records.specs.Offers.{IsRefusedBy}
use Rattle.mio_loops.proofs.LoopLemmas.{held_back-set, served-there, others-there, sound-served, Updates-again, after-stays, after-leaves, same, none-some}
use Rattle.mio_loops.proofs.ServingLemmas.{again-where-unblocked}
use Rattle.mio_loops.proofs.read_loop.ReadLoop.serve_one.Goals as goal

unreachable-here : {A : Type 0} (at : Option A) → at ≡ None → is_some at ≡ true → ⊥
unreachable-here at none held = false≢true (ap is_some (sym none) ∙ held)

pub unreachable-requires : goal.unreachable-requires
unreachable-requires g c =
    let held : is_some (get c.self.inside.sources c.args.token.0) ≡ true = subst (λ (l : LoopState g.row.S.Denot). is_held l c.args.token.0 ≡ true) (sym c.self.view_is) c.requires.held in
    unreachable-here (get c.self.inside.sources c.args.token.0) (sym c.get_mut.ensures.value ∙ ap option_copied_mut c.in_default.is) held

pub index_mut-reader-requires : goal.index_mut-reader-requires
index_mut-reader-requires g c =
    let inside = c.self.inside in
    let held : get inside.sources c.args.token.0 ≡ Some c.in-Some.source.now = sym c.in-Some.ensures.value in
    subst (λ (n : ℕ). c.args.token.0 < n) (sym (inside.readers.ok.0 ∙ c.self.invariant.readers)) (c.self.invariant.tokens c.args.token.0 (ap is_some held))

pub serve-served-requires-clause-room : goal.serve-served-requires-clause-room
serve-served-requires-clause-room g c = c.self.invariant.one_read

pub serve-served-requires-clause-open : goal.serve-served-requires-clause-open
serve-served-requires-clause-open g c =
    let inside = c.self.inside in
    let t = c.args.token.0 in
    let held : get inside.sources t ≡ Some c.in-Some.source.now = sym c.in-Some.ensures.value in
    let within : t < length inside.readers.items = subst (λ (n : ℕ). t < n) (sym c.self.invariant.readers) (c.self.invariant.tokens t (ap is_some held)) in
    c.self.invariant.all_open t c.index_mut-reader.result.now (slice_get_read inside.readers.items (length inside.readers.items) t c.index_mut-reader.result.now refl within c.index_mut-reader.ensures.value)

pub serve-served-requires-clause-dests : goal.serve-served-requires-clause-dests
serve-served-requires-clause-dests g c = c.requires.dests

pub index_mut-requires : goal.index_mut-requires
index_mut-requires g c =
    let inside = c.self.inside in
    let held : get inside.sources c.args.token.0 ≡ Some c.in-Some.source.now = sym c.in-Some.ensures.value in
    subst (λ (n : ℕ). c.args.token.0 < n) (sym (inside.again.ok.0 ∙ c.self.invariant.flags)) (c.self.invariant.tokens c.args.token.0 (ap is_some held))

-- ---- the connection stays

pub invariant_of-self : goal.invariant_of-self
invariant_of-self g c =
    let inside = c.self.inside in
    let t = c.args.token.0 in
    let new = c.serve-served.new in
    let held : get inside.sources t ≡ Some c.in-Some.source.now = sym c.in-Some.ensures.value in
    let put = Updates-with_value inside.sources t new.source (ap is_some held) in
    sound-served _ _ _ t _ (Some new.source) new.reader c.is_again.result new.room.log c.self.invariant put refl (c.self.invariant.tokens t (ap is_some held)) c.serve-served.ensures.open
    (λ last is free. c.is_again.ensures ∙ again-where-unblocked c.serve-served.result (counts_of new.source).last (sym c.stays.ensures ∙ c.if-stays.true) c.serve-served.ensures.went.3.outcome
    (subst (λ (s : Counting g.row.S.Denot). would_block (counts_of s).last ≡ false) (sym (same new.source last is)) free))
    c.serve-served.ensures.room

pub returns-then-stays-clause-went : goal.returns-then-stays-clause-went
returns-then-stays-clause-went g c =
    let inside = c.self.inside in
    let t = c.args.token.0 in
    let new = c.serve-served.new in
    let held : get inside.sources t ≡ Some c.in-Some.source.now = sym c.in-Some.ensures.value in
    let w = c.serve-served.ensures.went in
    served-there c.args.plan.now g.S.Read.remaining c.args.moment _ _ _ t c.serve-served.result w.0 w.1 c.in-Some.source.now new.source _ c.index_mut-reader.result.now new.reader _ _ c.is_again.result new.room.log _ _
    c.self.view_is c.self.invariant held c.index_mut-reader.ensures.value (Updates-with_value inside.sources t new.source (ap is_some held))
    (after-stays c.serve-served.result new.source (sym c.stays.ensures ∙ c.if-stays.true)) w.2 w.3

pub returns-then-stays-clause-others : goal.returns-then-stays-clause-others
returns-then-stays-clause-others g c =
    let inside = c.self.inside in
    let new = c.serve-served.new in
    let held : get inside.sources c.args.token.0 ≡ Some c.in-Some.source.now = sym c.in-Some.ensures.value in
    others-there _ _ c.args.token.0 _ _ new.reader c.is_again.result new.room.log c.self.view_is (Updates-with_value inside.sources c.args.token.0 new.source (ap is_some held))

pub returns-then-stays-clause-listed : goal.returns-then-stays-clause-listed
returns-then-stays-clause-listed g c =
    let inside = c.self.inside in
    let t = c.args.token.0 in
    let held : get inside.sources t ≡ Some c.in-Some.source.now = sym c.in-Some.ensures.value in
    let within : t < length inside.again.items = subst (λ (n : ℕ). t < n) (sym c.self.invariant.flags) (c.self.invariant.tokens t (ap is_some held)) in
    get_or-set_same inside.again.items t c.is_again.result false within ∙ c.is_again.ensures

pub returns-then-stays-clause-none_forgotten : goal.returns-then-stays-clause-none_forgotten
returns-then-stays-clause-none_forgotten g c = (invariant_of-self g c).none_forgotten

pub returns-then-stays-clause-dests : goal.returns-then-stays-clause-dests
returns-then-stays-clause-dests g c = c.serve-served.ensures.dests

pub returns-then-stays-clause-plan : goal.returns-then-stays-clause-plan
returns-then-stays-clause-plan g c = c.serve-served.ensures.plan

-- ---- it leaves

pub invariant_of-self-2 : goal.invariant_of-self-2
invariant_of-self-2 g c =
    let inside = c.self.inside in
    let t = c.args.token.0 in
    let new = c.serve-served.new in
    let held : get inside.sources t ≡ Some c.in-Some.source.now = sym c.in-Some.ensures.value in
    let put = Updates-with_value inside.sources t new.source (ap is_some held) in
    let update = Updates-again inside.sources (with_value inside.sources t new.source) c.try_remove.new.self t (Some new.source) None put c.try_remove.ensures.updates in
    sound-served _ _ _ t c.try_remove.new.self None new.reader c.is_again.result new.room.log c.self.invariant update c.try_remove.ensures.capacity (c.self.invariant.tokens t (ap is_some held)) c.serve-served.ensures.open
    (λ last is free. absurd (none-some last is))
    c.serve-served.ensures.room

pub returns-clause-went : goal.returns-clause-went
returns-clause-went g c =
    let inside = c.self.inside in
    let t = c.args.token.0 in
    let new = c.serve-served.new in
    let held : get inside.sources t ≡ Some c.in-Some.source.now = sym c.in-Some.ensures.value in
    let put = Updates-with_value inside.sources t new.source (ap is_some held) in
    let w = c.serve-served.ensures.went in
    served-there c.args.plan.now g.S.Read.remaining c.args.moment _ _ _ t c.serve-served.result w.0 w.1 c.in-Some.source.now new.source _ c.index_mut-reader.result.now new.reader _ _ c.is_again.result new.room.log _ _
    c.self.view_is c.self.invariant held c.index_mut-reader.ensures.value (Updates-again _ _ _ t _ None put c.try_remove.ensures.updates)
    (after-leaves c.serve-served.result new.source (sym c.stays.ensures ∙ c.if-stays.false)) w.2 w.3

pub returns-clause-others : goal.returns-clause-others
returns-clause-others g c =
    let inside = c.self.inside in
    let new = c.serve-served.new in
    let held : get inside.sources c.args.token.0 ≡ Some c.in-Some.source.now = sym c.in-Some.ensures.value in
    let put = Updates-with_value inside.sources c.args.token.0 new.source (ap is_some held) in
    others-there _ _ c.args.token.0 _ _ new.reader c.is_again.result new.room.log c.self.view_is (Updates-again _ _ _ c.args.token.0 _ None put c.try_remove.ensures.updates)

pub returns-clause-listed : goal.returns-clause-listed
returns-clause-listed g c =
    let inside = c.self.inside in
    let t = c.args.token.0 in
    let held : get inside.sources t ≡ Some c.in-Some.source.now = sym c.in-Some.ensures.value in
    let within : t < length inside.again.items = subst (λ (n : ℕ). t < n) (sym c.self.invariant.flags) (c.self.invariant.tokens t (ap is_some held)) in
    get_or-set_same inside.again.items t c.is_again.result false within ∙ c.is_again.ensures

pub returns-clause-none_forgotten : goal.returns-clause-none_forgotten
returns-clause-none_forgotten g c = (invariant_of-self-2 g c).none_forgotten

pub returns-clause-dests : goal.returns-clause-dests
returns-clause-dests g c = c.serve-served.ensures.dests

pub returns-clause-plan : goal.returns-clause-plan
returns-clause-plan g c = c.serve-served.ensures.plan

-- ---- what waits

pub returns-then-stays-clause-waits : goal.returns-then-stays-clause-waits
returns-then-stays-clause-waits g c = λ before.
    held_back-set (IsRefusedBy g.D.Door.may_refuse) c.args.plan.now.destinations _ c.args.self.now c.args.token.0 c.serve-served.new.reader c.self.view_is c.serve-served.ensures.waits before

pub returns-clause-waits : goal.returns-clause-waits
returns-clause-waits g c = λ before.
    held_back-set (IsRefusedBy g.D.Door.may_refuse) c.args.plan.now.destinations _ c.args.self.now c.args.token.0 c.serve-served.new.reader c.self.view_is c.serve-served.ensures.waits before
