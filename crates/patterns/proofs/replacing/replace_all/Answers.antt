use Rattle.std.proofs.Common.{◌≡◌, ◌++◌, true, false, is_some, string_bytes, sym, ap, ap₂, ◌∙◌, arith}
use Rattle.std.proofs.lemmas.Str.{IsCharBoundary-start}
use Rattle.regex.specs.Patterns.{Re}
use Rattle.regex.specs.Search.{next_match}
use Rattle.regex.specs.Strings.{matcher_pattern}
use Rattle.patterns.proofs.Steps.{next_match-first, with_left-none, with_left-first, replaced_by-none}
use Rattle.patterns.proofs.replacing.replace_all.Goals as goal

pub append_next-requires : goal.append_next-requires
append_next-requires c = IsCharBoundary-start c.args.text.now c.utf8.text

pub returns-in_default-clause-text : goal.returns-in_default-clause-text
returns-in_default-clause-text c =
    replaced_by-none (matcher_pattern c.args.matcher.now) c.args.text.now c.args.parts.now (sym c.in_ok-first.ensures.found ∙ ap is_some c.in_default.is)

pub returns-in_default-clause-some : goal.returns-in_default-clause-some
returns-in_default-clause-some c =
    sym (ap is_some c.in_default.is) ∙ c.in_ok-first.ensures.found ∙ ap is_some (next_match-first (matcher_pattern c.args.matcher.now) c.args.text.now)

pub returns-clause-text : goal.returns-clause-text
returns-clause-text c =
    let re = matcher_pattern c.args.matcher.now in
    let text = c.args.text.now in
    let parts = c.args.parts.now in
    let before = c.loop-out.invariant in
    let none : is_some (next_match true re text c.loop-out.after) ≡ false =
    ap (λ (r : Re). is_some (next_match true r text c.loop-out.after)) (sym before.same) ∙ sym c.in_ok-next.ensures.found ∙ ap is_some c.in_default-2.is in
    let kept = rw c.in_default-2.is at c.in_ok-next.ensures.none in
    c.in_ok-push_str.ensures.bytes
    ∙ ap₂ ◌++◌ kept c.range_from.ensures.value
    ∙ sym (with_left-none re text c.loop-out.after parts (string_bytes c.loop-out.out) none)
    ∙ before.left
    ∙ with_left-first re text parts

pub returns-clause-some : goal.returns-clause-some
returns-clause-some c =
    sym (ap is_some c.in-Some.is) ∙ c.in_ok-first.ensures.found ∙ ap is_some (next_match-first (matcher_pattern c.args.matcher.now) c.args.text.now)

-- ---- from match to match

pub loop-out-init : goal.loop-out-init
loop-out-init c =
    let first = c.in_ok-first.ensures in
    let left = rw c.in-Some.is at first.some in
    let place = rw c.in-Some.is at first.place in
    record { same = first.same; left = rw c.new-out.ensures.bytes at left; some = place.0; cut = place.1 }

pub loop-out-preserved : goal.loop-out-preserved
loop-out-preserved c =
    let before = c.loop-out.invariant in
    let next = c.in_ok-next.ensures in
    let left = rw (c.in-Some-2.is, before.same) at next.some in
    let place = rw c.in-Some-2.is at next.place in
    record { same = next.same ∙ before.same; left = left ∙ before.left; some = omega (arith, place.0); cut = place.1 }

pub loop-out-smaller : goal.loop-out-smaller
loop-out-smaller c =
    let place = rw c.in-Some-2.is at c.in_ok-next.ensures.place in
    omega (arith, place.0, place.1.0)

pub returns-clause-same : goal.returns-clause-same
returns-clause-same c = c.in_ok-next.ensures.same ∙ c.loop-out.invariant.same
