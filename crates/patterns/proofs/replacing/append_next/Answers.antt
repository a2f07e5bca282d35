use Rattle.std.proofs.Common.{◌≤◌, None, is_some, sym, ap, subst, ◌∙◌, arith}
use Rattle.regex.specs.Patterns.{find_str}
use Rattle.regex.specs.Strings.{matcher_pattern}
use Rattle.patterns.proofs.Steps.{start_of-captures, end_of-captures, none_next, some_next-captures, later_next-captures, next_found, starts_behind, ends_behind, with_left-next}
use Rattle.patterns.proofs.replacing.append_next.Goals as goal

-- ---- no match from the end of the last one on

pub returns-in_default-clause-found : goal.returns-in_default-clause-found
returns-in_default-clause-found c =
    let re = matcher_pattern c.args.matcher.now in
    let none = ap (find_str re c.args.text.now) (sym c.saturating_sub-last.ensures) ∙ c.in_default.ensures.found in
    ap is_some (sym (none_next re c.args.text.now c.args.after none))

-- ---- a match that ends behind the last one

pub append_match-requires-clause-ordered : goal.append_match-requires-clause-ordered
append_match-requires-clause-ordered c =
    let found = c.in-Some.ensures.found in
    subst (λ n. c.saturating_sub-last.result ≤ n) (sym (start_of-captures c.args.text.now found.0 c.in-Some.captures found.2)) (starts_behind _ _ found.0 _ found.1)

pub returns-then-next-after-clause-found : goal.returns-then-next-after-clause-found
returns-then-next-after-clause-found c =
    let found = c.in-Some.ensures.found in
    ap is_some (sym (some_next-captures _ c.args.text.now c.args.after _ _ found.0 c.in-Some.captures found.1 found.2
    c.saturating_sub-last.ensures c.after_match-next.ensures.value c.if-next-after.true))

pub returns-then-next-after-clause-some : goal.returns-then-next-after-clause-some
returns-then-next-after-clause-some c =
    let found = c.in-Some.ensures.found in
    let end = c.after_match-next.ensures.value in
    let next = some_next-captures _ c.args.text.now c.args.after _ _ found.0 c.in-Some.captures found.1 found.2
    c.saturating_sub-last.ensures end c.if-next-after.true in
    with_left-next _ c.args.text.now c.args.after c.args.parts.now found.0 c.in-Some.captures _ _ _ _ next found.2
    c.saturating_sub-last.ensures end c.in_ok-append_match.ensures

-- ---- an empty match there, and the search one place on

pub returns-in_default-captures_at-clause-found : goal.returns-in_default-captures_at-clause-found
returns-in_default-captures_at-clause-found c =
    let found = c.in-Some.ensures.found in
    ap is_some (sym (later_next-captures _ _ _ _ _ found.0 c.in-Some.captures found.1 found.2 c.saturating_sub-last.ensures c.after_match-next.ensures.value
    None _ c.if-next-after.false c.captures_at.follows.holds-at-none.0 c.in_default-captures_at.ensures.found))

pub append_match-requires-2-clause-ordered : goal.append_match-requires-2-clause-ordered
append_match-requires-2-clause-ordered c =
    let later = c.in-Some-captures_at.ensures.found in
    let start = start_of-captures c.args.text.now later.0 c.in-Some-captures_at.captures later.2 in
    omega (arith, c.saturating_sub-last.ensures, start, starts_behind _ _ later.0 _ later.1)

pub returns-clause-found : goal.returns-clause-found
returns-clause-found c =
    let found = c.in-Some.ensures.found in
    ap is_some (sym (next_found _ _ _ _ _ found.0 c.in-Some.captures found.1 found.2 c.saturating_sub-last.ensures c.after_match-next.ensures.value
    _ c.in-Some-captures_at.captures c.in-Some-captures_at.ensures.found c.if-next-after.false c.captures_at.follows.holds-at-none.0))

pub returns-clause-some : goal.returns-clause-some
returns-clause-some c =
    let found = c.in-Some.ensures.found in
    let later = c.in-Some-captures_at.ensures.found in
    with_left-next _ _ _ c.args.parts.now later.0 c.in-Some-captures_at.captures _ _ _ _
    (next_found _ _ _ _ _ found.0 c.in-Some.captures found.1 found.2 c.saturating_sub-last.ensures c.after_match-next.ensures.value
    _ c.in-Some-captures_at.captures later c.if-next-after.false c.captures_at.follows.holds-at-none.0)
    later.2 c.saturating_sub-last.ensures c.after_match.ensures.value c.in_ok-append_match-2.ensures

pub returns-clause-place : goal.returns-clause-place
returns-clause-place c =
    let later = c.in-Some-captures_at.ensures.found in
    let found = c.in-Some.ensures.found in
    let next = next_found _ _ _ _ _ found.0 c.in-Some.captures found.1 found.2 c.saturating_sub-last.ensures c.after_match-next.ensures.value _ c.in-Some-captures_at.captures later
    c.if-next-after.false c.captures_at.follows.holds-at-none.0 in
    let last = end_of-captures c.args.text.now later.0 c.in-Some-captures_at.captures later.2 in
    (omega (arith, ends_behind _ c.args.text.now c.args.after later.0 next, last, c.after_match.ensures.value), rw later.2.0 at c.after_match.ensures.cut)

-- ---- places between characters

pub append_match-requires-clause-from : goal.append_match-requires-clause-from
append_match-requires-clause-from c = rw c.saturating_sub-last.ensures c.requires

pub append_match-requires-clause-within : goal.append_match-requires-clause-within
append_match-requires-clause-within c = let found = c.in-Some.ensures.found in found.2.0

pub append_match-requires-2-clause-from : goal.append_match-requires-2-clause-from
append_match-requires-2-clause-from c = rw c.saturating_sub-last.ensures c.requires

pub append_match-requires-2-clause-within : goal.append_match-requires-2-clause-within
append_match-requires-2-clause-within c = let later = c.in-Some-captures_at.ensures.found in later.2.0

pub returns-then-next-after-clause-place : goal.returns-then-next-after-clause-place
returns-then-next-after-clause-place c =
    let found = c.in-Some.ensures.found in
    (c.if-next-after.true, rw found.2.0 at c.after_match-next.ensures.cut)

-- ---- the same pattern

pub returns-then-next-after-clause-same : goal.returns-then-next-after-clause-same
returns-then-next-after-clause-same c = c.captures_at.follows.holds-at-none.0

pub returns-clause-same : goal.returns-clause-same
returns-clause-same c = c.captures_at-2.follows.holds-at-none.0 ∙ c.captures_at.follows.holds-at-none.0
