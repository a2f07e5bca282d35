use Rattle.std.proofs.Common.{◌≤◌, ℕ, length, ap, lit<, arith, rules}
use Rattle.std.specs.Fmt.{decimal}
use Rattle.std.proofs.lemmas.Fmt.{length-decimal-le}
use Rattle.line_text.specs.Time.{last_time}
use Rattle.line_text.proofs.print.print_line.Goals as goal

-- a time has at most 16 digits
abbrev time_fits : (time : ℕ) → time ≤ last_time → length (decimal time) ≤ 16
time_fits time within = length-decimal-le 16 time (lit< tt) (omega arith) (omega arith)

pub append-requires-2 : goal.append-requires-2
append-requires-2 c =
    let within = time_fits c.point.inside.time c.point.invariant in
    let printed_line = ap length c.format.ensures.text in
    search (rules, within, printed_line)

pub push_reserved-requires-3 : goal.push_reserved-requires-3
push_reserved-requires-3 c =
    let within = time_fits c.point.inside.time c.point.invariant in
    let printed_line = ap length c.format.ensures.text in
    search (rules, within, printed_line)
