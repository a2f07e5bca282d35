use Rattle.std.proofs.Common.{Some, None, sym, ◌∙◌, lit<}
use Rattle.std.proofs.lemmas.Str.Pattern.{split_once_first}
use Rattle.conf_text.proofs.Destinations.{without_colon, with_one_colon, with_two_colons}
use Rattle.conf_text.proofs.dest.parts_of.Goals as goal

pub returns-in_err-host : goal.returns-in_err-host
returns-in_err-host c =
    rw c.from_residual.ensures (sym (without_colon c.args.text.now (split_once_first 58 c.args.text.now None c.in_err-host.ensures.cases (lit< tt))))

pub returns-in-Some : goal.returns-in-Some
returns-in-Some c =
    let outer = split_once_first 58 c.args.text.now (Some (c.in_ok-host.host, c.in_ok-host.rest)) c.in_ok-host.ensures.cases (lit< tt) in
    let inner = split_once_first 58 c.in_ok-host.rest.now (Some (c.in-Some.port, c.in-Some.instance)) c.in-Some.ensures.cases (lit< tt) in
    c.parts_in_range.ensures ∙ sym (with_two_colons c.args.text.now c.in_ok-host.host.now c.in_ok-host.rest.now c.in-Some.port.now c.in-Some.instance.now outer.0 outer.1 outer.2 inner.0 inner.1 inner.2)

pub returns-in-None : goal.returns-in-None
returns-in-None c =
    let outer = split_once_first 58 c.args.text.now (Some (c.in_ok-host.host, c.in_ok-host.rest)) c.in_ok-host.ensures.cases (lit< tt) in
    let inner = split_once_first 58 c.in_ok-host.rest.now None c.in-None.ensures.cases (lit< tt) in
    c.parts_in_range-in-None.ensures ∙ sym (with_one_colon c.args.text.now c.in_ok-host.host.now c.in_ok-host.rest.now outer.0 outer.1 outer.2 inner)
