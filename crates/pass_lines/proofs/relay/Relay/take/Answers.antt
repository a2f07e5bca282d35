use Rattle.line_text.specs.Connection.{arrivals}
use Rattle.relay_files.proofs.BytesLemmas.{Appends-nothing}
use Rattle.pass_lines.proofs.LinesLemmas.{relays, relays_part}
use Rattle.pass_lines.proofs.relay.Relay.take.Goals as goal

pub returns-in_err-end-clause-part : goal.returns-in_err-end-clause-part
returns-in_err-end-clause-part g c =
    λ before represents.
    let grown = c.accepted_grows.ensures before (arrivals c.args.piece.now c.args.moment) in
    (grown.0, grown.1, (0, Appends-nothing _))

pub returns-in_err-written-clause-part : goal.returns-in_err-written-clause-part
returns-in_err-written-clause-part g c =
    λ before represents.
    relays_part _ _ _ _ _ _ c.args.self.now.none_left (c.in_ok-end.ensures.gained before represents) c.write_all-written.ensures.part

pub returns-clause-relayed : goal.returns-clause-relayed
returns-clause-relayed g c =
    λ before represents. relays _ _ _ _ _ _ c.args.self.now.none_left (c.in_ok-end.ensures.gained before represents) c.in_ok-written.ensures.ok

pub returns-clause-part : goal.returns-clause-part
returns-clause-part g c =
    λ before represents.
    relays_part _ _ _ _ _ _ c.args.self.now.none_left (c.in_ok-end.ensures.gained before represents) c.write_all-written.ensures.part
