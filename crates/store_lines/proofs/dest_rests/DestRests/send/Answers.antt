use Rattle.std.proofs.lemmas.Option.{IfSome_then}
use Rattle.store_lines.proofs.LeftLemmas.{given-out}
use Rattle.store_lines.proofs.dest_rests.DestRests.send.Goals as goal

pub returns-in-Some-clause-whole : goal.returns-in-Some-clause-whole
returns-in-Some-clause-whole g c =
    given-out c.args.self.now.later c.in-Some.sink c.go_on.result _ (λ none. (c.go_on.ensures.last none).0)
    (IfSome_then c.args.self.now.later c.go_on.ensures.later (λ x is. is.0)) c.in-Some.ensures.whole
