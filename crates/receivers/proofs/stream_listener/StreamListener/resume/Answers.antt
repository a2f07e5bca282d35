use Rattle.std.proofs.Common.{◌++◌, ◌∷◌, [], List, sym, ap, ◌∙◌}
use Rattle.receivers.specs.declared.handing.HandedStream.{HandedStream}
use Rattle.receivers.proofs.AcceptedLemmas.{IfTaken-weaker}
use Rattle.receivers.proofs.stream_listener.StreamListener.resume.Goals as goal

pub returns-in-Some-token : goal.returns-in-Some-token
returns-in-Some-token c =
    let stays = sym (ap (λ (left : List HandedStream). left ++ c.in-Some.handed ∷ []) c.note_peer.ensures) in
    IfTaken-weaker c.watch-watched.result _ _ (λ held h. (c.in-Some.handed, c.in-Some.ensures.items ∙ stays, h)) c.watch-watched.ensures

pub returns-in_default-token : goal.returns-in_default-token
returns-in_default-token c =
    let stays = sym (ap (λ (left : List HandedStream). left ++ c.in-Some.handed ∷ []) c.note_peer.ensures) in
    IfTaken-weaker c.watch-watched.result _ _ (λ held h. (c.in-Some.handed, c.in-Some.ensures.items ∙ stays, h)) c.watch-watched.ensures
