-- Events happen, one after another.
use Rattle.std.proofs.Common.{◌≡◌, ℕ, suc, ◌+◌, List, [], ◌++◌, refl, sym, subst, ◌∙◌, arith}
use Rattle.std.proofs.lemmas.List.{append-nil, append_assoc}
use Rattle.relay_core.specs.World.{RunEvent}
use Rattle.relay_core.specs.WorldModel.{WorldModel, RepresentsRun}
use Rattle.replay.specs.LinesRun.{each_of}
use Rattle.replay.specs.RunEvents.{EventsHappen}

pub none-happen : (w : WorldModel) → EventsHappen w w []
none-happen w =
    record {
      plan = refl;
      places = record { readers = refl; destinations = refl };
      represents = λ size limit kinds past represents. subst (λ (l : List RunEvent). RepresentsRun w size limit kinds l) (sym (append-nil past)) represents;
    }

pub more-happen : (old mid new : WorldModel) (a b : List RunEvent) → EventsHappen old mid a → EventsHappen mid new b → EventsHappen old new (a ++ b)
more-happen old mid new a b x y =
    record {
      plan = y.plan ∙ x.plan;
      places = record { readers = y.places.readers ∙ x.places.readers; destinations = y.places.destinations ∙ x.places.destinations };
      represents = λ size limit kinds past represents.
          subst (λ (l : List RunEvent). RepresentsRun new size limit kinds l) (append_assoc past a b)
          (y.represents size limit kinds (past ++ a) (x.represents size limit kinds past represents));
    }

each_of-next : (events : ℕ → List RunEvent) (n : ℕ) → each_of events (n + 1) ≡ each_of events n ++ events n
each_of-next events n = let next : n + 1 ≡ suc n = omega arith in rw next refl

pub next-happen : (events : ℕ → List RunEvent) (n : ℕ) (old mid new : WorldModel) → EventsHappen old mid (each_of events n) → EventsHappen mid new (events n)
    → EventsHappen old new (each_of events (n + 1))
next-happen events n old mid new x y =
    subst (EventsHappen old new) (sym (each_of-next events n)) (more-happen old mid new (each_of events n) (events n) x y)
