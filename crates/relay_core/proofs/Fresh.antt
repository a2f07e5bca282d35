-- A world before its first event.
use Rattle.std.proofs.Common.{◌≡◌, ℕ, zero, suc, List, [], ◌∷◌, map, replicate, refl, ap, arith}
use Rattle.std.proofs.lemmas.List.{length-replicate}
use Rattle.std.proofs.lemmas.List.Elements.{All-replicate}
use Rattle.std.specs.List.{All, AllZip}
use Rattle.router.specs.Plan.{Plan}
use Rattle.reader_core.specs.Reader.{ReaderModel}
use Rattle.reader_core.specs.declared.kind.ReaderKind.{ReaderKind}
use Rattle.relay_core.specs.Destination.{fresh_destination}
use Rattle.relay_core.specs.World.{fresh_reader}
use Rattle.relay_core.specs.WorldModel.{with_sizes, IsFresh, IsReader}
use Rattle.relay_core.specs.Stored.{TakesOffers}

pub fresh-are : (plan : Plan) (readers : List ReaderModel) (kinds : List ReaderKind) → AllZip IsFresh readers kinds → AllZip (IsReader plan) readers (map fresh_reader kinds)
fresh-are plan [] [] z = tt
fresh-are plan [] (kind ∷ kinds) z = absurd z
fresh-are plan (reader ∷ readers) [] z = absurd z
fresh-are plan (reader ∷ readers) (kind ∷ kinds) z = (record { taken = []; made = refl; represents = z.0 plan }, fresh-are plan readers kinds z.1)

pub map-replicate : {A B : Type 0} (f : A → B) (n : ℕ) (x : A) → map f (replicate n x) ≡ replicate n (f x)
map-replicate f zero x = refl
map-replicate f (suc n) x = ap (λ (l : List _). f x ∷ l) (map-replicate f n x)

pub takes-fresh : (size limit readers count : ℕ) → All (TakesOffers readers 0) (replicate count (with_sizes size limit (fresh_destination readers)))
takes-fresh size limit readers count =
    All-replicate (TakesOffers readers 0) count (with_sizes size limit (fresh_destination readers))
    (record { has_all = length-replicate readers 0; counted = omega arith })
