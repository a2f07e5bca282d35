-- Lemmas on what a connection gets of a file.
use Rattle.std.proofs.Common.{◌≡◌, ℕ, ◌^◌, ◌<◌, ◌≤◌, List, [], ◌++◌, length, take, Option, Some, None, refl, ap, sym, ◌∙◌, arith}
use Rattle.std.proofs.lemmas.List.{append-nil, take-take, length-take, length-take-le}
use Rattle.std.specs.Io.KnownBytes.{Appends, Keeps}
use Rattle.backlog.specs.Place.{Place, place_after}
use Rattle.spool.specs.Held.{GotPart}

keeps-appends : (old new : Option (List ℕ)) → Keeps old new → Appends old new []
keeps-appends None new h = h
keeps-appends (Some xs) None h = h
keeps-appends (Some xs) (Some ys) h = h ∙ sym (append-nil xs)

-- a connection that took nothing
pub nothing-sent : (bytes : List ℕ) (cursor : Place) (before gained : Option (List ℕ)) → Keeps before gained → GotPart bytes cursor cursor before gained
nothing-sent bytes cursor before gained keeps = record {
  sent = [];
  part = refl;
  output = keeps-appends before gained keeps;
  moved = λ over taken is fits. is ∙ ap (λ (t : List ℕ). place_after over t) (sym (append-nil taken));
}

-- a connection that took this many bytes
pub part-sent : (bytes : List ℕ) (count : ℕ) (cursor after : Place) (before gained : Option (List ℕ)) → count ≤ length bytes → Appends before gained (take count bytes) → ((over : List (List ℕ)) (taken : List ℕ) → cursor ≡ place_after over taken → (place_after over (taken ++ take count bytes)).next < 2 ^ 64 → after ≡ place_after over (taken ++ take count bytes)) → GotPart bytes cursor after before gained
part-sent bytes count cursor after before gained inside output moved = record {
  sent = take count bytes;
  part = ap (λ (n : ℕ). take n bytes) (length-take-le count bytes inside);
  output = output;
  moved = moved;
}

shorter : (sent L : List ℕ) (m : ℕ) → take (length sent) (take m L) ≡ sent → length sent ≤ m
shorter sent L m is = omega (arith, ap (λ (l : List ℕ). length l) is, length-take (length sent) (take m L), length-take m L)

-- what begins some bytes begins more of them
pub part-of_more : (L : List ℕ) (m M : ℕ) (cursor after : Place) (before gained : Option (List ℕ)) → m ≤ M → GotPart (take m L) cursor after before gained → GotPart (take M L) cursor after before gained
part-of_more L m M cursor after before gained inside got =
    let n = length got.sent in
    let short = shorter got.sent L m got.part in
    record {
      sent = got.sent;
      part = take-take n M L (omega (arith, short, inside)) ∙ sym (take-take n m L short) ∙ got.part;
      output = got.output;
      moved = got.moved;
    }
