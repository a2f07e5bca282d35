-- What is kept of a list that grows, and known bytes that grow twice.
use Rattle.std.proofs.Common.{◌≡◌, ℕ, ◌≤◌, List, ◌++◌, length, take, drop, Option, Some, None, sym, ap, ◌∙◌, append_assoc, length-take, arith}
use Rattle.std.proofs.lemmas.List.{take-append-le, take-append-drop}
use Rattle.std.proofs.Math.Seq.{take-append_seam}
use Rattle.std.specs.Io.KnownBytes.{Appends}

pub take-kept : {X : Type 0} (kept whole more : List X) → take (length kept) whole ≡ kept → take (length kept) (whole ++ more) ≡ kept
take-kept kept whole more is =
    let inside : length kept ≤ length whole = omega (arith, simp length-take at (ap length is)) in
    take-append-le (length kept) whole more inside ∙ is

pub take-kept_through : {X : Type 0} (a b c : List X) → take (length a) b ≡ a → take (length b) c ≡ b → take (length a) c ≡ a
take-kept_through a b c first second =
    let whole : c ≡ b ++ drop (length b) c = sym (take-append-drop (length b) c) ∙ ap (λ front. front ++ drop (length b) c) second in
    ap (take (length a)) whole ∙ take-kept a b (drop (length b) c) first

pub take-all_of : {X : Type 0} (kept more : List X) → take (length kept) (kept ++ more) ≡ kept
take-all_of kept more = take-append_seam kept more

pub Appends-then : (a b c : Option (List ℕ)) (xs ys : List ℕ) → Appends a b xs → Appends b c ys → Appends a c (xs ++ ys)
Appends-then None b c xs ys first second = tt
Appends-then (Some held) None c xs ys first second = absurd first
Appends-then (Some held) (Some more) None xs ys first second = absurd second
Appends-then (Some held) (Some more) (Some all) xs ys first second =
    second ∙ ap (λ (front : List ℕ). front ++ ys) first ∙ append_assoc held xs ys
