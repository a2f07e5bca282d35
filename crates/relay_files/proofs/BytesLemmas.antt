-- Known bytes of readers and writers that grow one after another.
use Rattle.std.proofs.Common.{◌≡◌, ℕ, true, eqb, subst, List, [], ◌++◌, length, take, drop, Option, Some, None, refl, ap, sym, ◌∙◌, append_assoc}
use Rattle.std.proofs.Math.Seq.{take-append_seam}
use Rattle.std.proofs.lemmas.List.{append-nil, take-append-drop, nil_from_length}
use Rattle.std.proofs.lemmas.Bool.{eqb-true}
use Rattle.std.specs.Io.KnownBytes.{Appends, Keeps, Consumes, IsAtEnd}
use Rattle.std.specs.Prelude.{IfSome}
use Rattle.relay_base.proofs.Growth.{Appends-then}
use Rattle.relay_files.specs.Output.{GrowsByPart}

pub Appends-nothing : (a : Option (List ℕ)) → Appends a a []
Appends-nothing None = tt
Appends-nothing (Some xs) = sym (append-nil xs)

pub Appends-kept : (a b c : Option (List ℕ)) (xs : List ℕ) → Appends a b xs → Keeps b c → Appends a c xs
Appends-kept None b c xs first kept = tt
Appends-kept (Some held) None c xs first kept = absurd first
Appends-kept (Some held) (Some more) None xs first kept = absurd kept
Appends-kept (Some held) (Some more) (Some all) xs first kept = kept ∙ first

pub GrowsByPart-front : (a b : Option (List ℕ)) (front behind whole : List ℕ) → whole ≡ front ++ behind → Appends a b front → GrowsByPart a b whole
GrowsByPart-front a b front behind whole is grown =
    (length front, rw (is, take-append_seam front behind) grown)

-- what is written whole is a first part of itself
pub part-of_written : (w v : Option (List ℕ)) (text : List ℕ) → Appends w v text → GrowsByPart w v text
part-of_written w v text written = GrowsByPart-front w v text [] text (sym (append-nil text)) written

-- if nothing is left, all is written
pub written_all : (a b : Option (List ℕ)) (done left whole : List ℕ) → whole ≡ done ++ left → eqb (length left) 0 ≡ true → Appends a b done → Appends a b whole
written_all a b done left whole is none written =
    let nothing : left ≡ [] = nil_from_length left (eqb-true (length left) 0 none) in
    subst (Appends a b) (sym (is ∙ ap (λ (rest : List ℕ). done ++ rest) nothing ∙ append-nil done)) written

-- a first part behind what is there already
pub GrowsByPart-behind : (a b c : Option (List ℕ)) (front text rest whole : List ℕ) → Appends a b front → GrowsByPart b c text → whole ≡ (front ++ text) ++ rest → GrowsByPart a c whole
GrowsByPart-behind a b c front text rest whole first part is =
    let cut = sym (take-append-drop part.0 text) in
    let all : whole ≡ (front ++ take part.0 text) ++ (drop part.0 text ++ rest) =
    is ∙ ap (λ (t : List ℕ). (front ++ t) ++ rest) cut ∙ ap (λ (t : List ℕ). t ++ rest) (sym (append_assoc front (take part.0 text) (drop part.0 text))) ∙ append_assoc (front ++ take part.0 text) (drop part.0 text) rest
    in
    GrowsByPart-front a c (front ++ take part.0 text) (drop part.0 text ++ rest) whole all (Appends-then a b c front (take part.0 text) first part.1)

pub Keeps-self : (a : Option (List ℕ)) → Keeps a a
Keeps-self None = tt
Keeps-self (Some held) = refl

pub Keeps-then-Consumes : (a b c : Option (List ℕ)) (xs : List ℕ) → Keeps a b → Consumes b c xs → Consumes a c xs
Keeps-then-Consumes None b c xs kept read = tt
Keeps-then-Consumes (Some held) None c xs kept read = absurd kept
Keeps-then-Consumes (Some held) (Some same) None xs kept read = absurd read
Keeps-then-Consumes (Some held) (Some same) (Some last) xs kept read = sym kept ∙ read

pub Consumes-nothing : (a : Option (List ℕ)) → Consumes a a []
Consumes-nothing None = tt
Consumes-nothing (Some held) = refl

pub Consumes-then : (a b c : Option (List ℕ)) (xs ys both : List ℕ) → both ≡ xs ++ ys → Consumes a b xs → Consumes b c ys → Consumes a c both
Consumes-then None b c xs ys both is first next = tt
Consumes-then (Some held) None c xs ys both is first next = absurd first
Consumes-then (Some held) (Some more) None xs ys both is first next = absurd next
Consumes-then (Some held) (Some more) (Some last) xs ys both is first next =
    first ∙ ap (λ (rest : List ℕ). xs ++ rest) next ∙ sym (append_assoc xs ys last) ∙ ap (λ (front : List ℕ). front ++ last) (sym is)

-- what was read before a read that gave nothing at the end is all
pub read_to_end : (a b c : Option (List ℕ)) (xs ys : List ℕ) (count : ℕ) → count ≡ 0 → Consumes a b xs → Consumes b c (take count ys) → (count ≡ 0 → IsAtEnd c)
    → IfSome a (λ all. xs ≡ all)
read_to_end None b c xs ys count none first next end = tt
read_to_end (Some held) None c xs ys count none first next end = absurd first
read_to_end (Some held) (Some more) None xs ys count none first next end = absurd next
read_to_end (Some held) (Some more) (Some last) xs ys count none first next end =
    sym (first ∙ ap (λ (rest : List ℕ). xs ++ rest) (next ∙ ap (λ (n : ℕ). take n ys ++ last) none ∙ end none) ∙ append-nil xs)
