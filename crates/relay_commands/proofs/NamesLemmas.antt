-- The lines of a text of names, one after another.
use Rattle.std.proofs.Common.{◌≡◌, ℕ, ◌+◌, ◌-◌, ◌<◌, ◌≤◌, Bool, true, false, List, [], ◌∷◌, ◌++◌, length, take, drop, Option, Some, None, IfSome, cond, ltb, subst, ap, refl, sym, ◌∙◌, arith, append_assoc}
use Rattle.std.specs.List.{position, position_or_len}
use Rattle.std.proofs.lemmas.Bool.Decides.{nat_tests}
use Rattle.std.proofs.lemmas.List.{append-nil, take_all, length-drop}
use Rattle.std.proofs.lemmas.List.Elements.{All-from_get_or}
use Rattle.std.proofs.lemmas.List.Splits.{slice_split_first, slice_split_none}
use Rattle.std.proofs.lemmas.List.Sums.{fails_before_first}
use Rattle.std.proofs.lemmas.List.Concat.{flat_map-append}
use Rattle.std.specs.Io.KnownBytes.{Appends}
use Rattle.relay_base.proofs.Growth.{Appends-then}
use Rattle.relay_base.specs.White.{strip}
use Rattle.conf_text.specs.Destination.{Destination}
use Rattle.router.specs.Plan.{Plan}
use Rattle.relay_files.specs.Output.{GrowsByPart}
use Rattle.relay_commands.specs.Names.{is_newline, lines_in, name_text, name_note, names_text, names_notes}
use Rattle.relay_files.proofs.BytesLemmas.{GrowsByPart-behind}

-- how much of a text is left: one more than its bytes, if something is left
abbrev pub length_left : Option (List ℕ) → ℕ
length_left None = 0
length_left (Some text) = length text + 1

-- what is left after a line is less than was left with it
pub less_left : (others : Option (List ℕ)) (n : ℕ) → IfSome others (λ text. length text < n) → length_left others ≤ n
less_left None n shorter = omega arith
less_left (Some text) n shorter = omega (arith, shorter)

-- ---- the first line of a text

-- the place of the first byte that passes, if one does
record IsPlace (p : ℕ → Bool) (xs : List ℕ) (n : ℕ) : Type 0 where
  within : n < length xs
  is : position_or_len p xs ≡ n

place_of : (p : ℕ → Bool) (xs : List ℕ) (n : ℕ) → Some n ≡ position p xs → IsPlace p xs n
place_of p xs n found =
    let first = position_or_len p xs in
    let P : Bool → Type 0 = λ b. ltb first (length xs) ≡ b → Some n ≡ cond b (Some first) None → IsPlace p xs n in
    let each : (b : Bool) → P b = λ b. elim b as P [
      | true ↦ λ test h. let is : first ≡ n = cc in record { within = grind (arith, nat_tests); is = is }
      | false ↦ λ test h. absurd cc
    ] in
    each (ltb first (length xs)) refl found

no_place : (p : ℕ → Bool) (xs : List ℕ) → None ≡ position p xs → length xs ≤ position_or_len p xs
no_place p xs none =
    let first = position_or_len p xs in
    let P : Bool → Type 0 = λ b. ltb first (length xs) ≡ b → None ≡ cond b (Some first) None → length xs ≤ first in
    let each : (b : Bool) → P b = λ b. elim b as P [
      | true ↦ λ test h. absurd cc
      | false ↦ λ test h. grind (arith, nat_tests)
    ] in
    each (ltb first (length xs)) refl none

pub first_of_lines : (text : List ℕ) (n : ℕ) → Some n ≡ position is_newline text
    → lines_in text ≡ take n text ∷ lines_in (take (length text - (n + 1)) (drop (n + 1) text))
first_of_lines text n found =
    let place = place_of is_newline text n found in
    let cut = slice_split_first is_newline text 0 (omega (arith, place.within, place.is)) in
    let all = take_all (length text - (n + 1)) (drop (n + 1) text) (omega (arith, length-drop (n + 1) text)) in
    cut
    ∙ ap (λ (k : ℕ). take k text ∷ lines_in (drop (k + 1) text)) place.is
    ∙ ap (λ (rest : List ℕ). take n text ∷ lines_in rest) (sym all)

pub only_line : (text : List ℕ) → None ≡ position is_newline text → lines_in text ≡ text ∷ []
only_line text none =
    slice_split_none is_newline text (All-from_get_or (λ b. is_newline b ≡ false) text 0
    (λ i within. fails_before_first is_newline text i 0 (omega (arith, within, no_place is_newline text none))))

-- ---- the texts of lines after others

names_text-append : (plan : Plan) (dests : List Destination) (xs ys : List (List ℕ)) → names_text plan dests (xs ++ ys) ≡ names_text plan dests xs ++ names_text plan dests ys
names_text-append plan dests xs ys = flat_map-append (λ line. name_text plan dests (strip line)) xs ys

names_notes-append : (number : ℕ) (xs ys : List (List ℕ)) → names_notes number (xs ++ ys) ≡ names_notes number xs ++ names_notes (number + length xs) ys
names_notes-append number [] ys = let same : number ≡ number + 0 = omega arith in ap (λ (n : ℕ). names_notes n ys) same
names_notes-append number (x ∷ xs) ys =
    let same : (number + 1) + length xs ≡ number + length (x ∷ xs) = omega arith in
    ap (λ (rest : List ℕ). name_note number (strip x) ++ rest) (names_notes-append (number + 1) xs ys)
    ∙ sym (append_assoc (name_note number (strip x)) (names_notes (number + 1) xs) (names_notes ((number + 1) + length xs) ys))
    ∙ ap (λ (n : ℕ). (name_note number (strip x) ++ names_notes (number + 1) xs) ++ names_notes n ys) same

-- ---- one line more

-- the lines that are passed, the line after them, and the others
module _ (lines done others : List (List ℕ)) (line : List ℕ) (are : lines ≡ done ++ line ∷ others) where
  pub passed : lines ≡ (done ++ line ∷ []) ++ others
  passed = are ∙ sym (append_assoc done (line ∷ []) others)

  module _ (plan : Plan) (dests : List Destination) where
    text_more : names_text plan dests (done ++ line ∷ []) ≡ names_text plan dests done ++ name_text plan dests (strip line)
    text_more =
        names_text-append plan dests done (line ∷ [])
        ∙ ap (λ (t : List ℕ). names_text plan dests done ++ t) (append-nil (name_text plan dests (strip line)))

    pub text_written : (a b c : Option (List ℕ)) → Appends a b (names_text plan dests done) → Appends b c (name_text plan dests (strip line))
        → Appends a c (names_text plan dests (done ++ line ∷ []))
    text_written a b c before here = subst (Appends a c) (sym text_more) (Appends-then a b c _ _ before here)

    pub text_part : (a b c : Option (List ℕ)) → Appends a b (names_text plan dests done) → GrowsByPart b c (name_text plan dests (strip line))
        → GrowsByPart a c (names_text plan dests lines)
    text_part a b c before part =
        let whole = ap (names_text plan dests) passed ∙ names_text-append plan dests (done ++ line ∷ []) others
        ∙ ap (λ (t : List ℕ). t ++ names_text plan dests others) text_more in
        GrowsByPart-behind a b c _ _ (names_text plan dests others) _ before part whole

  module _ (number : ℕ) (is : number ≡ length done) where
    notes_more : names_notes 1 (done ++ line ∷ []) ≡ names_notes 1 done ++ name_note (number + 1) (strip line)
    notes_more =
        let same : 1 + length done ≡ number + 1 = omega (arith, is) in
        names_notes-append 1 done (line ∷ [])
        ∙ ap (λ (n : ℕ). names_notes 1 done ++ (name_note n (strip line) ++ [])) same
        ∙ ap (λ (t : List ℕ). names_notes 1 done ++ t) (append-nil (name_note (number + 1) (strip line)))

    pub notes_written : (a b c : Option (List ℕ)) → Appends a b (names_notes 1 done) → Appends b c (name_note (number + 1) (strip line))
        → Appends a c (names_notes 1 (done ++ line ∷ []))
    notes_written a b c before here = subst (Appends a c) (sym notes_more) (Appends-then a b c _ _ before here)

    pub notes_part : (a b c : Option (List ℕ)) → Appends a b (names_notes 1 done) → GrowsByPart b c (name_note (number + 1) (strip line))
        → GrowsByPart a c (names_notes 1 lines)
    notes_part a b c before part =
        let rest = names_notes (1 + length (done ++ line ∷ [])) others in
        let whole = ap (names_notes 1) passed ∙ names_notes-append 1 (done ++ line ∷ []) others
        ∙ ap (λ (t : List ℕ). t ++ rest) notes_more in
        GrowsByPart-behind a b c _ _ rest _ before part whole

-- ---- all of them

pub all_lines : (P : List (List ℕ) → Type 0) (lines done : List (List ℕ)) → lines ≡ done ++ [] → P done → P lines
all_lines P lines done are holds = subst P (sym (are ∙ append-nil done)) holds
