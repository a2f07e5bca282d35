-- What a choice is after one more entry, and when it is full.
use Rattle.std.proofs.Common.{◌≡◌, ℕ, zero, suc, ◌+◌, ◌<◌, ◌≤◌, true, false, cond, List, [], ◌∷◌, ◌++◌, map, get_or, take, drop, length, refl, sym, ap, ◌∙◌, subst, arith, append_assoc, length-append}
use Rattle.std.proofs.lemmas.List.{take_more, map-append, take-append-drop, length-take, take_all}
use Rattle.relay_base.specs.declared.dest_id.DestId.{DestId}
use Rattle.hash_ring.specs.Walk.{taken_by}
use Rattle.hash_ring.specs.Entry.{Entry, node_of}
use Rattle.hash_ring.proofs.TakenLemmas.{is_in, is_in-taken, taken-push, take-taken_more}

-- the nodes met before the entry at i, and before these
abbrev pub met : List DestId → List Entry → ℕ → List DestId
met before entries i = before ++ map node_of (take i entries)

met_more : (before : List DestId) (entries : List Entry) (i : ℕ) (d : Entry) → i < length entries → met before entries (i + 1) ≡ met before entries i ++ node_of (get_or entries i d) ∷ []
met_more before entries i d within =
    ap (λ l. before ++ map node_of l) (take_more entries i d within)
    ∙ ap (λ l. before ++ l) (map-append node_of (take i entries) (get_or entries i d ∷ []))
    ∙ sym (append_assoc before (map node_of (take i entries)) (node_of (get_or entries i d) ∷ []))

take_whole : (w : ℕ) (ds : List DestId) → length (take w ds) < w → take w ds ≡ ds
take_whole w ds few = take_all w ds (omega (arith, length-take w ds))

chosen_known : (mark : DestId → ℕ) (w : ℕ) (chosen ms : List DestId) (n : DestId) → chosen ≡ take w (taken_by mark ms) → is_in mark n ms ≡ true → chosen ≡ take w (taken_by mark (ms ++ n ∷ []))
chosen_known mark w chosen ms n is known = is ∙ ap (take w) (sym (taken-push mark ms n ∙ ap (λ b. cond b (taken_by mark ms) (taken_by mark ms ++ n ∷ [])) known))

chosen_new : (mark : DestId → ℕ) (w : ℕ) (chosen ms : List DestId) (n : DestId) → chosen ≡ taken_by mark ms → length chosen < w → is_in mark n ms ≡ false → chosen ++ n ∷ [] ≡ take w (taken_by mark (ms ++ n ∷ []))
chosen_new mark w chosen ms n is few new =
    let pushed : taken_by mark (ms ++ n ∷ []) ≡ chosen ++ n ∷ [] = taken-push mark ms n ∙ ap (λ b. cond b (taken_by mark ms) (taken_by mark ms ++ n ∷ [])) new ∙ ap (λ l. l ++ n ∷ []) (sym is) in
    sym (ap (take w) pushed ∙ take_all w (chosen ++ n ∷ []) (omega (arith, length-append chosen (n ∷ []))))

-- the choice after an entry whose node was met before
pub known_more : (mark : DestId → ℕ) (w : ℕ) (chosen before : List DestId) (entries : List Entry) (i : ℕ) (d : Entry) → i < length entries → chosen ≡ take w (taken_by mark (met before entries i)) → length chosen < w
    → is_in mark (node_of (get_or entries i d)) chosen ≡ true → chosen ≡ take w (taken_by mark (met before entries (i + 1)))
known_more mark w chosen before entries i d within is few known =
    let n = node_of (get_or entries i d) in
    let ms = met before entries i in
    let whole : chosen ≡ taken_by mark ms = is ∙ take_whole w (taken_by mark ms) (subst (λ l. length l < w) is few) in
    let there : is_in mark n ms ≡ true = sym (is_in-taken mark n ms) ∙ ap (is_in mark n) (sym whole) ∙ known in
    chosen_known mark w chosen ms n is there ∙ ap (λ l. take w (taken_by mark l)) (sym (met_more before entries i d within))

-- the choice after an entry whose node is new
pub new_more : (mark : DestId → ℕ) (w : ℕ) (chosen before : List DestId) (entries : List Entry) (i : ℕ) (d : Entry) → i < length entries → chosen ≡ take w (taken_by mark (met before entries i)) → length chosen < w
    → is_in mark (node_of (get_or entries i d)) chosen ≡ false → chosen ++ node_of (get_or entries i d) ∷ [] ≡ take w (taken_by mark (met before entries (i + 1)))
new_more mark w chosen before entries i d within is few new =
    let n = node_of (get_or entries i d) in
    let ms = met before entries i in
    let whole : chosen ≡ taken_by mark ms = is ∙ take_whole w (taken_by mark ms) (subst (λ l. length l < w) is few) in
    let missing : is_in mark n ms ≡ false = sym (is_in-taken mark n ms) ∙ ap (is_in mark n) (sym whole) ∙ new in
    chosen_new mark w chosen ms n whole few missing ∙ ap (λ l. take w (taken_by mark l)) (sym (met_more before entries i d within))

met_rest : (before : List DestId) (entries : List Entry) (i : ℕ) → met before entries i ++ map node_of (drop i entries) ≡ before ++ map node_of entries
met_rest before entries i =
    append_assoc before (map node_of (take i entries)) (map node_of (drop i entries))
    ∙ ap (λ l. before ++ l) (sym (map-append node_of (take i entries) (drop i entries)))
    ∙ ap (λ l. before ++ map node_of l) (take-append-drop i entries)

-- a full choice is that of all entries
pub full_choice : (mark : DestId → ℕ) (w : ℕ) (chosen before : List DestId) (entries : List Entry) (i : ℕ) → chosen ≡ take w (taken_by mark (met before entries i)) → w ≤ length chosen
    → chosen ≡ take w (taken_by mark (before ++ map node_of entries))
full_choice mark w chosen before entries i is full =
    let ms = met before entries i in
    let long : w ≤ length (taken_by mark ms) = omega (arith, length-take w (taken_by mark ms), ap length is) in
    is ∙ sym (take-taken_more mark w ms (map node_of (drop i entries)) long) ∙ ap (λ l. take w (taken_by mark l)) (met_rest before entries i)

-- nothing is chosen from nothing
pub none_chosen : (mark : DestId → ℕ) (w : ℕ) → [] ≡ take w (taken_by mark [])
none_chosen mark zero = refl
none_chosen mark (suc n) = refl
