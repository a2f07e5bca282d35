-- Numbers of one step, one history or one entry more.
use Rattle.std.proofs.Common.{◌≡◌, ◌<◌, ◌≤◌, ◌+◌, ◌*◌, ℕ, zero, suc, List, [], ◌∷◌, ◌++◌, length, map, take, refl, sym, ap, ◌∙◌, arith}
use Rattle.std.proofs.lemmas.Grind.{common_steps}
use Rattle.std.proofs.lemmas.List.{append-nil, map-append}
use Rattle.dest_queue.specs.Step.{recorded_of}
use Rattle.dest_queue.specs.declared.step.Step.{Step}
use Rattle.queue_records.proofs.Places.{take_one_more}
use Rattle.std.proofs.lemmas.List.Elements.{filter-append}
use Rattle.std.specs.Prelude.{◌==◌, if◌then◌else◌, slice_get, Some}
use Rattle.dest_queue.specs.Queue.{most_steps}
use Rattle.dest_queue.specs.RecordedStep.{RecordedStep}
use Rattle.dest_queue.specs.Numbered.{NumberedStep, numbered_from, all_numbered}
use Rattle.queue_records.specs.Numbered.{StepAt, made_by, key_of, with_number, with_numbers}

pub numbered_more : (dest number : ℕ) (ss : List RecordedStep) (s : RecordedStep) → numbered_from dest number (ss ++ s ∷ []) ≡ numbered_from dest number ss ++ record { dest = dest; number = number + length ss; step = s } ∷ []
numbered_more dest number [] s = ap (λ n. record { dest = dest; number = n; step = s } ∷ []) (omega arith)
numbered_more dest number (x ∷ ss) s = ap (λ r. record { dest = dest; number = number; step = x } ∷ r) (numbered_more dest (number + 1) ss s ∙ ap (λ n. numbered_from dest (number + 1) ss ++ record { dest = dest; number = n; step = s } ∷ []) (omega arith))

pub append-assoc : {A : Type 0} (xs ys zs : List A) → (xs ++ ys) ++ zs ≡ xs ++ (ys ++ zs)
append-assoc [] ys zs = refl
append-assoc (x ∷ xs) ys zs = ap (λ r. x ∷ r) (append-assoc xs ys zs)

pub all_more : (dest : ℕ) (hs : List (List RecordedStep)) (h : List RecordedStep) → all_numbered dest (hs ++ h ∷ []) ≡ all_numbered dest hs ++ numbered_from (dest + length hs) (most_steps * (dest + length hs)) h
all_more dest [] h = append-nil _ ∙ ap (λ d. numbered_from d (most_steps * d) h) (omega arith)
all_more dest (x ∷ hs) h =
    ap (λ r. numbered_from dest (most_steps * dest) x ++ r) (all_more (dest + 1) hs h ∙ ap (λ d. all_numbered (dest + 1) hs ++ numbered_from d (most_steps * d) h) (omega arith))
    ∙ sym (append-assoc (numbered_from dest (most_steps * dest) x) (all_numbered (dest + 1) hs) _)

pub with_numbers_more : (xs : List StepAt) (ns : List ℕ) (x : StepAt) (n : ℕ) → length ns ≡ length xs → with_numbers (xs ++ x ∷ []) (ns ++ n ∷ []) ≡ with_numbers xs ns ++ with_number n x ∷ []
with_numbers_more [] [] x n same = refl
with_numbers_more [] (m ∷ ns) x n same = absurd (omega (arith, same))
with_numbers_more (y ∷ xs) [] x n same = absurd (omega (arith, same))
with_numbers_more (y ∷ xs) (m ∷ ns) x n same = ap (λ r. with_number m y ∷ r) (with_numbers_more xs ns x n (omega (arith, same)))

-- one step, seen by its key
pub made_one : (readers k key : ℕ) (x : NumberedStep) → key ≡ key_of readers x.dest x.step → made_by readers k (x ∷ []) ≡ (if key == k then x ∷ [] else [])
made_one readers k key x is = rw is (refl)

pub made_more : (readers k key : ℕ) (xs : List NumberedStep) (x : NumberedStep) → key ≡ key_of readers x.dest x.step → made_by readers k (xs ++ x ∷ []) ≡ made_by readers k xs ++ (if key == k then x ∷ [] else [])
made_more readers k key xs x is = filter-append (λ y. key_of readers y.dest y.step == k) xs (x ∷ []) ∙ ap (λ r. made_by readers k xs ++ r) (made_one readers k key x is)

-- the steps of a history up to a place, and the one there
pub steps_more : (readers k key dest number i : ℕ) (steps : List Step) (s : Step) → i < length steps → slice_get steps i ≡ Some s → key ≡ key_of readers dest (recorded_of s)
    → made_by readers k (numbered_from dest number (map recorded_of (take (i + 1) steps)))
    ≡ made_by readers k (numbered_from dest number (map recorded_of (take i steps))) ++ (if key == k then record { dest = dest; number = number + i; step = recorded_of s } ∷ [] else [])
steps_more readers k key dest number i steps s within at is =
    let count : length (map recorded_of (take i steps)) ≡ i = grind (arith, common_steps) in
    let listed : map recorded_of (take (i + 1) steps) ≡ map recorded_of (take i steps) ++ recorded_of s ∷ [] = ap (map recorded_of) (take_one_more steps i s at) ∙ map-append recorded_of (take i steps) (s ∷ []) in
    ap (λ ss. made_by readers k (numbered_from dest number ss)) listed
    ∙ (ap (made_by readers k) (numbered_more dest number (map recorded_of (take i steps)) (recorded_of s) ∙ ap (λ n. numbered_from dest number (map recorded_of (take i steps)) ++ record { dest = dest; number = number + n; step = recorded_of s } ∷ []) count)
    ∙ made_more readers k key (numbered_from dest number (map recorded_of (take i steps))) (record { dest = dest; number = number + i; step = recorded_of s }) is)

-- the histories up to a place, and the one there
pub histories_more : {A : Type 0} (f : A → List RecordedStep) (readers k i : ℕ) (hs : List A) (h : A) → i < length hs → slice_get hs i ≡ Some h
    → made_by readers k (all_numbered 0 (map f (take (i + 1) hs)))
    ≡ made_by readers k (all_numbered 0 (map f (take i hs))) ++ made_by readers k (numbered_from i (most_steps * i) (f h))
histories_more f readers k i hs h within at =
    let count : 0 + length (map f (take i hs)) ≡ i = grind (arith, common_steps) in
    let listed : map f (take (i + 1) hs) ≡ map f (take i hs) ++ f h ∷ [] = ap (map f) (take_one_more hs i h at) ∙ map-append f (take i hs) (h ∷ []) in
    ap (λ xs. made_by readers k (all_numbered 0 xs)) listed
    ∙ (ap (made_by readers k) (all_more 0 (map f (take i hs)) (f h) ∙ ap (λ n. all_numbered 0 (map f (take i hs)) ++ numbered_from n (most_steps * n) (f h)) count)
    ∙ filter-append (λ y. key_of readers y.dest y.step == k) (all_numbered 0 (map f (take i hs))) (numbered_from i (most_steps * i) (f h)))

-- the entries up to a place with their numbers, and the one there
pub entries_more : {A : Type 0} (f : A → StepAt) (es : List A) (e : A) (ns : List ℕ) (i n : ℕ) → i < length es → slice_get es i ≡ Some e → length ns ≡ i
    → with_numbers (map f (take (i + 1) es)) (ns ++ n ∷ []) ≡ with_numbers (map f (take i es)) ns ++ with_number n (f e) ∷ []
entries_more f es e ns i n within at count =
    let same : length ns ≡ length (map f (take i es)) = grind (arith, common_steps) in
    let listed : map f (take (i + 1) es) ≡ map f (take i es) ++ f e ∷ [] = ap (map f) (take_one_more es i e at) ∙ map-append f (take i es) (e ∷ []) in
    ap (λ xs. with_numbers xs (ns ++ n ∷ [])) listed ∙ with_numbers_more (map f (take i es)) ns (f e) n same

pub take_whole : {A : Type 0} (xs : List A) (n : ℕ) → length xs ≤ n → take n xs ≡ xs
take_whole [] zero few = refl
take_whole [] (suc n) few = refl
take_whole (x ∷ xs) zero few = absurd (omega (arith, few))
take_whole (x ∷ xs) (suc n) few = ap (λ r. x ∷ r) (take_whole xs n (omega (arith, few)))
