-- Records are met one after the other.
use Rattle.std.proofs.Common.{◌≡◌, ◌<◌, ◌+◌, ◌*◌, ℕ, zero, suc, List, [], ◌∷◌, ◌++◌, length, map, take, refl, sym, ap, ◌∙◌, subst, arith}
use Rattle.std.proofs.lemmas.Grind.{common_steps}
use Rattle.std.proofs.lemmas.List.{append-nil, map-append}
use Rattle.std.specs.Prelude.{slice_get, Some, Option, None}
use Rattle.std.specs.List.{range_with_len}
use Rattle.dest_queue.specs.Queue.{most_steps}
use Rattle.dest_queue.specs.RecordedStep.{RecordedStep}
use Rattle.dest_queue.specs.Numbered.{NumberedStep, history_numbers}
use Rattle.queue_records.specs.Numbered.{StepAt, with_numbers, all_with_numbers}
use Rattle.queue_records.specs.Met.{AreMet, Meets}
use Rattle.queue_records.proofs.Places.{take_one_more}
use Rattle.queue_records.proofs.Numbering.{append-assoc}

range_more : (a n : ℕ) → range_with_len a (suc n) ≡ range_with_len a n ++ (a + n) ∷ []
range_more a zero = ap (λ k. k ∷ []) (omega arith)
range_more a (suc n) = ap (λ r. a ∷ r) (range_more (a + 1) n ∙ ap (λ k. range_with_len (a + 1) n ++ k ∷ []) (omega arith))

pub range_one_more : (a n : ℕ) → range_with_len a (n + 1) ≡ range_with_len a n ++ (a + n) ∷ []
range_one_more a n = let same : n + 1 ≡ suc n = omega arith in ap (range_with_len a) same ∙ range_more a n

-- the numbers of one history more
numbers_more : (dest : ℕ) (hs : List (List RecordedStep)) (h : List RecordedStep) → history_numbers dest (hs ++ h ∷ []) ≡ history_numbers dest hs ++ range_with_len (most_steps * (dest + length hs)) (length h) ∷ []
numbers_more dest [] h = ap (λ d. range_with_len (most_steps * d) (length h) ∷ []) (omega arith)
numbers_more dest (x ∷ hs) h = ap (λ r. range_with_len (most_steps * dest) (length x) ∷ r) (numbers_more (dest + 1) hs h ∙ ap (λ d. history_numbers (dest + 1) hs ++ range_with_len (most_steps * d) (length h) ∷ []) (omega arith))

pub history_more : {A : Type 0} (f : A → List RecordedStep) (hs : List A) (h : A) (i : ℕ) → i < length hs → slice_get hs i ≡ Some h
    → history_numbers 0 (map f (take (i + 1) hs)) ≡ history_numbers 0 (map f (take i hs)) ++ range_with_len (most_steps * i) (length (f h)) ∷ []
history_more f hs h i within at =
    let count : 0 + length (map f (take i hs)) ≡ i = grind (arith, common_steps) in
    let listed : map f (take (i + 1) hs) ≡ map f (take i hs) ++ f h ∷ [] = ap (map f) (take_one_more hs i h at) ∙ map-append f (take i hs) (h ∷ []) in
    ap (history_numbers 0) listed ∙ (numbers_more 0 (map f (take i hs)) (f h) ∙ ap (λ n. history_numbers 0 (map f (take i hs)) ++ range_with_len (most_steps * n) (length (f h)) ∷ []) count)

all_numbers_more : (xss : List (List StepAt)) (nss : List (List ℕ)) (xs : List StepAt) (ns : List ℕ) → length nss ≡ length xss → all_with_numbers (xss ++ xs ∷ []) (nss ++ ns ∷ []) ≡ all_with_numbers xss nss ++ with_numbers xs ns
all_numbers_more [] [] xs ns same = append-nil _
all_numbers_more [] (m ∷ nss) xs ns same = absurd (omega (arith, same))
all_numbers_more (y ∷ xss) [] xs ns same = absurd (omega (arith, same))
all_numbers_more (y ∷ xss) (m ∷ nss) xs ns same = ap (λ r. with_numbers y m ++ r) (all_numbers_more xss nss xs ns (omega (arith, same))) ∙ sym (append-assoc (with_numbers y m) (all_with_numbers xss nss) (with_numbers xs ns))

pub all_numbers_join : (xss yss : List (List StepAt)) (nss mss : List (List ℕ)) → length nss ≡ length xss → all_with_numbers (xss ++ yss) (nss ++ mss) ≡ all_with_numbers xss nss ++ all_with_numbers yss mss
all_numbers_join [] yss [] mss same = refl
all_numbers_join [] yss (m ∷ nss) mss same = absurd (omega (arith, same))
all_numbers_join (x ∷ xss) yss [] mss same = absurd (omega (arith, same))
all_numbers_join (x ∷ xss) yss (m ∷ nss) mss same = ap (λ r. with_numbers x m ++ r) (all_numbers_join xss yss nss mss (omega (arith, same))) ∙ sym (append-assoc (with_numbers x m) (all_with_numbers xss nss) (all_with_numbers yss mss))

pub meets_more : {A D : Type 0} (f : A → List StepAt) (readers : ℕ) (found : List (List NumberedStep)) (rs : List A) (r : A) (i : ℕ) (nss : List (List ℕ)) (ns : List ℕ) (least least' : Option D) (old mid new : List ℕ)
    → i < length rs → slice_get rs i ≡ Some r → length nss ≡ i → length ns ≡ length (f r) → (least' ≡ None → least ≡ None)
    → Meets readers found (map f (take i rs)) nss least old mid
    → (least' ≡ None → (seen : List NumberedStep) → AreMet readers found seen mid → AreMet readers found (seen ++ with_numbers (f r) ns) new)
    → Meets readers found (map f (take (i + 1) rs)) (nss ++ ns ∷ []) least' old new
meets_more f readers found rs r i nss ns least least' old mid new within at count own before m step =
    let same : length nss ≡ length (map f (take i rs)) = grind (arith, common_steps) in
    let listed : map f (take (i + 1) rs) ≡ map f (take i rs) ++ f r ∷ [] = ap (map f) (take_one_more rs i r at) ∙ map-append f (take i rs) (r ∷ []) in
    let more : all_with_numbers (map f (take (i + 1) rs)) (nss ++ ns ∷ []) ≡ all_with_numbers (map f (take i rs)) nss ++ with_numbers (f r) ns = ap (λ xs. all_with_numbers xs (nss ++ ns ∷ [])) listed ∙ all_numbers_more (map f (take i rs)) nss (f r) ns same in
    record {
      lengths =
          map-append (λ (a : List ℕ). length a) nss (ns ∷ [])
          ∙ (ap (λ a. a ++ length ns ∷ []) m.lengths
          ∙ (ap (λ n. map (λ (a : List StepAt). length a) (map f (take i rs)) ++ n ∷ []) own
          ∙ (sym (map-append (λ (a : List StepAt). length a) (map f (take i rs)) (f r ∷ [])) ∙ ap (map (λ (a : List StepAt). length a)) (sym listed))));
      met = λ none seen met.
          subst (λ xs. AreMet readers found xs new) (append-assoc seen (all_with_numbers (map f (take i rs)) nss) (with_numbers (f r) ns) ∙ ap (λ a. seen ++ a) (sym more)) (step none (seen ++ all_with_numbers (map f (take i rs)) nss) (m.met (before none) seen met));
    }
