-- What several readers counted together, a reader at a time.
use Rattle.std.proofs.Common.{◌≡◌, ◌<◌, ◌+◌, ◌++◌, ◌∙◌, ℕ, List, [], ◌∷◌, map, take, length, get_or, refl, ap, arith}
use Rattle.std.specs.Prelude.{sum_by}
use Rattle.std.proofs.lemmas.List.{map-append, take_more}
use Rattle.std.proofs.lemmas.List.Sums.{sum_by_push}
use Rattle.reader_counts.specs.Counts.{counted, totals_after, totals_of}
use Rattle.reader_counts.specs.declared.totals.ReaderTotals.{ReaderTotals}
use Rattle.reader_core.specs.Reader.{ReaderModel}

counted_more : (f : ReaderTotals → ℕ) (all : List ReaderTotals) (t : ReaderTotals)
    → counted (sum_by f (all ++ t ∷ [])) ≡ counted (counted (sum_by f all) + f t)
counted_more f all t = omega (arith, sum_by_push f all t)

totals-same : (a b c d e f g h i j : ℕ) → a ≡ f → b ≡ g → c ≡ h → d ≡ i → e ≡ j
    → let x : ReaderTotals = record { datapoints = a; faults = record { bad_lines = b; bad_pickles = c; bad_rows = d; bad_names = e } } in
    let y : ReaderTotals = record { datapoints = f; faults = record { bad_lines = g; bad_pickles = h; bad_rows = i; bad_names = j } } in x ≡ y
totals-same a b c d e f g h i j p q r s t = rw (p, q, r, s, t) refl

totals-push : (all : List ReaderTotals) (t : ReaderTotals) → totals_of (all ++ t ∷ []) ≡ totals_after (totals_of all) t
totals-push all t =
    totals-same _ _ _ _ _ _ _ _ _ _ (counted_more (λ r. r.datapoints) all t) (counted_more (λ r. r.faults.bad_lines) all t) (counted_more (λ r. r.faults.bad_pickles) all t)
    (counted_more (λ r. r.faults.bad_rows) all t) (counted_more (λ r. r.faults.bad_names) all t)

-- one more reader
pub totals-more : (readers : List ReaderModel) (i : ℕ) (d : ReaderModel) → i < length readers
    → totals_of (map (λ r. r.totals) (take (i + 1) readers)) ≡ totals_after (totals_of (map (λ r. r.totals) (take i readers))) (get_or readers i d).totals
totals-more readers i d within =
    ap (λ (rs : List ReaderModel). totals_of (map (λ r. r.totals) rs)) (take_more readers i d within)
    ∙ ap totals_of (map-append (λ (r : ReaderModel). r.totals) (take i readers) (get_or readers i d ∷ []))
    ∙ totals-push (map (λ r. r.totals) (take i readers)) (get_or readers i d).totals
