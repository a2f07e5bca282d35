use Rattle.std.proofs.Common.{◌≡◌, ℕ, ◌+◌, ◌++◌, length, ap, ◌∙◌, arith}
use Rattle.std.specs.Prelude.{flat_map}
use Rattle.std.proofs.lemmas.List.{length-append}
use Rattle.backlog.specs.Lines.{whole_lines}
use Rattle.backlog.specs.Place.{Place}
use Rattle.backlog.proofs.cursor.Cursor.take.Goals as goal

abbrev place_of : ℕ → ℕ → Place
place_of start next = record { start = start; next = next }

same-place : (a b x y : ℕ) → a ≡ x → b ≡ y → place_of a b ≡ place_of x y
same-place a b x y first second = ap (λ (n : ℕ). place_of n b) first ∙ ap (λ (n : ℕ). place_of x n) second

pub returns : goal.returns
returns c = record {
  took = λ over before is fits.
      let taken = c.args.taken.now in
      let base = length (flat_map whole_lines over) in
      let seen = c.self.view_is ∙ is in
      let start = ap (λ (p : Place). p.start) seen in
      let next = ap (λ (p : Place). p.next) seen in
      same-place _ _ (base + length (whole_lines (before ++ taken))) (base + length (before ++ taken))
      (c.start_behind-self-inside.ensures base before start next fits)
      (omega (arith, c.saturating_add-self-inside.ensures, next, length-append before taken, fits));
}
