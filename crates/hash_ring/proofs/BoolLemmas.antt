-- Tests joined by "or".
use Rattle.std.proofs.Common.{◌≡◌, ℕ, Bool, true, false, cond, eqb, ◌||◌, refl, sym, arith}
use Rattle.std.proofs.lemmas.Bool.{false≢true}
use Rattle.std.proofs.lemmas.Bool.Decides.{nat_tests}

pub or_false : (a b : Bool) → (a || b) ≡ false → (a ≡ false) × (b ≡ false)
or_false true b h = absurd (false≢true (sym h))
or_false false b h = (refl, h)

pub or_true : (a b : Bool) → b ≡ true → (a || b) ≡ true
or_true true b h = refl
or_true false b h = h

pub or_regroup : (a b c : Bool) → (a || (b || c)) ≡ ((a || b) || c)
or_regroup true b c = refl
or_regroup false b c = refl

-- two tests before a third, in the other order
pub or_swap : (a b c : Bool) → (a || (b || c)) ≡ (b || (a || c))
or_swap true true c = refl
or_swap true false c = refl
or_swap false true c = refl
or_swap false false c = refl

-- a first test joined to the two parts of a list
pub or_left : (n a b c : Bool) → (a || b) ≡ c → ((n || a) || b) ≡ (n || c)
or_left true a b c h = refl
or_left false a b c h = h

pub or_none : (a : Bool) → (a || false) ≡ cond a true false
or_none true = refl
or_none false = refl

pub or_under : (a b c : Bool) → (a || cond b true c) ≡ cond b true (a || c)
or_under true true c = refl
or_under true false c = refl
or_under false true c = refl
or_under false false c = refl

-- tests that fail alike give the same answer
pub same_when_false : (a b : Bool) → (a ≡ false → b ≡ false) → (b ≡ false → a ≡ false) → a ≡ b
same_when_false true true to from = refl
same_when_false true false to from = from refl
same_when_false false b to from = sym (to refl)

pub eqb_flips : (x y : ℕ) → eqb x y ≡ eqb y x
eqb_flips x y = grind (arith, nat_tests)
