use Rattle.std.proofs.Common.{◌≡◌, ◌-◌, ◌/◌, ◌^◌, ◌≤◌, ℕ, Bool, List, cond, eqb, length, take, drop, map, sym, ap, ◌∙◌, arith, length-take}
use Rattle.std.proofs.lemmas.Bool.{ne_eqb}
use Rattle.std.proofs.lemmas.List.{length-drop, take_all}
use Rattle.std.proofs.lemmas.List.Sums.{prefix_len-le-length}
use Rattle.std.proofs.lemmas.Simd.{bitmask_splat}
use Rattle.std.specs.Prelude.{nat_le}
use Rattle.std.specs.List.{prefix_len}
use lib.Count.{count_trailing_zeros}
use lib.Lanes.{mask_l}
use mir.Syntax.{w8}
use Rattle.line_text.specs.Field.{is_visible}
use Rattle.line_text.proofs.PlainLemmas.{first_in_shifted}
use Rattle.line_text.proofs.block.visible_in_last.Goals as goal

-- a byte at which the bytes above a space end
abbrev is_end : ℕ → Bool
is_end b = nat_le b 32

-- the first such byte in the last bytes of a block
first_in_last : (text : List ℕ) (count : ℕ) → length text ≡ 16 → count ≤ 16
    → cond (eqb (mask_l (map is_end (take 16 text)) / 2 ^ (16 - count)) 0) count (count_trailing_zeros 64 (mask_l (map is_end (take 16 text)) / 2 ^ (16 - count)))
    ≡ prefix_len is_visible (drop (16 - count) text)
first_in_last text count long few =
    let k = 16 - count in
    let whole = take_all 16 text (omega (arith, long)) in
    let last : length (drop k (take 16 text)) ≡ count = simp (length-drop, length-take) (omega (arith, long, few)) in
    first_in_shifted is_end (take 16 text) k count last (omega (arith, few)) ∙ ap (λ (l : List ℕ). prefix_len is_visible (drop k l)) whole

pub returns-then-others-eq0-clause-len : goal.returns-then-others-eq0-clause-len
returns-then-others-eq0-clause-len c =
    let text = c.args.block.now in
    let count = c.args.count in
    let long : length (take 16 text) ≡ 16 = simp length-take (omega (arith, c.requires.block)) in
    let mask = ap (λ (n : ℕ). n / 2 ^ (16 - count)) (bitmask_splat w8 nat_le (take 16 text) 16 32 long (omega arith)) in
    let none : mask_l (map is_end (take 16 text)) / 2 ^ (16 - count) ≡ 0 = sym mask ∙ c.if-others-eq0.true in
    sym (ap (λ (m : ℕ). cond (eqb m 0) count (count_trailing_zeros 64 m)) none) ∙ first_in_last text count c.requires.block c.requires.count

pub returns-else-others-eq0-clause-len : goal.returns-else-others-eq0-clause-len
returns-else-others-eq0-clause-len c =
    let text = c.args.block.now in
    let count = c.args.count in
    let long : length (take 16 text) ≡ 16 = simp length-take (omega (arith, c.requires.block)) in
    let mask = ap (λ (n : ℕ). n / 2 ^ (16 - count)) (bitmask_splat w8 nat_le (take 16 text) 16 32 long (omega arith)) in
    let left = mask_l (map is_end (take 16 text)) / 2 ^ (16 - count) in
    let some = ne_eqb left 0 (λ e. c.if-others-eq0.false (mask ∙ e)) in
    ap (count_trailing_zeros 64) mask ∙ sym (ap (λ (t : Bool). cond t count (count_trailing_zeros 64 left)) some) ∙ first_in_last text count c.requires.block c.requires.count

pub returns-else-others-eq0-clause-within : goal.returns-else-others-eq0-clause-within
returns-else-others-eq0-clause-within c =
    let rest = drop (16 - c.args.count) c.args.block.now in
    omega (arith, returns-else-others-eq0-clause-len c, prefix_len-le-length is_visible rest, length-drop (16 - c.args.count) c.args.block.now, c.requires.block, c.requires.count)
