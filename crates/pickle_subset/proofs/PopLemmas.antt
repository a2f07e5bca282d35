-- Rows taken from the stack one after the other are the rows above the topmost mark.
use Rattle.std.proofs.Common.{◌≡◌, ℕ, true, Ok, length, take, drop, List, [], ◌∷◌, ◌++◌, reverse, Option, Some, None, option_map, refl, sym, ap, ◌∙◌, append_assoc}
use Rattle.std.proofs.lemmas.List.{reverse-append, reverse-reverse, map_push, map-append, length-map, take_at, drop_at, drop-map}
use Rattle.std.specs.List.{take-map}
use Rattle.pickle_subset.specs.Value as values
use Rattle.pickle_subset.specs.declared.value.Row.{Row}
use Rattle.pickle_subset.specs.Views.{row, rows, begins_with_list}
use Rattle.pickle_subset.specs.Stack.{rows_above, with_row, State, append_rows}

-- with rows that were taken before, which follow those that are found
abbrev pub behind : List values.Row → List values.Row × List values.Item → List values.Row × List values.Item
behind taken found = (found.0 ++ taken, found.1)

-- the rows that were taken, in the order of the stack, and those that are left above the mark are those of all
pub record Takes (all left : List values.Item) (before after : List values.Row) : Type 0 where
  pub taken : List values.Row
  pub rows : after ≡ before ++ reverse taken
  pub above : rows_above all ≡ option_map (behind taken) (rows_above left)

regroup : (row : values.Row) (taken : List values.Row) (found : Option (List values.Row × List values.Item)) → option_map (behind taken) (option_map (with_row row) found) ≡ option_map (behind (row ∷ taken)) found
regroup row taken None = refl
regroup row taken (Some x) = ap (λ (rs : List values.Row). Some (rs, x.1)) (append_assoc x.0 (row ∷ []) taken)

pub Takes-row : (all left new : List values.Item) (before after : List values.Row) (row : values.Row) → left ≡ values.Three row ∷ new → Takes all left before after → Takes all new before (after ++ row ∷ [])
Takes-row all left new before after row is t = record {
  taken = row ∷ t.taken;
  rows =
      ap (λ (rs : List values.Row). rs ++ row ∷ []) t.rows
      ∙ append_assoc before (reverse t.taken) (row ∷ [])
      ∙ ap (λ (rs : List values.Row). before ++ rs) (sym (reverse-append (row ∷ []) t.taken));
  above = t.above ∙ ap (λ (s : List values.Item). option_map (behind t.taken) (rows_above s)) is ∙ regroup row t.taken (rows_above new);
}

-- ---- rows reversed behind others

map-reverse : (xs : List Row) → rows (reverse xs) ≡ reverse (rows xs)
map-reverse [] = refl
map-reverse (x ∷ xs) =
    ap rows (reverse-append (x ∷ []) xs)
    ∙ map_push row (reverse xs) x
    ∙ ap (λ (rs : List values.Row). rs ++ row x ∷ []) (map-reverse xs)
    ∙ sym (reverse-append (row x ∷ []) (rows xs))

pub rows-turned : (before mid after : List Row) (found : List values.Row) (start : ℕ) → start ≡ length before → rows mid ≡ rows before ++ reverse found → after ≡ take start mid ++ reverse (drop start mid) → rows after ≡ rows before ++ found
rows-turned before mid after found start at added turned =
    let front : take start (rows mid) ≡ rows before = ap (take start) added ∙ take_at (rows before) (reverse found) start (length-map before row ∙ sym at) in
    let back : drop start (rows mid) ≡ reverse found = ap (drop start) added ∙ drop_at (rows before) (reverse found) start (length-map before row ∙ sym at) in
    ap rows turned
    ∙ map-append row (take start mid) (reverse (drop start mid))
    ∙ ap (λ (rs : List values.Row). rs ++ rows (reverse (drop start mid))) (sym (take-map row start mid) ∙ front)
    ∙ ap (λ (rs : List values.Row). rows before ++ rs) (map-reverse (drop start mid) ∙ ap reverse (sym (drop-map row start mid) ∙ back) ∙ reverse-reverse found)

pub appended : (items : List values.Item) (found : List values.Row) (s : State) → begins_with_list items ≡ true → append_rows found items s ≡ Ok (record s { stack = items; rows = s.rows ++ found })
appended [] found s on_top = absurd cc
appended (values.Marked ∷ below) found s on_top = absurd cc
appended (values.Rows ∷ below) found s on_top = refl
appended (values.One scalar ∷ below) found s on_top = absurd cc
appended (values.Two pair ∷ below) found s on_top = absurd cc
appended (values.Three row ∷ below) found s on_top = absurd cc
