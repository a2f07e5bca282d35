-- What a call returns that may run out of memory: its result, or out of memory, by its own fault.
use Rattle.std.specs.Prelude.{◌≡◌, Result, Ok, Err, ◌⊎◌}

-- the fault is that of a reading, unless memory ran out
abbrev pub Fails : {Y F : Type 0} → F → Result Y F → F → Type 0
Fails no_memory read fault = (fault ≡ no_memory) ⊎ (read ≡ Err fault)

-- what was returned, seen by view, is what a reading gives, unless memory ran out
abbrev pub Gives : {X Y F : Type 0} → F → (X → Y) → Result X F → Result Y F → Type 0
Gives no_memory view (Ok x) read = read ≡ Ok (view x)
Gives no_memory view (Err fault) read = Fails no_memory read fault
