use Rattle.std.proofs.Common.{◌≡◌, ◌++◌, drop, map}
use Rattle.replay.specs.RunText.{handed_lines}
use Rattle.replay.proofs.run_text.push_connections.Given as goal

-- the lines so far and those of what is left are those of all
abbrev pub invariant-loop-place : goal.invariant-loop-place
invariant-loop-place l =
    l.text.items ++ handed_lines l.fn.form l.fn.dest l.place (drop l.place (map (λ bytes. bytes.items) l.connections))
    ≡ l.fn.text.items ++ handed_lines l.fn.form l.fn.dest 0 (map (λ bytes. bytes.items) l.connections)
