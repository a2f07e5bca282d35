-- What a connection takes of a rest.
use Rattle.std.proofs.Common.{◌≡◌, ℕ, Bool, true, false, true≢false, List, [], ◌++◌, take, drop, Option, Some, None, refl, sym, ap, ◌∙◌, append_assoc, append-nil, ◌==◌, if◌then◌else◌, arith}
use Rattle.std.specs.Io.KnownBytes.{Appends}
use Rattle.std.proofs.lemmas.Bool.{eqb-true}
use Rattle.std.proofs.lemmas.List.{take-append-drop}
use Rattle.std.proofs.lemmas.Grind.{common_steps}
use Rattle.line_text.specs.Datapoint.{Datapoint}
use Rattle.line_text.specs.Print.{printed_lines}
use Rattle.relay_base.proofs.Growth.{Appends-then}
use Rattle.dest_writer.specs.Drive.{Writes, driven_by, driven_of}
use Rattle.dest_writer.specs.Writer.{WriterState, wants_batch, left, bytes_left, bytes_written, writer_after_take}
use Rattle.dest_writer.specs.declared.counting.Outcome.{Outcome}
use Rattle.dest_writer.specs.declared.counting.Outcome.TheVariants as outcome
use Rattle.dest_writer.specs.declared.driven.Driven.{Driven}
use Rattle.dest_writer.specs.declared.driven.Driven.TheVariants.{Idle}
use Rattle.dest_writer.proofs.LinesLemmas.{printed_lines-append}
use Rattle.dest_writer.proofs.StoredLemmas.{wants_batch-empty}
use Rattle.dest_writer.proofs.WriterLemmas.{leaves-the_rest}
use Rattle.handover.specs.Rest.{TookFirst}

-- the next batch in hand: what is left is the same
pub text-filled : (w : WriterState) (limit : ℕ) (queued : List Datapoint) → wants_batch w ≡ true → bytes_left (writer_after_take (take limit queued) w) ++ printed_lines (drop limit queued) ≡ bytes_left w ++ printed_lines queued
text-filled w limit queued wants =
    let empty : bytes_left w ≡ [] = rw (wants_batch-empty w wants) (grind (arith, common_steps)) in
    sym (printed_lines-append (take limit queued) (drop limit queued))
    ∙ ap printed_lines (take-append-drop limit queued)
    ∙ ap (λ (b : List ℕ). b ++ printed_lines queued) (sym empty)

appends-nothing : (a : Option (List ℕ)) → Appends a a []
appends-nothing None = tt
appends-nothing (Some held) = sym (append-nil held)

-- nothing more was taken
pub took-nothing : (text rest : List ℕ) (a : Option (List ℕ)) → text ≡ rest → TookFirst text rest a a
took-nothing text rest a same = record { taken = []; cut = same; output = appends-nothing a }

-- first some, and then some more
pub took-then : (text more rest : List ℕ) (a b c : Option (List ℕ)) → TookFirst text more a b → TookFirst more rest b c → TookFirst text rest a c
took-then text more rest a b c first next =
    record {
      taken = first.taken ++ next.taken;
      cut = first.cut ∙ ap (λ (t : List ℕ). first.taken ++ t) next.cut ∙ sym (append_assoc first.taken next.taken rest);
      output = Appends-then a b c first.taken next.taken first.output next.output;
    }

-- the writer's next bytes, while something is queued behind them
pub took-written : (count : ℕ) (old new : WriterState) (queued : List Datapoint) (a b : Option (List ℕ)) → Writes count old new a b → TookFirst (bytes_left old ++ printed_lines queued) (bytes_left new ++ printed_lines queued) a b
took-written count old new queued a b writes =
    let rest : bytes_left new ≡ drop count (bytes_left old) = ap bytes_left writes.step ∙ leaves-the_rest count old writes.within in
    let whole : bytes_left old ≡ bytes_written count old ++ bytes_left new = sym (take-append-drop count (bytes_left old)) ∙ ap (λ (t : List ℕ). bytes_written count old ++ t) (sym rest) in
    record {
      taken = bytes_written count old;
      cut = ap (λ (t : List ℕ). t ++ printed_lines queued) whole ∙ append_assoc (bytes_written count old) (bytes_left new) (printed_lines queued);
      output = writes.bytes;
    }

-- an idle writer has nothing left
abbrev is_idle : Driven → Bool
is_idle Idle = true
is_idle _ = false

by-not_idle : (last : Outcome) → is_idle (driven_by last) ≡ false
by-not_idle outcome.Moved = refl
by-not_idle outcome.Interrupted = refl
by-not_idle outcome.WouldBlock = refl
by-not_idle outcome.Failed = refl

idle-when : (none_left : Bool) (last : Outcome) → (if none_left then Idle else driven_by last) ≡ Idle → none_left ≡ true
idle-when true last is = refl
idle-when false last is = absurd (true≢false (sym (ap is_idle is) ∙ by-not_idle last))

pub idle-left : (w : WriterState) (last : Outcome) → driven_of (left w) last ≡ Idle → bytes_left w ≡ []
idle-left w last is =
    let none : left w ≡ 0 = eqb-true (left w) 0 (idle-when (left w == 0) last is) in
    grind (arith, common_steps, none)
