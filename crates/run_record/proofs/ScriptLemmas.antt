-- The text of a script, line by line, and what its lines say together.
use Rattle.std.proofs.Common.{◌≡◌, ℕ, suc, ◌+◌, ◌<◌, ◌≤◌, Bool, false, cond, List, [], ◌∷◌, ◌++◌, length, map, get_or, Some, None, Ok, Err, refl, ap, ap₂, sym, ◌∙◌, arith, append_assoc, append-nil, add-zero, length-append}
use Rattle.std.specs.Prelude.{◌==◌, nat_le, All}
use Rattle.std.specs.List.{slice_split}
use Rattle.std.proofs.lemmas.Bool.{ne_eqb, leb-true}
use Rattle.std.proofs.lemmas.Bool.Decides.{nat_tests}
use Rattle.std.proofs.lemmas.List.{map-append}
use Rattle.std.proofs.lemmas.List.Elements.{All-from_get_or}
use Rattle.std.proofs.lemmas.List.Splits.{slice_split_at}
use Rattle.dest_queue.specs.declared.queue.TheConstants.{MOST_READERS}
use Rattle.reader_core.specs.declared.kind.ReaderKind.{ReaderKind}
use Rattle.relay_core.specs.World.{RunEvent}
use Rattle.replay.specs.declared.script_fault.ScriptFault.{ScriptFault}
use Rattle.replay.specs.declared.script_fault.ScriptFault.TheVariants.{BadLine}
use Rattle.replay.specs.RunText.{events_of}
use Rattle.replay.specs.ScriptEvent.{NumberedEvent}
use Rattle.replay.specs.ScriptLine.{Meaning, Skipped, Reader, Event, meaning_of}
use Rattle.replay.specs.ScriptText.{ScriptText, meanings_of, kinds_of, events_after, script_in, is_faulty, is_without_readers, first_fault, script_unless, script_of}
use Rattle.run_record.specs.Laws.{IsWritable, AreWritable, numbered_after, script_with}
use Rattle.run_record.specs.ScriptLines.{reader_words, reader_line, reader_lines, event_words, event_lines, script_text}
use Rattle.run_record.proofs.LineMeanings.{IsLine, is_printed, reader-meaning, event-meaning, reader-is_line, event-is_line}
use Rattle.run_record.proofs.Words.{list_all-get_or}

-- ---- the lines of the text

abbrev is_newline : ℕ → Bool
is_newline b = b == 10

no_newline : (line : List ℕ) → IsLine line → (k : ℕ) → k < length line → is_newline (get_or line k 0) ≡ false
no_newline line is k lt =
    let above = leb-true 32 (get_or line k 0) (list_all-get_or is_printed line k is lt) in
    ne_eqb (get_or line k 0) 10 (λ e. absurd (omega arith))

split_line : (line rest : List ℕ) → IsLine line → slice_split is_newline (line ++ 10 ∷ rest) ≡ line ∷ slice_split is_newline rest
split_line line rest is = slice_split_at is_newline line 10 rest (All-from_get_or (λ b. is_newline b ≡ false) line 0 (no_newline line is)) refl

-- a line, and then others
first_meaning : (line rest : List ℕ) (says : Meaning) (others : List Meaning) → IsLine line → meaning_of line ≡ says → meanings_of rest ≡ others → meanings_of (line ++ 10 ∷ rest) ≡ says ∷ others
first_meaning line rest says others is first then =
    ap (map meaning_of) (split_line line rest is) ∙ ap₂ (λ (m : Meaning) (ms : List Meaning). m ∷ ms) first then

meanings-readers : (kinds : List ReaderKind) (rest : List ℕ) → meanings_of (reader_lines kinds ++ rest) ≡ map Reader kinds ++ meanings_of rest
meanings-readers [] rest = refl
meanings-readers (kind ∷ kinds) rest =
    ap meanings_of (append_assoc (reader_line kind) (reader_lines kinds) rest ∙ append_assoc (reader_words kind) (10 ∷ []) (reader_lines kinds ++ rest))
    ∙ first_meaning (reader_words kind) (reader_lines kinds ++ rest) (Reader kind) (map Reader kinds ++ meanings_of rest) (reader-is_line kind) (reader-meaning kind) (meanings-readers kinds rest)

meanings-events : (events : List RunEvent) → All IsWritable events → meanings_of (event_lines events) ≡ map Event events ++ Skipped ∷ []
unfolding meaning_of
meanings-events [] each = refl
meanings-events (event ∷ events) each =
    let first : IsWritable event = each 0 event (omega arith) in
    ap meanings_of (append_assoc (event_words event) (10 ∷ []) (event_lines events))
    ∙ first_meaning (event_words event) (event_lines events) (Event event) (map Event events ++ Skipped ∷ []) (event-is_line event first) (event-meaning event first)
    (meanings-events events (λ k d lt. each (suc k) d (omega (arith, lt))))

-- what the lines say
abbrev lines_with : List ReaderKind → List RunEvent → List Meaning
lines_with kinds events = map Reader kinds ++ (map Event events ++ Skipped ∷ [])

text_meanings : (kinds : List ReaderKind) (events : List RunEvent) → All IsWritable events → meanings_of (script_text kinds events) ≡ lines_with kinds events
text_meanings kinds events each = meanings-readers kinds (event_lines events) ∙ ap (λ (ms : List Meaning). map Reader kinds ++ ms) (meanings-events events each)

-- ---- their readers and events

kinds-readers : (kinds : List ReaderKind) (rest : List Meaning) → kinds_of (map Reader kinds ++ rest) ≡ kinds ++ kinds_of rest
kinds-readers [] rest = refl
kinds-readers (kind ∷ kinds) rest = ap (λ (ks : List ReaderKind). kind ∷ ks) (kinds-readers kinds rest)

kinds-events : (events : List RunEvent) (rest : List Meaning) → kinds_of (map Event events ++ rest) ≡ kinds_of rest
kinds-events [] rest = refl
kinds-events (event ∷ events) rest = kinds-events events rest

events-readers : (before : ℕ) (kinds : List ReaderKind) (rest : List Meaning) → events_after before (map Reader kinds ++ rest) ≡ events_after (before + length kinds) rest
events-readers before [] rest = ap (λ (n : ℕ). events_after n rest) (sym (add-zero before))
events-readers before (kind ∷ kinds) rest =
    let next : before + 1 + length kinds ≡ before + length (kind ∷ kinds) = omega arith in
    events-readers (before + 1) kinds rest ∙ ap (λ (n : ℕ). events_after n rest) next

events-events : (before : ℕ) (events : List RunEvent) → events_after before (map Event events ++ Skipped ∷ []) ≡ numbered_after before events
events-events before [] = refl
events-events before (event ∷ events) = ap (λ (es : List NumberedEvent). record { line = before + 1; event = event } ∷ es) (events-events (before + 1) events)

same_script : (ks ms : List ReaderKind) (es fs : List NumberedEvent) → ks ≡ ms → es ≡ fs → (let s : ScriptText = record { kinds = ks; events = es } in s) ≡ record { kinds = ms; events = fs }
same_script ks ms es fs k e = λ i. record { kinds = k i; events = e i }

reported : (kinds : List ReaderKind) (events : List RunEvent) → script_in (lines_with kinds events) ≡ script_with kinds events
reported kinds events =
    let count : 0 + length kinds ≡ length kinds = omega arith in
    same_script _ _ _ _
    (kinds-readers kinds (map Event events ++ Skipped ∷ []) ∙ ap (λ (ks : List ReaderKind). kinds ++ ks) (kinds-events events (Skipped ∷ [])) ∙ append-nil kinds)
    (events-readers 0 kinds (map Event events ++ Skipped ∷ []) ∙ ap (λ (n : ℕ). events_after n (map Event events ++ Skipped ∷ [])) count ∙ events-events (length kinds) events)

-- ---- no line is at fault

kinds_alone : (kinds : List ReaderKind) → kinds_of (map Reader kinds) ≡ kinds
kinds_alone [] = refl
kinds_alone (kind ∷ kinds) = ap (λ (ks : List ReaderKind). kind ∷ ks) (kinds_alone kinds)

no_events : (before : ℕ) (kinds : List ReaderKind) → events_after before (map Reader kinds) ≡ []
no_events before [] = refl
no_events before (kind ∷ kinds) = no_events (before + 1) kinds

no_readers : (events : List RunEvent) → kinds_of (map Event events) ≡ []
no_readers [] = refl
no_readers (event ∷ events) = no_readers events

reader_fits : (done : List ReaderKind) (kind : ReaderKind) → length done < MOST_READERS → is_faulty (script_in (map Reader done)) (Reader kind) ≡ false
reader_fits done kind few =
    let room : nat_le MOST_READERS (length done) ≡ false = grind (arith, nat_tests) in
    rw (no_events 0 done, kinds_alone done) room

after_readers : (done kinds : List ReaderKind) (rest : List Meaning) → length done + length kinds ≤ MOST_READERS
    → first_fault (map Reader done) (map Reader kinds ++ rest) ≡ first_fault (map Reader (done ++ kinds)) rest
after_readers done [] rest few = ap (λ (ks : List ReaderKind). first_fault (map Reader ks) rest) (sym (append-nil done))
after_readers done (kind ∷ kinds) rest few =
    let one : List ReaderKind = kind ∷ [] in
    ap (λ (b : Bool). cond b (Some (BadLine (length (map Reader done) + 1))) (first_fault (map Reader done ++ Reader kind ∷ []) (map Reader kinds ++ rest))) (reader_fits done kind (omega (arith, few)))
    ∙ ap (λ (before : List Meaning). first_fault before (map Reader kinds ++ rest)) (sym (map-append Reader done one))
    ∙ after_readers (done ++ one) kinds rest (omega (arith, few, length-append done one))
    ∙ ap (λ (ks : List ReaderKind). first_fault (map Reader ks) rest) (append_assoc done one kinds)

event_fits : (kinds : List ReaderKind) (done : List RunEvent) → 1 ≤ length kinds → is_without_readers (script_in (map Reader kinds ++ map Event done)) ≡ false
event_fits kinds done some =
    let is : kinds_of (map Reader kinds ++ map Event done) ≡ kinds =
    kinds-readers kinds (map Event done) ∙ ap (λ (ks : List ReaderKind). kinds ++ ks) (no_readers done) ∙ append-nil kinds in
    ap (λ (ks : List ReaderKind). length ks == 0) is ∙ ne_eqb (length kinds) 0 (λ e. absurd (omega (arith, e, some)))

after_events : (kinds : List ReaderKind) (done events : List RunEvent) → 1 ≤ length kinds → first_fault (map Reader kinds ++ map Event done) (map Event events ++ Skipped ∷ []) ≡ None
after_events kinds done [] some = refl
after_events kinds done (event ∷ events) some =
    let before = map Reader kinds ++ map Event done in
    let rest = map Event events ++ Skipped ∷ [] in
    let one : List RunEvent = event ∷ [] in
    ap (λ (b : Bool). cond b (Some (BadLine (length before + 1))) (first_fault (before ++ Event event ∷ []) rest)) (event_fits kinds done some)
    ∙ ap (λ (ms : List Meaning). first_fault ms rest) (append_assoc (map Reader kinds) (map Event done) (Event event ∷ []) ∙ ap (λ (ms : List Meaning). map Reader kinds ++ ms) (sym (map-append Event done one)))
    ∙ after_events kinds (done ++ one) events some

faultless : (kinds : List ReaderKind) (events : List RunEvent) → AreWritable kinds events → first_fault [] (lines_with kinds events) ≡ None
faultless kinds events are =
    let rest = map Event events ++ Skipped ∷ [] in
    after_readers [] kinds rest (omega (arith, are.few))
    ∙ ap (λ (ms : List Meaning). first_fault ms rest) (sym (append-nil (map Reader kinds)))
    ∙ after_events kinds [] events are.some

-- ---- the whole

pub read_back : (kinds : List ReaderKind) (events : List RunEvent) → AreWritable kinds events → script_of (script_text kinds events) ≡ Ok (script_with kinds events)
unfolding script_of
read_back kinds events are =
    ap (λ (ms : List Meaning). script_unless (first_fault [] ms) (script_in ms)) (text_meanings kinds events are.each)
    ∙ ap₂ script_unless (faultless kinds events are) (reported kinds events)
    ∙ ap (λ (b : Bool). cond b (let e : ScriptFault = BadLine 0 in Err e) (Ok (script_with kinds events))) (ne_eqb (length kinds) 0 (λ e. absurd (omega (arith, e, are.some))))

-- the events without their numbers
pub numbered-events : (before : ℕ) (events : List RunEvent) → events_of (numbered_after before events) ≡ events
numbered-events before [] = refl
numbered-events before (event ∷ events) = ap (λ (es : List RunEvent). event ∷ es) (numbered-events (before + 1) events)
