-- What was read and written so far, compared with what is read and written of the whole input.
use Rattle.std.proofs.Common.{◌≡◌, ℕ, List, [], ◌++◌, Option, Some, None, Bool, true, false, subst, refl, ap, sym, ◌∙◌, append_assoc}
use Rattle.std.proofs.lemmas.List.{append-nil, map-append}
use Rattle.std.specs.Prelude.{IfSome}
use Rattle.std.specs.Io.KnownBytes.{Appends, Keeps, Consumes, IsAtEnd}
use Rattle.relay_base.proofs.Growth.{Appends-then}
use Rattle.line_text.specs.Line.{count_of}
use Rattle.line_text.specs.Datapoint.{Datapoint}
use Rattle.line_text.specs.Connection.{Arrival, arrivals, accepted_points, bad_lines, is_closed}
use Rattle.line_text.specs.Reader.{ReaderModel, Represents, GivesNoMore}
use Rattle.line_text.specs.Laws.{AcceptedGrowsLaw}
use Rattle.line_text.specs.Print.{printed_lines}
use Rattle.relay_files.specs.Output.{GrowsByPart}
use Rattle.pass_lines.specs.Pass.{pass_text, notes_text, note_of_end, Relays, RelaysPart, HasPassed}
use Rattle.relay_files.proofs.BytesLemmas.{Appends-nothing, Appends-kept, GrowsByPart-behind, part-of_written}
use Rattle.pass_lines.proofs.LinesLemmas.{printed_lines-append}

-- ---- bytes after others

arrivals-append : (a b : List ℕ) (moment : ℕ) → arrivals (a ++ b) moment ≡ arrivals a moment ++ arrivals b moment
arrivals-append a b moment = map-append (λ (byte : ℕ). record { byte = byte; moment = moment }) a b

-- more bytes only add lines
record Longer (a whole : List ℕ) (moment : ℕ) : Type 0 where
  more : List ℕ
  is : pass_text whole moment ≡ pass_text a moment ++ more

longer_text : AcceptedGrowsLaw → (a b : List ℕ) (moment : ℕ) → Longer a (a ++ b) moment
longer_text grows a b moment =
    let grown = grows (arrivals a moment) (arrivals b moment) in
    record {
      more = printed_lines grown.0;
      is =
          ap (λ (c : List Arrival). printed_lines (accepted_points c)) (arrivals-append a b moment)
          ∙ ap printed_lines grown.1
          ∙ printed_lines-append (accepted_points (arrivals a moment)) grown.0;
    }

pub part-longer : (a b : Option (List ℕ)) (text more whole : List ℕ) → whole ≡ text ++ more → GrowsByPart a b text → GrowsByPart a b whole
part-longer a b text more whole is part =
    GrowsByPart-behind a a b [] text more whole (Appends-nothing a) part is

pub Consumes-then : (a b c : Option (List ℕ)) (xs ys : List ℕ) → Consumes a b xs → Consumes b c ys → Consumes a c (xs ++ ys)
Consumes-then None b c xs ys first second = tt
Consumes-then (Some all) None c xs ys first second = absurd first
Consumes-then (Some all) (Some rest) None xs ys first second = absurd second
Consumes-then (Some all) (Some rest) (Some last) xs ys first second =
    first ∙ ap (λ (behind : List ℕ). xs ++ behind) second ∙ sym (append_assoc xs ys last)

-- ---- parts of the whole input

-- a first part of the lines of a front is a first part of the lines of all
pub part-of_all : AcceptedGrowsLaw → (r s w v : Option (List ℕ)) (bytes : List ℕ) (moment : ℕ) → Consumes r s bytes → GrowsByPart w v (pass_text bytes moment) → IfSome r (λ all. GrowsByPart w v (pass_text all moment))
part-of_all grows None s w v bytes moment read part = tt
part-of_all grows (Some all) None w v bytes moment read part = absurd read
part-of_all grows (Some all) (Some rest) w v bytes moment read part =
    let longer = longer_text grows bytes rest moment in
    part-longer w v (pass_text bytes moment) longer.more (pass_text all moment) (ap (λ (text : List ℕ). pass_text text moment) read ∙ longer.is) part

-- ---- at the end of the input

-- what holds of the bytes that were read holds of the whole input, if nothing is left
pub at_end : (r s : Option (List ℕ)) (bytes : List ℕ) (P : List ℕ → Type 0) → Consumes r s bytes → IsAtEnd s → P bytes → IfSome r P
at_end None s bytes P read ended holds = tt
at_end (Some all) None bytes P read ended holds = absurd read
at_end (Some all) (Some rest) bytes P read ended holds =
    let whole : bytes ≡ all = sym (append-nil bytes) ∙ ap (λ (after : List ℕ). bytes ++ after) (sym ended) ∙ sym read in
    subst P whole holds

-- what a closed connection gives, the whole input gives
pub record SameAs (bytes all : List ℕ) (moment : ℕ) : Type 0 where
  pub lines : pass_text all moment ≡ pass_text bytes moment
  pub closed : is_closed (arrivals all moment) ≡ true
  pub bad : bad_lines (arrivals all moment) ≡ bad_lines (arrivals bytes moment)

same-as : (bytes rest : List ℕ) (moment : ℕ) → GivesNoMore (arrivals bytes moment) → SameAs bytes (bytes ++ rest) moment
same-as bytes rest moment ended =
    let parts = arrivals-append bytes rest moment in
    record {
      lines = ap (λ (c : List Arrival). printed_lines (accepted_points c)) parts ∙ ap printed_lines (ended.accepted_points (arrivals rest moment));
      closed = ap is_closed parts ∙ ended.closed (arrivals rest moment);
      bad = ap bad_lines parts ∙ ended.bad (arrivals rest moment);
    }

pub at_close : (r s : Option (List ℕ)) (bytes : List ℕ) (moment : ℕ) (P : List ℕ → Type 0) → Consumes r s bytes → GivesNoMore (arrivals bytes moment) → ((all : List ℕ) → SameAs bytes all moment → P all) → IfSome r P
at_close None s bytes moment P read ended holds = tt
at_close (Some all) None bytes moment P read ended holds = absurd read
at_close (Some all) (Some rest) bytes moment P read ended holds =
    subst P (sym read) (holds (bytes ++ rest) (same-as bytes rest moment ended))

-- ---- one more piece

pub Consumes-nothing : (r : Option (List ℕ)) → Consumes r r []
Consumes-nothing None = tt
Consumes-nothing (Some all) = refl

pub represents-next : (s : ReaderModel) (bytes piece : List ℕ) (moment : ℕ) → Represents s (arrivals bytes moment ++ arrivals piece moment) → Represents s (arrivals (bytes ++ piece) moment)
represents-next s bytes piece moment represents = subst (Represents s) (sym (arrivals-append bytes piece moment)) represents

pub gives_no_more-next : (bytes piece : List ℕ) (moment : ℕ) → GivesNoMore (arrivals bytes moment ++ arrivals piece moment) → GivesNoMore (arrivals (bytes ++ piece) moment)
gives_no_more-next bytes piece moment ended = subst GivesNoMore (sym (arrivals-append bytes piece moment)) ended

text-next : (bytes piece : List ℕ) (moment : ℕ) (gained : List Datapoint) → accepted_points (arrivals bytes moment ++ arrivals piece moment) ≡ accepted_points (arrivals bytes moment) ++ gained → pass_text (bytes ++ piece) moment ≡ pass_text bytes moment ++ printed_lines gained
text-next bytes piece moment gained is =
    ap (λ (c : List Arrival). printed_lines (accepted_points c)) (arrivals-append bytes piece moment) ∙ ap printed_lines is ∙ printed_lines-append (accepted_points (arrivals bytes moment)) gained

pub written-next : (w x v : Option (List ℕ)) (bytes piece : List ℕ) (moment : ℕ) → Appends w x (pass_text bytes moment) → Relays x v (accepted_points (arrivals bytes moment)) (accepted_points (arrivals bytes moment ++ arrivals piece moment)) → Appends w v (pass_text (bytes ++ piece) moment)
written-next w x v bytes piece moment written relayed =
    subst (Appends w v) (sym (text-next bytes piece moment relayed.0 relayed.1)) (Appends-then w x v (pass_text bytes moment) (printed_lines relayed.0) written relayed.2)

pub part-next : (w x v : Option (List ℕ)) (bytes piece : List ℕ) (moment : ℕ) → Appends w x (pass_text bytes moment) → RelaysPart x v (accepted_points (arrivals bytes moment)) (accepted_points (arrivals bytes moment ++ arrivals piece moment)) → GrowsByPart w v (pass_text (bytes ++ piece) moment)
part-next w x v bytes piece moment written relayed =
    GrowsByPart-behind w x v (pass_text bytes moment) (printed_lines relayed.0) [] (pass_text (bytes ++ piece) moment) written relayed.2
    (text-next bytes piece moment relayed.0 relayed.1 ∙ sym (append-nil (pass_text bytes moment ++ printed_lines relayed.0)))

-- ---- a turn of the loop

Consumes-none : (a b c : Option (List ℕ)) (xs piece : List ℕ) → Consumes a b xs → Consumes b c piece → piece ≡ [] → Consumes a c xs
Consumes-none a b c xs piece first second none =
    subst (Consumes a c) (ap (λ (more : List ℕ). xs ++ more) none ∙ append-nil xs) (Consumes-then a b c xs piece first second)

pub nothing_passed : (r w : Option (List ℕ)) (reader : ReaderModel) (moment : ℕ) → Represents reader [] → HasPassed r r w w reader moment []
nothing_passed r w reader moment represents = record { represents = represents; read = Consumes-nothing r; written = Appends-nothing w }

-- at the end of the input, after a flush
pub passed-end : (r s t w v u : Option (List ℕ)) (reader new : ReaderModel) (moment : ℕ) (bytes piece : List ℕ) → HasPassed r s w v reader moment bytes → new ≡ reader
    → Consumes s t piece → piece ≡ [] → Keeps v u → HasPassed r t w u new moment bytes
passed-end r s t w v u reader new moment bytes piece before same read none kept =
    record {
      represents = subst (λ (x : ReaderModel). Represents x (arrivals bytes moment)) (sym same) before.represents;
      read = Consumes-none r s t bytes piece before.read read none;
      written = Appends-kept w v u (pass_text bytes moment) before.written kept;
    }

-- one more piece, after a flush
pub passed-piece : (r s t w v u x : Option (List ℕ)) (reader new : ReaderModel) (moment : ℕ) (bytes piece given : List ℕ) → HasPassed r s w v reader moment bytes
    → Consumes s t given → piece ≡ given → Keeps v u
    → Represents new (arrivals bytes moment ++ arrivals piece moment)
    → Relays u x (accepted_points (arrivals bytes moment)) (accepted_points (arrivals bytes moment ++ arrivals piece moment))
    → HasPassed r t w x new moment (bytes ++ piece)
passed-piece r s t w v u x reader new moment bytes piece given before read same kept represents relayed =
    record {
      represents = represents-next new bytes piece moment represents;
      read = Consumes-then r s t bytes piece before.read (subst (Consumes s t) (sym same) read);
      written = written-next w u x bytes piece moment (Appends-kept w v u (pass_text bytes moment) before.written kept) relayed;
    }

-- what is written at a fault is a first part of all
module _ (grows : AcceptedGrowsLaw) (r s w v : Option (List ℕ)) (reader : ReaderModel) (moment : ℕ) (bytes : List ℕ) (before : HasPassed r s w v reader moment bytes) where
  pub part-so_far : (u : Option (List ℕ)) → Keeps v u → IfSome r (λ all. GrowsByPart w u (pass_text all moment))
  part-so_far u kept =
      part-of_all grows r s w u bytes moment before.read (part-of_written w u (pass_text bytes moment) (Appends-kept w v u (pass_text bytes moment) before.written kept))

  pub part-piece : (t u x : Option (List ℕ)) (piece given : List ℕ) → Consumes s t given → piece ≡ given → Keeps v u
      → RelaysPart u x (accepted_points (arrivals bytes moment)) (accepted_points (arrivals bytes moment ++ arrivals piece moment))
      → IfSome r (λ all. GrowsByPart w x (pass_text all moment))
  part-piece t u x piece given read same kept relayed =
      part-of_all grows r t w x (bytes ++ piece) moment (Consumes-then r s t bytes piece before.read (subst (Consumes s t) (sym same) read))
      (part-next w u x bytes piece moment (Appends-kept w v u (pass_text bytes moment) before.written kept) relayed)

-- ---- the notes

pub note-at_end : (reader : ReaderModel) (moment : ℕ) (bytes : List ℕ) (bad : ℕ) → Represents reader (arrivals bytes moment) → reader.closed ≡ false → bad ≡ reader.bad
    → note_of_end false bad ≡ notes_text bytes moment
note-at_end reader moment bytes bad represents going is =
    ap (λ (n : ℕ). note_of_end false n) (is ∙ represents.bad) ∙ ap (λ (b : Bool). note_of_end b (count_of (bad_lines (arrivals bytes moment)))) (sym going ∙ represents.closed)

pub note-at_close : (reader : ReaderModel) (moment : ℕ) (bytes all : List ℕ) (bad : ℕ) → Represents reader (arrivals bytes moment) → bad ≡ reader.bad → SameAs bytes all moment
    → note_of_end true bad ≡ notes_text all moment
note-at_close reader moment bytes all bad represents is same =
    ap (λ (n : ℕ). note_of_end true n) (is ∙ represents.bad ∙ ap count_of (sym same.bad)) ∙ ap (λ (b : Bool). note_of_end b (count_of (bad_lines (arrivals all moment)))) (sym same.closed)
