-- What the making of a ring of entries answers.
use Rattle.std.proofs.Common.{◌≡◌, ◌↔◌, ◌<◌, ℕ, Bool, true, false, List, [], ◌∷◌, map, length, Ok, refl, sym, ap, ◌∙◌, arith}
use Rattle.std.specs.Prelude.{◌==◌, Result, Err, IsErrOf, IsTrue, IsFalse}
use Rattle.std.specs.List.Sorted.{IsNonDecreasingBy}
use Rattle.std.proofs.lemmas.Bool.{false≢true, eq-eqb}
use Rattle.relay_base.specs.DestIds.{are_below}
use Rattle.hash_ring.specs.Entry.{Entry, IsRing, place_of, node_of, has_shared_place}
use Rattle.hash_ring.specs.Walk.{in_rising_order, taken_by, mark_of}
use Rattle.hash_ring.specs.declared.fault.RingFault.{RingFault}
use Rattle.hash_ring.specs.declared.fault.RingFault.TheVariants.{Empty, SamePosition, NoServer, NoMemory}
use Rattle.hash_ring.proofs.BelowLemmas.{below_rising}

-- ---- what the tests of the entries found

pub some_entries : (es : List Entry) (count : ℕ) (test : Bool) → count ≡ length es → test ≡ (count == 0) → test ≡ false → es ≡ [] → ⊥
some_entries es count test size is failed none = false≢true (sym failed ∙ is ∙ eq-eqb count 0 (size ∙ ap length none))

pub shared_if : (sorted read es : List Entry) (test answer : Bool) → read ≡ sorted → has_shared_place sorted ≡ has_shared_place es → test ≡ has_shared_place read → test ≡ answer
    → has_shared_place es ≡ answer
shared_if sorted read es test answer same shared is was = sym shared ∙ sym (ap has_shared_place same) ∙ sym is ∙ was

pub on_servers_if : (count : ℕ) (read es : List Entry) (servers : List ℕ) (test answer : Bool) → count ≡ length servers → read ≡ es → test ≡ are_below count (map node_of read) → test ≡ answer
    → are_below (length servers) (map node_of es) ≡ answer
on_servers_if count read es servers test answer size same is was =
    ap (λ (n : ℕ). are_below n (map node_of es)) (sym size) ∙ ap (λ (l : List Entry). are_below count (map node_of l)) (sym same) ∙ sym is ∙ was

pub counted : (diverse : Bool) (count : ℕ) (read es : List Entry) (held servers : List ℕ) → read ≡ es → held ≡ servers → count ≡ length (taken_by (mark_of held diverse) (map node_of read))
    → count ≡ length (taken_by (mark_of servers diverse) (map node_of es))
counted diverse count read es held servers same same_servers is =
    is
    ∙ ap (λ (l : List ℕ). length (taken_by (mark_of l diverse) (map node_of read))) same_servers
    ∙ ap (λ (l : List Entry). length (taken_by (mark_of servers diverse) (map node_of l))) same

-- ---- the ring

some_length : (es : List Entry) → (es ≡ [] → ⊥) → 0 < length es
some_length [] some = absurd (some refl)
some_length (e ∷ es) some = omega arith

pub ring_made : (es sorted : List Entry) (servers : List ℕ) → (es ≡ [] → ⊥) → length sorted ≡ length es → IsNonDecreasingBy place_of sorted → has_shared_place sorted ≡ has_shared_place es
    → has_shared_place es ≡ false → sorted ≡ in_rising_order es → are_below (length servers) (map node_of es) ≡ true → IsRing (record { entries = sorted; servers = servers })
ring_made es sorted servers some size rises shared apart rising on = record {
  at_least_one = (let entries = some_length es some in omega (arith, entries, size));
  in_order = rises;
  apart = shared ∙ apart;
  on_servers = ap (λ (l : List Entry). are_below (length servers) (map node_of l)) rising ∙ below_rising (length servers) es on;
}

-- ---- the faults

-- each fault is the answer for the entries that have it, and only for these
pub record IsJudged {T : Type 0} (answer : Result T RingFault) (es : List Entry) (servers : List ℕ) : Type 0 where
  pub empty : IsErrOf answer Empty ↔ (es ≡ [])
  pub same_position : IsErrOf answer SamePosition ↔ IsTrue (has_shared_place es)
  pub no_server : IsErrOf answer NoServer ↔ (IsFalse (has_shared_place es) × IsFalse (are_below (length servers) (map node_of es)))

pub judged_empty : {T : Type 0} (es : List Entry) (servers : List ℕ) → es ≡ [] → IsJudged {T = T} (Err Empty) es servers
judged_empty es servers none = record {
  empty = (λ e. none, λ e. refl);
  same_position = (λ e. absurd cc, λ shared. absurd (false≢true (sym (ap has_shared_place none) ∙ shared)));
  no_server = (λ e. absurd cc, λ faults. absurd (false≢true (sym faults.1 ∙ ap (λ (l : List Entry). are_below (length servers) (map node_of l)) none)));
}

pub judged_shared : {T : Type 0} (es : List Entry) (servers : List ℕ) → has_shared_place es ≡ true → IsJudged {T = T} (Err SamePosition) es servers
judged_shared es servers shared = record {
  empty = (λ e. absurd cc, λ none. absurd (false≢true (sym (ap has_shared_place none) ∙ shared)));
  same_position = (λ e. shared, λ e. refl);
  no_server = (λ e. absurd cc, λ faults. absurd (false≢true (sym faults.0 ∙ shared)));
}

pub judged_serverless : {T : Type 0} (es : List Entry) (servers : List ℕ) → has_shared_place es ≡ false → are_below (length servers) (map node_of es) ≡ false → IsJudged {T = T} (Err NoServer) es servers
judged_serverless es servers apart lacks = record {
  empty = (λ e. absurd cc, λ none. absurd (false≢true (sym lacks ∙ ap (λ (l : List Entry). are_below (length servers) (map node_of l)) none)));
  same_position = (λ e. absurd cc, λ shared. absurd (false≢true (sym apart ∙ shared)));
  no_server = (λ e. (apart, lacks), λ e. refl);
}

pub judged_made : {T : Type 0} (made : T) (es : List Entry) (servers : List ℕ) → (es ≡ [] → ⊥) → has_shared_place es ≡ false → are_below (length servers) (map node_of es) ≡ true
    → IsJudged (Ok made) es servers
judged_made made es servers some apart on = record {
  empty = (λ e. absurd cc, λ none. absurd (some none));
  same_position = (λ e. absurd cc, λ shared. absurd (false≢true (sym apart ∙ shared)));
  no_server = (λ e. absurd cc, λ faults. absurd (false≢true (sym faults.1 ∙ on)));
}

pub judged_refused : {T : Type 0} (answer : Result T RingFault) (fault : RingFault) (es : List Entry) (servers : List ℕ) → answer ≡ Err fault → fault ≡ NoMemory
    → (es ≡ [] → ⊥) → has_shared_place es ≡ false → are_below (length servers) (map node_of es) ≡ true → IsJudged answer es servers
judged_refused answer fault es servers was is some apart on = record {
  empty = (λ e. absurd cc, λ none. absurd (some none));
  same_position = (λ e. absurd cc, λ shared. absurd (false≢true (sym apart ∙ shared)));
  no_server = (λ e. absurd cc, λ faults. absurd (false≢true (sym faults.1 ∙ on)));
}
