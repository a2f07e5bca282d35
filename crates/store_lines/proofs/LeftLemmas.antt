-- What is left for a destination, and what is sent of it.
use Rattle.std.proofs.Common.{◌≡◌, ℕ, true≢false, List, ◌++◌, take, Option, Some, None, IfSome, IsSome, is_some, refl, sym, ap, subst, ◌∙◌, append_assoc}
use Rattle.line_text.specs.Datapoint.{Datapoint}
use Rattle.line_text.specs.Print.{printed_lines}
use Rattle.dest_writer.specs.Counting.{stream_of}
use Rattle.dest_writer.specs.Writer.{bytes_left}
use Rattle.dest_writer.specs.declared.counting.Counting.{Counting}
use Rattle.dest_writer.proofs.LinesLemmas.{printed_lines-append}
use Rattle.handover.specs.Rest.{RestLeft, RestState, TookFirst, left_text, rest_text, without_connection}

-- datapoints behind a rest
pub text-added : (rest new : RestLeft) (points : List Datapoint) (kept : ℕ) → new.writer ≡ rest.writer → new.queued ≡ rest.queued ++ take kept points → left_text new ≡ left_text rest ++ printed_lines (take kept points)
text-added rest new points kept same more =
    let more_lines = printed_lines (take kept points) in
    ap (λ w. bytes_left w ++ printed_lines new.queued) same
    ∙ ap (λ (q : List Datapoint). bytes_left rest.writer ++ printed_lines q) more
    ∙ ap (λ (t : List ℕ). bytes_left rest.writer ++ t) (printed_lines-append rest.queued (take kept points))
    ∙ sym (append_assoc (bytes_left rest.writer) (printed_lines rest.queued) more_lines)

-- a connection that was given out was there
pub was-there : {A : Type 0} (sink : Option A) (whole : A → Type 0) → IfSome sink whole → (sink ≡ None → ⊥) → (had : A) × (sink ≡ Some had) × whole had
was-there None whole is never = absurd (never refl)
was-there (Some had) whole is never = (had, refl, is)

-- nothing is said of a connection that is gone
pub none-there : {A B : Type 0} (a : Option A) (b : Option B) (holds : A → B → Type 0) → b ≡ None → IfSome a (λ x. IfSome b (λ y. holds x y))
none-there None b holds gone = tt
none-there {B = B} (Some x) b holds gone = subst (λ (o : Option B). IfSome o (holds x)) (sym gone) tt

-- one that is there is not gone
pub not-gone : {A B : Type 0} (a : Option A) (b : Option B) (holds : A → Type 0) → (IsSome a → IsSome b) → IfSome a (λ x. b ≡ None → holds x)
not-gone None b holds there = tt
not-gone (Some x) None holds there = λ gone. absurd (true≢false (sym (there refl)))
not-gone (Some x) (Some y) holds there = λ gone. absurd (true≢false (ap is_some gone))

-- what is left once a connection is lost
pub left-after_loss : {W : Type 0} (contents : W → Option (List ℕ)) (rest sent left : RestState W) (a b : Option (Counting W)) → (IsSome a → IsSome b)
    → IfSome a (λ had. IfSome b (λ has. TookFirst (rest_text rest) (rest_text sent) (contents (stream_of had)) (contents (stream_of has))))
    → left.writer ≡ without_connection sent.writer → left.queued ≡ sent.queued
    → IfSome a (λ had. left.sink ≡ None → (sent : RestState W) × (has : Counting W) × TookFirst (rest_text rest) (rest_text sent) (contents (stream_of had)) (contents (stream_of has))
    × (left.writer ≡ without_connection sent.writer) × (left.queued ≡ sent.queued))
left-after_loss contents rest sent left None b there took writer queued = tt
left-after_loss contents rest sent left (Some had) None there took writer queued = absurd (true≢false (sym (there refl)))
left-after_loss contents rest sent left (Some had) (Some has) there took writer queued = λ gone. (sent, has, took, writer, queued)

-- a connection is given out as it was, unless a later rest has it
pub given-out : {A B : Type 0} (later : Option B) (sink : A) (result : Option A) (whole : A → Type 0) → (later ≡ None → result ≡ Some sink) → IfSome later (λ _. result ≡ None) → whole sink → IfSome result whole
given-out {A = A} None sink result whole out on is = subst (λ (o : Option A). IfSome o whole) (sym (out refl)) is
given-out {A = A} (Some x) sink result whole out on is = subst (λ (o : Option A). IfSome o whole) (sym on) tt
