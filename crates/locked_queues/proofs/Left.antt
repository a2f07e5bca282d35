-- What queues leave, with one queue more.
use Rattle.std.proofs.Common.{◌≡◌, ℕ, List, [], ◌∷◌, ◌++◌, map, refl}
use Rattle.std.proofs.lemmas.List.{map-append}
use Rattle.std.proofs.lemmas.List.Elements.{All-push}
use Rattle.line_text.specs.Datapoint.{Datapoint}
use Rattle.dest_queue.specs.RecordedStep.{RecordedStep}
use Rattle.dest_queue.specs.SizedQueue.{SizedQueue}
use Rattle.dest_queue.specs.declared.counts.Counts.{Counts}
use Rattle.locked_queues.specs.Ended.{IsReached, IsLeft, AreLeft}

one_more : {A : Type 0} (f : SizedQueue → A) (qs : List SizedQueue) (q : SizedQueue) (xs : List A) (x : A) → xs ≡ map f qs → x ≡ f q → xs ++ x ∷ [] ≡ map f (qs ++ q ∷ [])
one_more f qs q xs x all one = rw (map-append, all, one) refl

pub left_more : (size readers : ℕ) (cs : List Counts) (ps : List (List Datapoint)) (hs : List (List RecordedStep)) (c : Counts) (p : List Datapoint) (h : List RecordedStep)
    → AreLeft size readers cs ps hs → IsLeft size readers c p h → AreLeft size readers (cs ++ c ∷ []) (ps ++ p ∷ []) (hs ++ h ∷ [])
left_more size readers cs ps hs c p h all one = record {
  queues = all.queues ++ one.queue ∷ [];
  reached = All-push (IsReached size readers) all.queues one.queue all.reached one.reached;
  are_counts = one_more _ _ _ _ _ all.are_counts one.are_counts;
  are_points = one_more _ _ _ _ _ all.are_points one.are_points;
  are_histories = one_more _ _ _ _ _ all.are_histories one.is_history;
}
