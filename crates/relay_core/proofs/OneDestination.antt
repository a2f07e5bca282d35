-- One destination, computed from the definitions.
use Rattle.std.proofs.Common.{◌≡◌, ℕ, ◌*◌, true, false, List, [], ◌∷◌, refl, pos}
use Rattle.std.specs.Prelude.{codes}
use Rattle.std.specs.Fmt.{digits}
use Rattle.line_text.specs.Datapoint.{Datapoint}
use Rattle.line_text.specs.Value.{units_of_one}
use Rattle.dest_queue.specs.Queue.{empty_queue}
use Rattle.relay_core.specs.Destination.{Destination, Act, Offered, Taken, Connected, Written, Lost, fresh_destination, may_act, dest_after_all}

-- ---- a queue of two

abbrev point : ℕ → Datapoint
point n = record { name = n ∷ []; value = pos 1; time = 5 }

-- the third offer finds the queue full; a batch of one is taken, a point is offered, and the rest is taken
abbrev queue_of_two : Destination
queue_of_two =
    dest_after_all 2 5 (dest_after_all 2 1 (fresh_destination 1) (Offered 0 (point 1) ∷ Offered 0 (point 2) ∷ Offered 0 (point 3) ∷ Taken ∷ []))
    (Offered 0 (point 4) ∷ Taken ∷ [])

pub queue_of_two_counts : queue_of_two.queue ≡ record { points = []; offered = 4; kept = 3; dropped = 1; taken = 3; next = 4 ∷ []; recorded = 6 }
queue_of_two_counts = refl

pub queue_of_two_hands : queue_of_two.writer.hand ≡ point 2 ∷ point 4 ∷ []
queue_of_two_hands = refl

-- ---- a writer with two points in hand

-- the connection is up, and `a 1 2` and `b 3 4` are in hand
abbrev start : Destination
start =
    record {
      queue = empty_queue 1;
      writer = record {
        hand = (record { name = codes "a"; value = pos units_of_one; time = 2 }) ∷ (record { name = codes "b"; value = pos (3 * units_of_one); time = 4 }) ∷ [];
        written = 0;
        up = true;
      };
      connections = [] ∷ [];
    }

abbrev connections_after : List Act → List (List ℕ)
connections_after acts = (dest_after_all 10 10 start acts).connections

-- the connection is lost in the second line, and the writer writes that line again
pub lost_in_second_line : connections_after (Written 8 ∷ Lost ∷ Connected ∷ Written 6 ∷ []) ≡ codes "a 1 2\nb " ∷ codes "b 3 4\n" ∷ []
unfolding digits
lost_in_second_line = refl

-- after the first line's last byte the writer does not write that line again
pub lost_behind_first_line : connections_after (Written 6 ∷ Lost ∷ Connected ∷ Written 6 ∷ []) ≡ codes "a 1 2\n" ∷ codes "b 3 4\n" ∷ []
unfolding digits
lost_behind_first_line = refl

-- before it, the writer writes the whole line again
pub lost_before_its_end : connections_after (Written 5 ∷ Lost ∷ Connected ∷ Written 12 ∷ []) ≡ codes "a 1 2" ∷ codes "a 1 2\nb 3 4\n" ∷ []
unfolding digits
lost_before_its_end = refl

-- six bytes are left after six, and with them the hand is empty
pub six_left : may_act (dest_after_all 10 10 start (Written 6 ∷ [])) (Written 7) ≡ false
unfolding digits
six_left = refl

pub hand_empties : (dest_after_all 10 10 start (Written 6 ∷ Written 6 ∷ [])).writer ≡ record { hand = []; written = 0; up = true }
unfolding digits
hand_empties = refl

pub all_got : connections_after (Written 6 ∷ Written 6 ∷ []) ≡ codes "a 1 2\nb 3 4\n" ∷ []
unfolding digits
all_got = refl

-- taking no byte changes nothing
pub nothing_written : dest_after_all 10 10 start (Written 0 ∷ []) ≡ start
unfolding digits
nothing_written = refl

-- what a writer that is up, or down, may not do
pub may_not_connect_twice : may_act start Connected ≡ false
may_not_connect_twice = refl

pub may_not_write_while_down : may_act (fresh_destination 1) (Written 0) ≡ false
may_not_write_while_down = refl

pub may_not_be_lost_while_down : may_act (fresh_destination 1) Lost ≡ false
may_not_be_lost_while_down = refl

pub may_not_take_with_a_full_hand : may_act start Taken ≡ false
may_not_take_with_a_full_hand = refl
