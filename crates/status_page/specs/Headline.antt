-- What the status says first: the worst that is true, and of which destination or receiver: a loss of the one that loses
-- most, all else of the first.
use Rattle.std.specs.Prelude.{ℕ, ◌/◌, nat_lt, nat_le, Bool, true, false, not, ◌&&◌, ◌||◌, List, ◌++◌, length, Option, None, Some, codes, decimal, if◌then◌else◌}
use Rattle.std.specs.List.{list_all, position, count_by}
use Rattle.log_lines.specs.declared.receiver_notes.ReceiverState.{ReceiverState}
use Rattle.log_lines.specs.declared.receiver_notes.ReceiverState.TheVariants as state
use Rattle.status_page.specs.declared.headline.Headline.{Headline}
use Rattle.status_page.specs.declared.headline.Headline.TheVariants as it
use Rattle.status_page.specs.declared.snapshot.DestSnapshot.{DestSnapshot}
use Rattle.status_page.specs.declared.snapshot.ReceiverSnapshot.{ReceiverSnapshot}
use Rattle.status_page.specs.declared.snapshot.Snapshot.{Snapshot}

-- its queue drops datapoints now
abbrev pub is_losing : DestSnapshot → Bool
is_losing d = nat_lt 0 d.rates.dropped

-- it drops at most this many datapoints a second
abbrev pub drops_at_most : ℕ → DestSnapshot → Bool
drops_at_most rate d = nat_le d.rates.dropped rate

-- its queue drops datapoints now, and no queue of these drops more
abbrev pub is_losing_most : List DestSnapshot → DestSnapshot → Bool
is_losing_most dests d = is_losing d && list_all (drops_at_most d.rates.dropped) dests

-- its queue, of this size, is a tenth full or more, and more comes in than goes out
abbrev pub is_filling : (size : ℕ) → DestSnapshot → Bool
is_filling size d = nat_le (size / 10) d.counts.queued && nat_lt d.rates.written d.rates.received

-- it is connected, and for three seconds it has taken nothing of what is queued
abbrev pub is_stuck : DestSnapshot → Bool
is_stuck d = d.is_up && nat_le 3 d.stalled

-- it has no connection, and all addresses of its host were tried
abbrev pub is_away : DestSnapshot → Bool
is_away d = not d.is_up && not d.is_starting

-- it lost its connection three times or more in the last minute
abbrev pub is_flapping : DestSnapshot → Bool
is_flapping d = nat_le 3 d.connections.lost_lately

-- something is wrong with a destination
abbrev pub is_ill : (size : ℕ) → DestSnapshot → Bool
is_ill size d = is_losing d || is_filling size d || is_stuck d || is_away d || is_flapping d

-- it takes nothing that producers send
abbrev pub is_deaf_state : ReceiverState → Bool
is_deaf_state state.Open = false
is_deaf_state (state.Paused why) = true
is_deaf_state (state.Failed why) = true

abbrev pub is_deaf : ReceiverSnapshot → Bool
is_deaf r = is_deaf_state r.state

-- its input is bad now
abbrev pub is_bad : ReceiverSnapshot → Bool
is_bad r = nat_lt 0 r.bad_rate

-- no datapoint has come for 75 seconds
abbrev pub is_silent : ℕ → Bool
is_silent seconds = nat_le 75 seconds

-- what is said of a place, if there is one, and otherwise what comes after it
abbrev pub first_of : Option ℕ → (ℕ → Headline) → Headline → Headline
first_of None found other = other
first_of (Some place) found other = found place

-- what is said of input
abbrev pub input_headline : List ReceiverSnapshot → (silence : ℕ) → Headline
input_headline receivers silence =
    first_of (position is_bad receivers) it.Bad (if is_silent silence then it.Silent else it.Well)

-- what is said of connections, or else of input
abbrev pub connection_headline : List DestSnapshot → List ReceiverSnapshot → (silence : ℕ) → Headline
connection_headline dests receivers silence =
    first_of (position is_stuck dests) it.Stuck
    (first_of (position is_away dests) it.Away
    (first_of (position is_flapping dests) it.Flapping (input_headline receivers silence)))

-- what is said of losses, or else of connections and input
abbrev pub running_headline : List DestSnapshot → List ReceiverSnapshot → (size silence : ℕ) → Headline
running_headline dests receivers size silence =
    first_of (position (is_losing_most dests) dests) it.Losing
    (first_of (position is_deaf receivers) it.Deaf
    (first_of (position (is_filling size) dests) it.Filling (connection_headline dests receivers silence)))

-- the worst that is true
abbrev pub headline : Snapshot → Headline
headline s = if s.is_stopping then it.Stopping else running_headline s.dests.items s.receivers.items s.queue_size s.silence

-- the name of a headline in JSON
abbrev pub state_name : Headline → List ℕ
state_name it.Stopping = codes "stopping"
state_name (it.Losing place) = codes "losing"
state_name (it.Deaf place) = codes "not_receiving"
state_name (it.Filling place) = codes "filling"
state_name (it.Stuck place) = codes "stuck"
state_name (it.Away place) = codes "away"
state_name (it.Flapping place) = codes "flapping"
state_name (it.Bad place) = codes "bad_input"
state_name it.Silent = codes "no_input"
state_name it.Well = codes "well"

-- the words with which the sentence on it begins; of destinations that are away they come behind their number
abbrev pub opening_words : Headline → List ℕ
opening_words it.Stopping = codes "STOPPING: "
opening_words (it.Losing place) = codes "LOSING "
opening_words (it.Deaf place) = codes "NOT RECEIVING"
opening_words (it.Filling place) = codes "FILLING: "
opening_words (it.Stuck place) = codes "STUCK: "
opening_words (it.Away place) = codes " away"
opening_words (it.Flapping place) = codes "FLAPPING: "
opening_words (it.Bad place) = codes "bad input: "
opening_words it.Silent = codes "no input for "
opening_words it.Well = codes "all well: "

abbrev pub is_of_away : Headline → Bool
is_of_away it.Stopping = false
is_of_away (it.Losing place) = false
is_of_away (it.Deaf place) = false
is_of_away (it.Filling place) = false
is_of_away (it.Stuck place) = false
is_of_away (it.Away place) = true
is_of_away (it.Flapping place) = false
is_of_away (it.Bad place) = false
is_of_away it.Silent = false
is_of_away it.Well = false

-- how the sentence begins: `STUCK: `, or `2 of 3 away`
abbrev pub opening : List DestSnapshot → Headline → List ℕ
opening dests h =
    if is_of_away h
    then decimal (count_by is_away dests) ++ codes " of " ++ decimal (length dests) ++ opening_words h
    else opening_words h

-- its colour: red where data is lost or soon will be, green where all is well, and yellow otherwise
abbrev pub class_of : Headline → List ℕ
class_of it.Stopping = codes "warn"
class_of (it.Losing place) = codes "ill"
class_of (it.Deaf place) = codes "ill"
class_of (it.Filling place) = codes "ill"
class_of (it.Stuck place) = codes "ill"
class_of (it.Away place) = codes "warn"
class_of (it.Flapping place) = codes "warn"
class_of (it.Bad place) = codes "warn"
class_of it.Silent = codes "warn"
class_of it.Well = codes "good"

-- how the title of the page begins, and how its heading does
abbrev pub title_start : Snapshot → List ℕ
title_start s = codes "<title>" ++ opening s.dests.items (headline s)

-- the tag of a heading of a class
abbrev pub tag_of : List ℕ → List ℕ
tag_of class = codes "<h1 class=\"" ++ class ++ codes "\">"

-- the first words of a headline, in its colour
abbrev pub words_in_colour : List DestSnapshot → Headline → List ℕ
words_in_colour dests h = tag_of (class_of h) ++ opening dests h

abbrev pub heading_start : Snapshot → List ℕ
heading_start s = words_in_colour s.dests.items (headline s)
