-- What a drain sees of a destination, and whether it waits for it.
use Rattle.std.specs.Prelude.{ℕ, ◌≡◌, ◌≢◌, ◌⊎◌, ◌-◌, ◌*◌, ◌^◌, ◌==◌, ◌&&◌, min, Bool, List, nat_lt, nat_le, if◌then◌else◌, slice_index_or}
use Rattle.run_threads.specs.declared.drain.DrainProgress.{DrainProgress}
use Rattle.run_threads.specs.declared.drain.Waits.{Waits}
use Rattle.run_threads.specs.declared.drain.Waits.TheVariants.{Yes, Done, Stuck, Slow}

-- how many milliseconds a destination may take nothing
abbrev pub longest_pause : ℕ
longest_pause = 1000

-- how many milliseconds pass at least between the two looks by which a rate is known
abbrev pub rate_time : ℕ
rate_time = 1000

-- the greatest number, which stands for a destination that was not looked at
abbrev pub greatest : ℕ
greatest = 2 ^ 64 - 1

-- ---- what was seen before a look

-- nothing, since these milliseconds
abbrev pub nothing_seen : ℕ → DrainProgress
nothing_seen millis =
    record {
      left = greatest;
      moved = millis;
      before = record { left = greatest; millis = millis };
      after = record { left = greatest; millis = millis };
    }

-- of the destination of this place
abbrev pub seen_of : List DrainProgress → ℕ → DrainProgress
seen_of progress place = slice_index_or progress place (nothing_seen 0)

-- ---- what was seen, once a look at these milliseconds has found this much left

-- it has taken something since the look before, if less is left
abbrev pub with_left : (left millis : ℕ) → DrainProgress → DrainProgress
with_left left millis progress =
    record progress { left = left; moved = if nat_lt left progress.left then millis else progress.moved }

-- the first look that finds something is both looks of the rate
abbrev pub with_first_look : (left millis : ℕ) → DrainProgress → DrainProgress
with_first_look left millis progress =
    if progress.before.left == greatest
    then record progress {
      before = record { left = left; millis = millis };
      after = record { left = left; millis = millis };
    }
    else progress

-- once the rate's time has passed since the later look, that one becomes the earlier, and this one the later
abbrev pub with_look : (left millis : ℕ) → DrainProgress → DrainProgress
with_look left millis progress =
    if nat_le rate_time (millis - progress.after.millis)
    then record progress { before = progress.after; after = record { left = left; millis = millis } }
    else progress

-- a look that finds nothing left is no look of the rate
abbrev pub progress_after : (left millis : ℕ) → DrainProgress → DrainProgress
progress_after left millis progress =
    if left == 0
    then with_left left millis progress
    else with_look left millis (with_first_look left millis (with_left left millis progress))

-- ---- whether the drain waits

-- at its rate since the earlier look, the destination will not have taken all of this by the end
abbrev pub is_slow : (left millis end : ℕ) → DrainProgress → Bool
is_slow left millis end progress =
    nat_le rate_time (millis - progress.before.millis)
    && nat_lt (min ((progress.before.left - left) * (end - millis)) greatest)
    (min (left * (millis - progress.before.millis)) greatest)

-- it waits for a destination that has something left, and has taken something in the last second; where files keep what is not
-- sent, not for one that is too slow
abbrev pub waits_for : (left millis end : ℕ) → (files : Bool) → DrainProgress → Waits
waits_for left millis end files progress =
    if left == 0 then Done
    else (if nat_le longest_pause (millis - progress.moved) then Stuck
    else (if files && is_slow left millis end progress then Slow else Yes))

-- ---- a look at a destination

-- it has no connection that takes what is queued, or it has this much left; and so the drain waits for it or not
abbrev pub IsLook : (millis end : ℕ) → (files : Bool) → (before after : DrainProgress) → Waits → Type 0
IsLook millis end files before after waits =
    ((after ≡ nothing_seen millis) × (waits ≡ Done))
    ⊎ ((left : ℕ) × (after ≡ progress_after left millis before) × (waits ≡ waits_for left millis end files after))

abbrev pub IsWaitedFor : (millis end : ℕ) → (files : Bool) → (before after : DrainProgress) → Type 0
IsWaitedFor millis end files before after = IsLook millis end files before after Yes

abbrev pub IsNotWaitedFor : (millis end : ℕ) → (files : Bool) → (before after : DrainProgress) → Type 0
IsNotWaitedFor millis end files before after =
    (waits : Waits) × IsLook millis end files before after waits × (waits ≢ Yes)
