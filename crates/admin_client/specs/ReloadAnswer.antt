-- What a relay answers to `reload`.
use Rattle.std.specs.Prelude.{ℕ, Bool, true, false, ◌||◌, List, length, take, drop, codes, Option, None, Some, if◌then◌else◌}
use Rattle.std.specs.Str.{bytes_eq}
use Rattle.admin_client.specs.declared.reload_answer.Refusal.{Refusal}
use Rattle.admin_client.specs.declared.reload_answer.Refusal.TheVariants.{Configuration, Device, NoMemory}

pub data ReloadEnd : Type 0 where
  -- the relay runs by what its files say now
  Reloaded : ReloadEnd
  -- it goes on as it was: why, and a text whose first line has the reason
  Refused : Refusal → List ℕ → ReloadEnd

-- the words before the reason: the status that the command ends with
abbrev pub words_of : Refusal → List ℕ
words_of Configuration = codes "refused 1 "
words_of Device = codes "refused 3 "
words_of NoMemory = codes "refused 4 "

-- what is behind these words, if a text begins with them
abbrev pub behind : (words text : List ℕ) → Option (List ℕ)
behind words text =
    if bytes_eq (take (length words) text) words then Some (drop (length words) text) else None

-- the first of two answers that is there
abbrev pub or_refused : Refusal → Option (List ℕ) → Option ReloadEnd → Option ReloadEnd
or_refused refusal (Some text) other = Some (Refused refusal text)
or_refused refusal None other = other

-- the refusal that an answer is, if it is one
abbrev pub refusal_in : List ℕ → Option ReloadEnd
refusal_in answer =
    or_refused Configuration (behind (words_of Configuration) answer)
    (or_refused Device (behind (words_of Device) answer)
    (or_refused NoMemory (behind (words_of NoMemory) answer) None))

-- whether there is a text
abbrev pub is_there : Option (List ℕ) → Bool
is_there None = false
is_there (Some text) = true

-- what an answer says, if it is one; behind `reloaded: ` it says what changed, and one without that is of an older relay
abbrev pub reload_end : List ℕ → Option ReloadEnd
reload_end answer =
    if bytes_eq answer (codes "reloaded\n") || is_there (behind (codes "reloaded: ") answer)
    then Some Reloaded else refusal_in answer
