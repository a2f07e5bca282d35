-- The line for what a receiver lost or closed.
use Rattle.std.specs.Prelude.{ℕ, List, [], ◌∷◌, Bool, ◌++◌, ◌==◌, ◌&&◌, true, codes}
use Rattle.log_lines.specs.CountsLine.{kind_words}
use Rattle.log_lines.specs.Losses.{count_of}
use Rattle.log_lines.specs.declared.losses.TheConstants.{LOSS_REASONS}
use Rattle.log_lines.specs.declared.losses.LossCounts.{LossCounts}
use Rattle.log_lines.specs.declared.losses.LossReason.{LossReason}
use Rattle.log_lines.specs.declared.losses.LossReason.TheVariants as reason
use Rattle.log_lines.specs.declared.losses_line.InputUnit.{InputUnit}
use Rattle.log_lines.specs.declared.losses_line.InputUnit.TheVariants as unit

-- what is too long
abbrev pub overlong_noun : InputUnit → List ℕ
overlong_noun unit.Line = codes "overlong line"
overlong_noun unit.Frame = codes "overlong frame"
overlong_noun unit.Datagram = codes "overlong datagram"

-- what has no end
abbrev pub unfinished_noun : InputUnit → List ℕ
unfinished_noun unit.Line = codes "unfinished line"
unfinished_noun unit.Frame = codes "unfinished frame"
unfinished_noun unit.Datagram = codes "unfinished datagram"

-- what was lost or closed for a reason
abbrev pub loss_noun : InputUnit → LossReason → List ℕ
loss_noun unit reason.Overlong = overlong_noun unit
loss_noun unit reason.Unfinished = unfinished_noun unit
loss_noun unit reason.Idle = codes "idle connection"
loss_noun unit reason.MemoryShort = codes "memory shortage"
loss_noun unit reason.Broken = codes "broken connection"
loss_noun unit reason.SystemDrop = codes "system drop"

-- those of these reasons that have a count, which are the first of the line or follow some
abbrev pub loss_words_of : InputUnit → LossCounts → Bool → List LossReason → List ℕ
loss_words_of unit counts is_first [] = []
loss_words_of unit counts is_first (why ∷ others) =
    kind_words is_first (count_of counts why) (loss_noun unit why)
    ++ loss_words_of unit counts (is_first && (count_of counts why == 0)) others

-- the reasons with a count
unfoldable pub loss_words : InputUnit → LossCounts → List ℕ
loss_words unit counts = loss_words_of unit counts true LOSS_REASONS

-- the line for the losses of a receiver of a name
abbrev pub losses_line : List ℕ → InputUnit → LossCounts → List ℕ
losses_line name unit counts =
    codes "receiver " ++ name ++ loss_words unit counts ++ codes "\n"
