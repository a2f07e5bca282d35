use Rattle.std.proofs.Common.{◌≡◌, false, List, refl, subst, ap, sym, ◌∙◌, ◌++◌, ℕ, length, take}
use Rattle.std.proofs.Math.Seq.{take-length}
use Rattle.line_text.specs.Connection.{Arrival, arrivals}
use Rattle.line_text.specs.declared.found_lines.NextRest.TheVariants.{Closed}
use Rattle.pickle_subset.specs.Frame.{front, Partial}
use Rattle.pickle_subset.specs.Accepted.{bad_pickle_count, bad_rows_count}
use Rattle.pickle_subset.specs.Reader.{ReaderModel, Represents, model_after}
use Rattle.pickle_subset.proofs.FeedLemmas.{Represents-closed_after, bad_pickles-closed, bad_rows-closed, gained-closed, waits-open, Represents-open_after, counts-open, gained-open}
use Rattle.pickle_subset.proofs.FramesLemmas.{bad_pickle_count-append, bad_rows_count-append}
use Rattle.pickle_subset.proofs.reader.PickleReader.find.Given.{Over}
use Rattle.pickle_subset.proofs.reader.PickleReader.find.Goals as goal

pub returns-then-self-clause-represents : goal.returns-then-self-clause-represents
returns-then-self-clause-represents g c =
    let closed = ap (λ (s : ReaderModel). s.closed) (sym c.self.view_is) ∙ c.if-self.true in
    λ before represents. Represents-closed_after c.args.self.now (record { bad_pickles = 0; bad_rows = 0; rest = Closed }) before _ closed represents refl refl refl

pub returns-then-self-clause-gained : goal.returns-then-self-clause-gained
returns-then-self-clause-gained g c =
    let closed = ap (λ (s : ReaderModel). s.closed) (sym c.self.view_is) ∙ c.if-self.true in
    λ before represents. gained-closed c.args.self.now before _ _ closed represents

pub returns-then-self-clause-bad_pickles : goal.returns-then-self-clause-bad_pickles
returns-then-self-clause-bad_pickles g c =
    let closed = ap (λ (s : ReaderModel). s.closed) (sym c.self.view_is) ∙ c.if-self.true in
    λ before represents. bad_pickles-closed c.args.self.now before _ closed represents

pub returns-then-self-clause-bad_rows : goal.returns-then-self-clause-bad_rows
returns-then-self-clause-bad_rows g c =
    let closed = ap (λ (s : ReaderModel). s.closed) (sym c.self.view_is) ∙ c.if-self.true in
    λ before represents. bad_rows-closed c.args.self.now before _ closed represents

-- what was kept before the piece
abbrev before_piece : (g : Over) → goal.After-truncate g → ReaderModel
before_piece g c = record { rest = c.self.inside.rest.items; closed = c.self.inside.closed; bad_pickles = c.self.inside.bad_pickles; bad_rows = c.self.inside.bad_rows }

-- it is less than a frame
waits : (g : Over) (c : goal.After-truncate g) (before : List Arrival) → c.self.inside.closed ≡ false → Represents (before_piece g c) before → front c.self.inside.rest.items ≡ Partial
waits g c before goes stood = waits-open (before_piece g c) before goes stood

pub returns-in-Ok-clause-represents : goal.returns-in-Ok-clause-represents
returns-in-Ok-clause-represents g c = λ before represents.
    let read = c.in-Ok.ensures in
    let stood = subst (λ (s : ReaderModel). Represents s before) (sym c.self.view_is) represents in
    let less = waits g c before c.if-self.false stood in
    subst (λ (s : ReaderModel). Represents (model_after s c.in-Ok.found) (before ++ arrivals c.args.piece.now c.args.moment)) c.self.view_is
    (Represents-open_after (before_piece g c) c.in-Ok.found before c.args.piece.now c.args.moment c.if-self.false stood
    (read.partial less) (read.closed less) (read.bad_pickles less) (read.bad_rows less))

pub returns-in-Ok-clause-gained : goal.returns-in-Ok-clause-gained
returns-in-Ok-clause-gained g c = λ before represents.
    let stood = subst (λ (s : ReaderModel). Represents s before) (sym c.self.view_is) represents in
    let less = waits g c before c.if-self.false stood in
    gained-open (before_piece g c) before c.args.piece.now c.args.moment _ _ c.if-self.false stood (c.in-Ok.ensures.gained less)

pub returns-in-Ok-clause-bad_pickles : goal.returns-in-Ok-clause-bad_pickles
returns-in-Ok-clause-bad_pickles g c = λ before represents.
    let stood = subst (λ (s : ReaderModel). Represents s before) (sym c.self.view_is) represents in
    let less = waits g c before c.if-self.false stood in
    counts-open bad_pickle_count bad_pickle_count-append (before_piece g c) before c.args.piece.now c.args.moment _ c.if-self.false stood (c.in-Ok.ensures.bad_pickles less)

pub returns-in-Ok-clause-bad_rows : goal.returns-in-Ok-clause-bad_rows
returns-in-Ok-clause-bad_rows g c = λ before represents.
    let stood = subst (λ (s : ReaderModel). Represents s before) (sym c.self.view_is) represents in
    let less = waits g c before c.if-self.false stood in
    counts-open bad_rows_count bad_rows_count-append (before_piece g c) before c.args.piece.now c.args.moment _ c.if-self.false stood (c.in-Ok.ensures.bad_rows less)

-- what is cut back to the size that it had is what it was
cut_back : {X : Type 0} (n : ℕ) (old new cut : List X) → n ≡ length old → cut ≡ take n new → take (length old) new ≡ old → cut ≡ old
cut_back n old new cut size is kept = is ∙ ap (λ m. take m new) size ∙ kept

-- so the reader is what it was
same_after : (reader now : ReaderModel) (rest : List ℕ) → rest ≡ reader.rest → reader ≡ now → record reader { rest = rest } ≡ now
same_after reader now rest is same = ap (λ (r : List ℕ). record reader { rest = r }) is ∙ same

pub returns-then-self-clause-kept : goal.returns-then-self-clause-kept
returns-then-self-clause-kept g c = take-length c.args.out.now.items

pub returns-in-Ok-clause-kept : goal.returns-in-Ok-clause-kept
returns-in-Ok-clause-kept g c = c.read_piece.ensures.kept_out

pub returns-in-Ok-clause-same : goal.returns-in-Ok-clause-same
returns-in-Ok-clause-same g c =
    let rest = c.self.inside.rest in
    let restored = cut_back c.len-kept.result rest.items c.read_piece.new.rest.items c.truncate.new.self.items (c.len-kept.ensures ∙ rest.ok.0) c.truncate.ensures.items c.read_piece.ensures.kept in
    same_after (before_piece g c) c.args.self.now c.truncate.new.self.items restored c.self.view_is

pub returns-in-Err-clause-same : goal.returns-in-Err-clause-same
returns-in-Err-clause-same g c =
    let inside = c.self.inside in
    let restored = cut_back c.len-kept.result inside.rest.items c.read_piece.new.rest.items c.truncate-in-Err.new.self.items (c.len-kept.ensures ∙ inside.rest.ok.0) c.truncate-in-Err.ensures.items c.read_piece.ensures.kept in
    same_after (record { rest = inside.rest.items; closed = inside.closed; bad_pickles = inside.bad_pickles; bad_rows = inside.bad_rows }) c.args.self.now c.truncate-in-Err.new.self.items restored c.self.view_is

pub returns-in-Err-clause-err : goal.returns-in-Err-clause-err
returns-in-Err-clause-err g c =
    cut_back c.len-points.result c.args.out.now.items c.read_piece.new.out.items c.truncate-in-Err-2.new.self.items (c.len-points.ensures ∙ c.args.out.now.ok.0) c.truncate-in-Err-2.ensures.items c.read_piece.ensures.kept_out

pub returns-in-Err-clause-kept : goal.returns-in-Err-clause-kept
returns-in-Err-clause-kept g c = rw (returns-in-Err-clause-err g c) (take-length c.args.out.now.items)
