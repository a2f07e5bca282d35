-- A reader of datagrams, one step after another.
use Rattle.std.proofs.Common.{◌≡◌, ◌≤◌, ◌∙◌, ◌++◌, ℕ, Bool, true, List, [], length, refl, sym, subst}
use Rattle.line_text.specs.Datapoint.{Datapoint}
use Rattle.router.specs.Plan.{Plan}
use Rattle.reader_core.specs.Configuration.{Dispatch}
use Rattle.reader_core.specs.Entries.{InputEntry, input_after_entries}
use Rattle.reader_core.specs.Input.{fresh_input}
use Rattle.reader_core.specs.Reader.{ReaderModel, Represents}
use Rattle.reader_core.specs.declared.kind.ReaderKind.TheVariants.{Datagram}
use Rattle.queue_records.specs.Offers.{OffersMade}
use Rattle.mio_loops.specs.Reading.{AreMadeOrRefused, GoesOn, ReaderProgress}
use Rattle.mio_loops.proofs.ReadingLemmas.{went-none, went-then}
use Rattle.mio_loops.proofs.ServingLemmas.{waits-among}
use Rattle.receivers.specs.Datagrams.{ReadsDatagrams, IsReady, DatagramsProgress, is_at}
use Rattle.receivers.specs.Record.{have_moments}
use Rattle.receivers.specs.declared.datagram_loop.DatagramLoop.{DatagramLoop}
use Rattle.receivers.proofs.MomentLemmas.{moments-then, moments-reported}

-- it goes on to represent datagrams
reads-on : (plan : Plan) (entries : List InputEntry) (made : List Dispatch) (x y : ReaderModel)
    → ReadsDatagrams plan x → GoesOn plan entries made x y → ReadsDatagrams plan y
reads-on plan entries made x y reads goes = (
  input_after_entries Datagram entries reads.0,
  reads.1 ++ made,
  (goes Datagram reads.0 reads.1 reads.2).represents,
)

-- a loop that was fed nothing
pub ready-first : (plan : Plan) (x : DatagramLoop) (a : OffersMade) → Represents x.reader Datagram plan (fresh_input Datagram) []
    → plan.destinations ≤ length a.totals → IsReady plan x a
ready-first plan x a fresh dests = record { datagrams = (fresh_input Datagram, [], fresh); dests = dests }

-- nothing was received
pub datagrams-none : (refuses : ℕ → ℕ → Datapoint → Type 0) (may_give : ℕ → Bool) (plan : Plan) (x : DatagramLoop) (a : OffersMade) → IsReady plan x a → DatagramsProgress refuses may_give plan plan x x a a
datagrams-none refuses may_give plan x a ready = record {
  went = ([], [], went-none plan x.number x.reader a x.log, refl);
  number = refl;
  waits = λ held. held;
  plan_left = refl;
  ready = ready;
}

-- some entries, and some offers
pub datagrams-went : (refuses : ℕ → ℕ → Datapoint → Type 0) (may_give : ℕ → Bool) (plan left : Plan) (entries : List InputEntry) (made : List Dispatch) (x y : DatagramLoop) (a b : OffersMade)
    → IsReady plan x a → ReaderProgress plan x.number entries made x.reader y.reader a b x.log y.log
    → have_moments may_give entries ≡ true
    → y.number ≡ x.number → left ≡ plan → plan.destinations ≤ length b.totals → AreMadeOrRefused (refuses x.number) plan.destinations y.reader.waiting → DatagramsProgress refuses may_give plan left x y a b
datagrams-went refuses may_give plan left entries made x y a b ready went reported number is dests waits =
    let reads = reads-on plan entries made x.reader y.reader ready.datagrams went.reader in
    record {
      went = (entries, made, went, reported);
      number = number;
      waits = λ _. waits;
      plan_left = is;
      ready = subst (λ (p : Plan). IsReady p y b) (sym is) (record { datagrams = reads; dests = dests });
    }

-- offers that waited were made, and nothing was received
pub datagrams-offered : (refuses : ℕ → ℕ → Datapoint → Type 0) (may_give : ℕ → Bool) (plan : Plan) (count : ℕ) (made : List Dispatch) (x y : DatagramLoop) (a b : OffersMade)
    → IsReady plan x a → ReaderProgress plan x.number [] made x.reader y.reader a b x.log y.log
    → y.number ≡ x.number → count ≡ plan.destinations → count ≤ length b.totals
    → AreMadeOrRefused (refuses x.number) count y.reader.waiting → DatagramsProgress refuses may_give plan plan x y a b
datagrams-offered refuses may_give plan count made x y a b ready went number is dests waits =
    datagrams-went refuses may_give plan plan [] made x y a b ready went refl number refl
    (subst (λ (n : ℕ). n ≤ length b.totals) is dests) (waits-among (refuses x.number) count plan.destinations y.reader.waiting is waits)

-- and then more
pub datagrams-then : (refuses : ℕ → ℕ → Datapoint → Type 0) (may_give : ℕ → Bool) (plan mid left : Plan) (x y z : DatagramLoop) (a b c : OffersMade)
    → DatagramsProgress refuses may_give plan mid x y a b → DatagramsProgress refuses may_give mid left y z b c → DatagramsProgress refuses may_give plan left x z a c
datagrams-then refuses may_give plan mid left x y z a b c first second =
    let one = first.went in
    let two = second.went in
    let more : ReaderProgress plan x.number two.0 two.1 y.reader z.reader b c y.log z.log =
    subst (λ (p : Plan). ReaderProgress p x.number two.0 two.1 y.reader z.reader b c y.log z.log) first.plan_left
    (subst (λ (n : ℕ). ReaderProgress mid n two.0 two.1 y.reader z.reader b c y.log z.log) first.number two.2) in
    record {
      went = (
        one.0 ++ two.0,
        one.1 ++ two.1,
        went-then plan x.number one.0 two.0 one.1 two.1 x.reader y.reader z.reader a b c x.log y.log z.log one.2 more,
        moments-then may_give one.0 two.0 one.3 two.3,
      );
      number = second.number ∙ first.number;
      waits = λ held.
          (subst (λ (p : Plan). AreMadeOrRefused (refuses x.number) p.destinations y.reader.waiting → AreMadeOrRefused (refuses x.number) p.destinations z.reader.waiting) first.plan_left
          (subst (λ (n : ℕ). AreMadeOrRefused (refuses n) mid.destinations y.reader.waiting → AreMadeOrRefused (refuses n) mid.destinations z.reader.waiting) first.number second.waits)) (first.waits held);
      plan_left = second.plan_left ∙ first.plan_left;
      ready = second.ready;
    }

-- of one moment, which the clock may return
pub datagrams-reported : (refuses : ℕ → ℕ → Datapoint → Type 0) (may_give : ℕ → Bool) (moment : ℕ) (plan left : Plan) (x y : DatagramLoop) (a b : OffersMade) → may_give moment ≡ true
    → DatagramsProgress refuses (is_at moment) plan left x y a b → DatagramsProgress refuses may_give plan left x y a b
datagrams-reported refuses may_give moment plan left x y a b reported went =
    let all = went.went in
    record {
      went = (all.0, all.1, all.2, moments-reported may_give moment all.0 reported all.3);
      number = went.number;
      waits = went.waits;
      plan_left = went.plan_left;
      ready = went.ready;
    }
