-- The turn of one destination.
use Rattle.std.proofs.Common.{◌≡◌, ◌≤◌, ◌∙◌, ◌||◌, if◌then◌else◌, ℕ, true, false, Bool, List, [], Option, Some, None, refl, sym, subst}
use Rattle.line_text.specs.Datapoint.{Datapoint}
use Rattle.dest_writer.specs.Counting.{counts_of}
use Rattle.dest_writer.specs.declared.counting.Counting.{Counting}
use Rattle.dest_writer.specs.declared.driven.Driven.{Driven}
use Rattle.dest_queue.specs.PointsInHand.{PointsInHand}
use Rattle.dest_writer.specs.Writer.{WriterState, SizedWriter, writer_after_up}
use Rattle.dest_writer.specs.Log.{UpEntry}
use Rattle.queue_records.specs.Takes.{TakesMade}
use Rattle.mio_loops.specs.OutgoingState.{OutgoingState, IsSoundOutgoing}
use Rattle.mio_loops.specs.WriterSteps.{HoldsOnlyUnwritten}
use Rattle.mio_loops.specs.WriterLog.{WriterLog, log_after}
use Rattle.mio_loops.specs.WriteServe.{Moved, IsServed, is_failed}
use Rattle.mio_loops.specs.WriteTurn.{is_in_again_list, connection_due, side_of, WasServed, IsTurn}

-- a destination is sound after its connection was served
pub sound-served : (limit : ℕ) (old new : SizedWriter) (lent back : PointsInHand) → IsSoundOutgoing limit old lent
    → new.limit ≡ old.limit → back.points ≡ [] → back.room ≡ lent.room → HoldsOnlyUnwritten new.writer → IsSoundOutgoing limit new back
sound-served limit old new lent back sound fits empty room unwritten =
    record {
      least = sound.least;
      most = sound.most;
      fits = fits ∙ sound.fits;
      empty = empty;
      room = subst (λ (n : ℕ). limit ≤ n) (sym room) sound.room;
      unwritten = unwritten;
    }

module _ {W : Type 0} where
  due-is : (ready : Bool) (o : OutgoingState W) (held : Counting W) → (ready || is_in_again_list o) ≡ true → o.sink ≡ Some held → connection_due ready o ≡ Some held
  due-is ready o held due sink = rw due sink

  pub not-due : (ready : Bool) (o : OutgoingState W) → (ready || is_in_again_list o) ≡ false → connection_due ready o ≡ None
  not-due ready o idle = rw idle refl

  without : (due : Bool) (sink : Option (Counting W)) → sink ≡ None → (if due then sink else None) ≡ None
  without true sink none = none
  without false sink none = refl

  pub no-connection : (ready : Bool) (inside old : OutgoingState W) → inside ≡ old → inside.sink ≡ None → connection_due ready old ≡ None
  no-connection ready inside old is_old none =
      subst (λ (o : OutgoingState W). connection_due ready o ≡ None) is_old (without (ready || is_in_again_list inside) inside.sink none)

  same_sink : (x : Option (Counting W)) (held other : Counting W) → x ≡ Some held → x ≡ Some other → held ≡ other
  same_sink x held other first second = cc

  no_sink : (x : Option (Counting W)) (held : Counting W) → x ≡ Some held → x ≡ None → ⊥
  no_sink x held first second = cc

module _ {W : Type 0} (contents : W → Option (List ℕ)) (may_hand : TakesMade → ℕ → ℕ → List Datapoint → Type 0) where
  -- the connection of a destination that is due was served
  pub turn-served : (dest : ℕ) (ready : Bool) (inside old end new : OutgoingState W) (held sink : Counting W) (driven : Driven) (before after : TakesMade) (moved : Moved)
      → inside ≡ old → inside.sink ≡ Some held → (ready || is_in_again_list old) ≡ true
      → IsServed may_hand dest inside.limit moved driven (side_of contents inside before held) (side_of contents end after sink) (counts_of held) (counts_of sink)
      → end.sink ≡ (if is_failed driven then None else Some sink) → end.last ≡ Some driven → end.limit ≡ inside.limit → new ≡ end
      → IsTurn contents may_hand dest ready (record { old = old; new = new; answer = Some driven }) before after
  turn-served dest ready inside old end new held sink driven before after moved is_old is_sink due served stays last limit is_new =
      let due_here : connection_due ready inside ≡ Some held =
      due-is ready inside held (subst (λ (o : OutgoingState W). (ready || is_in_again_list o) ≡ true) (sym is_old) due) is_sink in
      let here : WasServed contents may_hand dest held driven inside end before after = record {
        moved = moved;
        sink = sink;
        served = served;
        stays = stays;
        last = last;
        limit = limit;
      } in
      subst (λ (o : OutgoingState W). IsTurn contents may_hand dest ready (record { old = o; new = new; answer = Some driven }) before after) is_old
      (subst (λ (n : OutgoingState W). IsTurn contents may_hand dest ready (record { old = inside; new = n; answer = Some driven }) before after) (sym is_new)
      (record {
        served = λ other is. (driven, refl, subst (λ (h : Counting W). WasServed contents may_hand dest h driven inside end before after) (same_sink _ held other due_here is) here);
        passed = λ none. absurd (no_sink _ held due_here none);
      }))

  -- a destination without a connection that is due was passed over
  pub turn-passed : (dest : ℕ) (ready : Bool) (old new : OutgoingState W) (made : TakesMade) → new ≡ old → connection_due ready old ≡ None
      → IsTurn contents may_hand dest ready (record { old = old; new = new; answer = None }) made made
  turn-passed dest ready old new made same none =
      record {
        served = λ held is. absurd (no_sink _ held is none);
        passed = λ _. (refl, same, refl);
      }

module _ {W : Type 0} where
  -- a destination with a new connection
  pub attached-is : (inside now_here : OutgoingState W) (writer : WriterState) (log : WriterLog) (held : Counting W)
      → inside ≡ now_here → writer ≡ writer_after_up inside.writer → log ≡ log_after UpEntry inside.log
      → record { limit = inside.limit; writer = writer; sink = Some held; log = log; last = None }
      ≡ record now_here { writer = writer_after_up now_here.writer; sink = Some held; log = log_after UpEntry now_here.log; last = None }
  attached-is inside now_here writer log held same is_writer is_log =
      subst (λ (o : OutgoingState W). record { limit = inside.limit; writer = writer; sink = Some held; log = log; last = None }
      ≡ record o { writer = writer_after_up o.writer; sink = Some held; log = log_after UpEntry o.log; last = None }) same
      (rw (is_writer, is_log) refl)
