-- Two readers and two destinations, each with its own log, and the run of an order of their steps, computed from the definitions.
use Rattle.std.proofs.Common.{◌≡◌, ◌<◌, ◌*◌, ℕ, List, [], ◌∷◌, refl, if◌then◌else◌, ◌==◌, Some, zero, suc, pos, inl, inr, arith}
use Rattle.std.proofs.lemmas.Bool.Decides.{nat_tests}
use Rattle.std.specs.Prelude.{codes}
use Rattle.std.specs.Str.{is_utf8, chars}
use Rattle.std.specs.Char.{encode_utf8}
use Rattle.std.specs.Fmt.{digits}
use Rattle.line_text.specs.Datapoint.{Datapoint}
use Rattle.line_text.specs.Value.{units_of_one}
use Rattle.dest_queue.specs.RecordedStep.{Offered, Took}
use Rattle.dest_queue.specs.declared.offer.Kept.TheVariants.{Queued}
use Rattle.reader_core.specs.declared.kind.ReaderKind.TheVariants.{Line}
use Rattle.reader_core.specs.Configuration.{Configuration}
use Rattle.reader_core.specs.Entries as entries
use Rattle.relay_core.specs.World.{Piece, End, Offer, Take, Up, Wrote, waiting_of}
use Rattle.relay_core.specs.Run.{reader_in, dest_in}
use Rattle.dest_writer.specs.Log.{UpEntry, TakeEntry, WroteEntry}
use Rattle.relay_core.specs.FirstPath.{line_reading}
use Rattle.dest_queue.specs.Numbered.{NumberedStep}
use Rattle.reader_core.specs.Record.{IsRecordOf}
use Rattle.relay_core.specs.Logged.{Logged, kind_of, entries_of, history_of, log_of, record_of, IsLogOf, AgreesInOrder}
use Rattle.relay_core.specs.RunOfOrder.{events_in_order, run_of_order}

-- names that begin with `a` go to the first destination, all others to the second
abbrev route : List ℕ → List ℕ
route [] = 1 ∷ []
route (first ∷ others) = if first == 97 then 0 ∷ [] else 1 ∷ []

abbrev configuration : Configuration
configuration = record { rewrite = λ name. Some name; route = route; destinations = 2; size = 2; limit = 5 }

abbrev point : ℕ → ℕ → Datapoint
point letter value = record { name = letter ∷ []; value = pos (value * units_of_one); time = 5 }

-- the first reader's offers, the second one's, and a batch of the first destination
abbrev first_a : NumberedStep
first_a = record { dest = 0; number = 1; step = Offered 0 0 (point 97 1) Queued }

abbrev first_b : NumberedStep
first_b = record { dest = 1; number = 65536; step = Offered 0 0 (point 98 2) Queued }

abbrev second_a : NumberedStep
second_a = record { dest = 0; number = 0; step = Offered 1 0 (point 97 3) Queued }

abbrev batch : NumberedStep
batch = record { dest = 0; number = 2; step = Took 5 2 }

-- one door for both readers, which refused the second reader's last offer, and one taker
abbrev logged : Logged
logged =
    record {
      kinds = Line ∷ Line ∷ [];
      inputs =
          (entries.Piece (codes "a 1 5\nb 2 5\n") 9 ∷ entries.End ∷ [])
          ∷ (entries.Piece (codes "a 3 5\n") 9 ∷ entries.Piece (codes "b 4 5\n") 9 ∷ [])
          ∷ [];
      histories = (second_a.step ∷ first_a.step ∷ batch.step ∷ []) ∷ (first_b.step ∷ []) ∷ [];
      logs = (UpEntry ∷ TakeEntry 5 2 ∷ WroteEntry 6 ∷ []) ∷ (UpEntry ∷ []) ∷ [];
      records = (second_a ∷ first_a ∷ first_b ∷ []) ∷ (batch ∷ []) ∷ [];
    }

abbrev order : List ℕ
order = 0 ∷ 1 ∷ 65536 ∷ 2 ∷ []

-- each piece is before its first offer, and the connection before the batch; what is left is at the end
pub events : events_in_order line_reading configuration logged order
    ≡ Piece 1 (codes "a 3 5\n") 9 ∷ Offer 1
    ∷ Piece 0 (codes "a 1 5\nb 2 5\n") 9 ∷ Offer 0 ∷ Offer 0
    ∷ Up 0 ∷ Take 0
    ∷ End 0 ∷ Piece 1 (codes "b 4 5\n") 9 ∷ Wrote 0 6 ∷ Up 1 ∷ []
unfolding is_utf8 chars encode_utf8 digits
events = refl

-- the batch's first line was written, and the offer that the door refused waits
pub connections : (dest_in line_reading (run_of_order line_reading configuration logged order) 0).connections ≡ codes "a 3 5\n" ∷ []
unfolding is_utf8 chars encode_utf8 digits
connections = refl

pub waiting : waiting_of line_reading configuration (reader_in line_reading (run_of_order line_reading configuration logged order) 1)
    ≡ record { dest = 1; point = point 98 4 } ∷ []
unfolding is_utf8 chars encode_utf8 digits
waiting = refl

-- ---- all of it agrees

first_record : IsRecordOf line_reading configuration (kind_of logged 0) (entries_of logged 0) (record_of logged 0)
unfolding is_utf8 chars encode_utf8 digits
first_record = record { stays_open = (refl, tt); lacking = []; offers = refl; of_last = (omega arith, tt) }

-- the second record does not have the offer of its last piece
second_record : IsRecordOf line_reading configuration (kind_of logged 1) (entries_of logged 1) (record_of logged 1)
unfolding is_utf8 chars encode_utf8 digits
second_record =
    record {
      stays_open = (refl, (refl, tt));
      lacking = record { dest = 1; point = point 98 4 } ∷ [];
      offers = refl;
      of_last = (omega arith, (omega arith, tt));
    }

first_log : IsLogOf line_reading configuration 2 (history_of logged 0) (log_of logged 0)
unfolding digits
first_log =
    record {
      end = record { points = []; offered = 2; kept = 2; dropped = 0; taken = 2; next = 1 ∷ 1 ∷ []; recorded = 3 };
      replays = (((omega arith, refl), refl), (((omega arith, refl), refl), ((refl, omega arith), refl)));
      unsealed = omega arith;
      limits = (refl, tt);
      takes = refl;
      written = (refl, (refl, (refl, omega arith, tt)));
    }

second_log : IsLogOf line_reading configuration 2 (history_of logged 1) (log_of logged 1)
second_log =
    record {
      end = record { points = point 98 2 ∷ []; offered = 1; kept = 1; dropped = 0; taken = 0; next = 1 ∷ 0 ∷ []; recorded = 1 };
      replays = (((omega arith, refl), refl), refl);
      unsealed = omega arith;
      limits = tt;
      takes = refl;
      written = (refl, tt);
    }

each_record : (r : ℕ) → r < 2 → IsRecordOf line_reading configuration (kind_of logged r) (entries_of logged r) (record_of logged r)
each_record zero l = first_record
each_record (suc zero) l = second_record
each_record (suc (suc r)) l = absurd (omega (arith, l))

each_log : (d : ℕ) → d < 2 → IsLogOf line_reading configuration 2 (history_of logged d) (log_of logged d)
each_log zero l = first_log
each_log (suc zero) l = second_log
each_log (suc (suc d)) l = absurd (omega (arith, l))

pub logs_agree : AgreesInOrder line_reading configuration logged order
logs_agree =
    record {
      inputs = refl;
      histories = refl;
      logs = refl;
      readers = each_record;
      destinations = each_log;
      same = λ r d. refl;
      one_record = λ r. (0, refl);
      common = record {
        once = λ x. grind (arith, nat_tests);
        held = λ x there. grind (arith, nat_tests);
        within = (
          inl (refl, inl (refl, inr (inl (refl, tt)))),
          (inr (inr (inl (refl, tt))), (inl (refl, inl (refl, inl (refl, tt))), (inr (inr (inr (inl (refl, tt)))), tt))),
        );
      };
    }
