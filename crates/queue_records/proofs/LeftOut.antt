-- What the numbers of offers and of datapoints taken, each at most the greatest count, say of what was left out.
use Rattle.std.proofs.Common.{◌≡◌, ◌<◌, ◌≤◌, ◌∙◌, ℕ, List, length, take, slice_index, ap, arith}
use Rattle.std.proofs.lemmas.Bool.Decides.{nat_tests}
use Rattle.std.proofs.lemmas.List.{take_all}
use Rattle.std.proofs.lemmas.Option.{slice_get_within}
use Rattle.std.specs.Prelude.{Some, Option, MatchOption}
use Rattle.dest_queue.specs.Offer.{last_count}
use Rattle.dest_queue.specs.declared.counts.Counts.{Counts}
use Rattle.queue_records.specs.Settling.{IsMet, IsWhole, IsFirstWithout, HoldsOfEach, FitsAt, offers_recorded, taken_recorded}
use Rattle.queue_records.specs.Takes.{saturating_sum}
use Rattle.queue_records.specs.declared.door_record.DoorRecord.{DoorRecord}
use Rattle.queue_records.specs.declared.outlet_record.OutletRecord.{OutletRecord}

-- each of the first numbers is this one, or the greatest count
abbrev pub AreCapped : ℕ → List ℕ → (ℕ → ℕ) → Type 0
AreCapped n numbers full = (d : ℕ) → d < n → slice_index numbers d ≡ saturating_sum 0 (full d)

-- so they are at the end of a loop over all records
pub capped_all : {X : Type 0} (full : ℕ → List X → ℕ) (n i : ℕ) (xs : List X) (numbers shown : List ℕ) → shown ≡ numbers → length xs ≤ i
    → AreCapped n numbers (λ d. full d (take i xs)) → AreCapped n shown (λ d. full d xs)
capped_all {X} full n i xs numbers shown same past capped =
    λ d lt. ap (λ (ns : List ℕ). slice_index ns d) same ∙ capped d lt ∙ ap (λ (ys : List X). saturating_sum 0 (full d ys)) (take_all i xs past)

capped_at_most : (n s count : ℕ) → n ≡ saturating_sum 0 s → count ≤ n → count ≤ s
capped_at_most n s count is most = grind (arith, nat_tests)

within_capped : (n s count : ℕ) → n ≡ saturating_sum 0 s → count ≤ last_count → count ≤ s → count ≤ n
within_capped n s count is fits most = grind (arith, nat_tests)

whole_if_met : (doors : List DoorRecord) (outlets : List OutletRecord) (n : ℕ) (offers taken : List ℕ)
    → AreCapped n offers (λ d. offers_recorded d doors) → AreCapped n taken (λ d. taken_recorded d outlets)
    → (d : ℕ) (c : Counts) → d < n → IsMet offers taken d c → IsWhole doors outlets d c
whole_if_met doors outlets n offers taken offered took d c within met =
    record {
      unsealed = met.unsealed;
      offers = capped_at_most (slice_index offers d) (offers_recorded d doors) c.offered (offered d within) met.offers;
      taken = capped_at_most (slice_index taken d) (taken_recorded d outlets) c.taken (took d within) met.taken;
    }

met_if_whole : (doors : List DoorRecord) (outlets : List OutletRecord) (n : ℕ) (offers taken : List ℕ)
    → AreCapped n offers (λ d. offers_recorded d doors) → AreCapped n taken (λ d. taken_recorded d outlets)
    → (d : ℕ) (c : Counts) → d < n → (c.offered ≤ last_count) × (c.taken ≤ last_count) → IsWhole doors outlets d c → IsMet offers taken d c
met_if_whole doors outlets n offers taken offered took d c within fit whole =
    record {
      unsealed = whole.unsealed;
      offers = within_capped (slice_index offers d) (offers_recorded d doors) c.offered (offered d within) fit.0 whole.offers;
      taken = within_capped (slice_index taken d) (taken_recorded d outlets) c.taken (took d within) fit.1 whole.taken;
    }

-- what is found for such numbers holds of the records
pub found_whole : (doors : List DoorRecord) (outlets : List OutletRecord) (counts : List Counts) (offers taken : List ℕ)
    → AreCapped (length counts) offers (λ d. offers_recorded d doors) → AreCapped (length counts) taken (λ d. taken_recorded d outlets)
    → (found : Option ℕ)
    → MatchOption found (HoldsOfEach (IsMet offers taken) counts) (λ dest. IsFirstWithout (IsMet offers taken) counts dest × FitsAt counts dest)
    → MatchOption found (HoldsOfEach (IsWhole doors outlets) counts) (IsFirstWithout (IsWhole doors outlets) counts)
found_whole doors outlets counts offers taken offered took Option.None each =
    λ d c is. whole_if_met doors outlets (length counts) offers taken offered took d c (slice_get_within counts d c is) (each d c is)
found_whole doors outlets counts offers taken offered took (Some dest) first =
    record {
      within = first.0.within;
      here = λ c is whole. first.0.here c is (met_if_whole doors outlets (length counts) offers taken offered took dest c first.0.within (first.1 c is) whole);
      before = λ d c lt is. whole_if_met doors outlets (length counts) offers taken offered took d c (slice_get_within counts d c is) (first.0.before d c lt is);
    }
