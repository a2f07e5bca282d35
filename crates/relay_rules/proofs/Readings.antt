-- Reading the sections of a file, one after the other.
use Rattle.std.proofs.Common.{◌≡◌, ℕ, ◌+◌, ◌<◌, ◌≤◌, ◌||◌, Bool, true, false, cond, List, [], ◌∷◌, ◌++◌, length, take, drop, get_or, Option, Some, None, is_some, option_map, refl, ap, sym, ◌∙◌, arith, Ok, Err, unwrap_or, ap₂, if◌then◌else◌, ne_eqb, eq-eqb, slice_get}
use Rattle.std.proofs.lemmas.List.{at_drop_more, take_more, length-take-le, take_all, drop_all, append-nil}
use Rattle.std.proofs.lemmas.List.Elements.{filter_map-append}
use Rattle.std.proofs.lemmas.Option.{slice_get-get_or}
use Rattle.std.proofs.lemmas.List.Folds.{find-append}
use Rattle.std.specs.List.{list_any, find, cons_option}
use Rattle.std.specs.Option.{option_or}
use Rattle.conf_text.specs.Sections.{SectionText}
use Rattle.conf_text.specs.Destination.{Destination}
use Rattle.relay_base.specs.declared.dest_id.DestId.{DestId}
use Rattle.relay_rules.specs.declared.fault.RuleFault.{RuleFault}
use Rattle.relay_rules.specs.declared.fault.RuleFault.TheVariants.{NoDestinations, PatternAndDefault, SecondDefault, NoDefault, BadPattern, BadTruth, BadDestination, NoMemory}
use Rattle.relay_rules.specs.Rules.{RelayRule}
use Rattle.relay_rules.specs.Destinations.{ids_of}
use Rattle.relay_rules.specs.Sections.{rule_of, rules_of, is_default, has_default, default_of, section_destinations}
use Rattle.relay_rules.specs.Faults.{section_fault, file_fault, RefusesPattern, RefusesPatternAt}
use Rattle.relay_rules.specs.Reading.{relay_rules, rule_list_of, unless}
use Rattle.relay_rules.specs.Answers.{none_refused, only, FailsReading}
use Rattle.relay_rules.specs.Parts.{FailsAt}

-- the first sections have no fault, and say this
pub record IsReadTo (dests : List Destination) (all : List SectionText) (n : ℕ) (rules : List RelayRule) (default : Option (List DestId)) : Type 0 where
  pub sound : (refused : ℕ → Bool) → ((j : ℕ) → j < n → refused j ≡ false) → file_fault refused [] all ≡ file_fault refused (take n all) (drop n all)
  pub says : rules ≡ rules_of dests (take n all)
  pub says_default : default ≡ default_of dests (take n all)

pub start : (dests : List Destination) (all : List SectionText) → IsReadTo dests all 0 [] None
start dests all = record { sound = λ refused before. refl; says = refl; says_default = refl }

-- some section is the default rule if one is found
found_first : {X : Type 0} (x : X) (any : Bool) (o : Option X) (b : Bool) → any ≡ is_some o → (b || any) ≡ is_some (cond b (Some x) o)
found_first x any o true is = refl
found_first x any o false is = is

pub any_is_found : {X : Type 0} (test : X → Bool) (xs : List X) → list_any test xs ≡ is_some (find test xs)
any_is_found test [] = refl
any_is_found test (x ∷ xs) = found_first x (list_any test xs) (find test xs) (test x) (any_is_found test xs)

pub is_some-option_map : {A B : Type 0} (f : A → B) (o : Option A) → is_some (option_map f o) ≡ is_some o
is_some-option_map f None = refl
is_some-option_map f (Some x) = refl

pub is_none-from : {A : Type 0} (o : Option A) → is_some o ≡ false → o ≡ None
is_none-from None h = refl
is_none-from (Some x) h = absurd cc

option_or-None : {A : Type 0} (o : Option A) → option_or o None ≡ o
option_or-None None = refl
option_or-None (Some x) = refl

had_default : (dests : List Destination) (sections : List SectionText) (default : Option (List DestId)) → default ≡ default_of dests sections →
    has_default sections ≡ is_some default
had_default dests sections default is =
    any_is_found is_default sections ∙ sym (ap is_some is ∙ is_some-option_map (λ (section : SectionText). ids_of dests (section_destinations section)) (find is_default sections))

module _ (dests : List Destination) (all : List SectionText) (n : ℕ) (rules : List RelayRule) (default : Option (List DestId)) (read : IsReadTo dests all n rules default)
    (section : SectionText) (lt : n < length all) (is : section ≡ get_or all n section) where
  taken : take (n + 1) all ≡ take n all ++ section ∷ []
  taken = take_more all n section lt ∙ ap (λ (it : SectionText). take n all ++ it ∷ []) (sym is)

  -- the fault of the next section is before those of the others
  turn : (refused : ℕ → Bool) → ((j : ℕ) → j < n → refused j ≡ false) →
      file_fault refused [] all ≡ option_or (section_fault (refused n) (is_some default) n section) (file_fault refused (take (n + 1) all) (drop (n + 1) all))
  unfolding file_fault
  turn refused before =
      let len : length (take n all) ≡ n = length-take-le n all (omega arith) in
      let had : has_default (take n all) ≡ is_some default = had_default dests (take n all) default read.says_default in
      let more : take n all ++ section ∷ [] ≡ take (n + 1) all = sym taken in
      read.sound refused before
      ∙ at_drop_more (file_fault refused (take n all)) all n section lt
      ∙ ap (λ (it : SectionText). file_fault refused (take n all) (it ∷ drop (n + 1) all)) (sym is)
      ∙ (λ i. option_or (section_fault (refused (len i)) (had i) (len i) section) (file_fault refused (more i) (drop (n + 1) all)))

  -- at a fault of the next section
  fault_here : (refused : ℕ → Bool) (b : Bool) (fault : RuleFault) → ((j : ℕ) → j < n → refused j ≡ false) → refused n ≡ b →
      section_fault b (is_some default) n section ≡ Some fault → relay_rules refused dests all ≡ Err fault
  unfolding relay_rules
  fault_here refused b fault before here is_fault =
      let rest = file_fault refused (take (n + 1) all) (drop (n + 1) all) in
      ap (λ (o : Option RuleFault). unless o (rule_list_of dests all))
      (turn refused before ∙ ap (λ (r : Bool). option_or (section_fault r (is_some default) n section) rest) here ∙ ap (λ (o : Option RuleFault). option_or o rest) is_fault)

  -- with none refused, or this one
  reported : (fault : RuleFault) → section_fault false (is_some default) n section ≡ Some fault → relay_rules none_refused dests all ≡ Err fault
  reported fault is_fault = fault_here none_refused false fault (λ j below. refl) refl is_fault

  at_place : (k : ℕ) → k ≡ n → slice_get all k ≡ Some section
  at_place k same = ap (slice_get all) same ∙ slice_get-get_or all n section lt ∙ ap (λ (it : SectionText). Some it) (sym is)

  pub fails : (fault : RuleFault) → FailsAt n (RefusesPattern section) (λ refused. section_fault refused (is_some default) n section) fault →
      FailsReading (RefusesPatternAt all) fault (λ refused. relay_rules refused dests all)
  fails (NoDestinations k) h = reported (NoDestinations k) h
  fails (PatternAndDefault k) h = reported (PatternAndDefault k) h
  fails (SecondDefault k) h = reported (SecondDefault k) h
  fails (NoDefault k) h = reported (NoDefault k) h
  fails (BadPattern k) h = (
    fault_here (only k) true (BadPattern k) (λ j below. ne_eqb j k (omega (arith, h.0))) (eq-eqb n k (sym h.0)) h.1,
    record { section = section; is_there = at_place k h.0; refuses = h.2 },
  )
  fails (BadTruth k) h = reported (BadTruth k) h
  fails (BadDestination k) h = reported (BadDestination k) h
  fails NoMemory h = tt

  -- past a section without a fault
  sound_more : section_fault false (is_some default) n section ≡ None → (refused : ℕ → Bool) → ((j : ℕ) → j < n + 1 → refused j ≡ false) →
      file_fault refused [] all ≡ file_fault refused (take (n + 1) all) (drop (n + 1) all)
  sound_more none refused before =
      let rest = file_fault refused (take (n + 1) all) (drop (n + 1) all) in
      turn refused (λ j below. before j (omega arith))
      ∙ ap (λ (r : Bool). option_or (section_fault r (is_some default) n section) rest) (before n (omega arith))
      ∙ ap (λ (o : Option RuleFault). option_or o rest) none

  -- what the sections up to and with it say
  rules_more : rules_of dests (take (n + 1) all) ≡ rules_of dests (take n all) ++ cons_option (rule_of dests section) []
  rules_more = ap (rules_of dests) taken ∙ filter_map-append (rule_of dests) (take n all) (section ∷ [])

  default_more : default_of dests (take (n + 1) all)
      ≡ option_map (λ it. ids_of dests (section_destinations it)) (option_or (find is_default (take n all)) (cond (is_default section) (Some section) None))
  default_more =
      ap (default_of dests) taken
      ∙ ap (option_map (λ (it : SectionText). ids_of dests (section_destinations it))) (find-append is_default (take n all) (section ∷ []))

  no_default : is_default section ≡ false → default ≡ default_of dests (take (n + 1) all)
  no_default not_it =
      let known_in = λ (it : SectionText). ids_of dests (section_destinations it) in
      read.says_default
      ∙ sym (default_more
      ∙ ap (λ (b : Bool). option_map known_in (option_or (find is_default (take n all)) (cond b (Some section) None))) not_it
      ∙ ap (option_map known_in) (option_or-None (find is_default (take n all))))

  pub with_rule : (rule : RelayRule) → section_fault false (is_some default) n section ≡ None → rule_of dests section ≡ Some rule →
      is_default section ≡ false → IsReadTo dests all (n + 1) (rules ++ rule ∷ []) default
  with_rule rule none it not_default = record {
    sound = sound_more none;
    says = ap (λ (rs : List RelayRule). rs ++ rule ∷ []) read.says
        ∙ sym (rules_more ∙ ap (λ (o : Option RelayRule). rules_of dests (take n all) ++ cons_option o []) it);
    says_default = no_default not_default;
  }

  same_rules : rule_of dests section ≡ None → rules ≡ rules_of dests (take (n + 1) all)
  same_rules it =
      read.says ∙ sym (rules_more ∙ ap (λ (o : Option RelayRule). rules_of dests (take n all) ++ cons_option o []) it ∙ append-nil _)

  pub with_none : section_fault false (is_some default) n section ≡ None → rule_of dests section ≡ None → is_default section ≡ false →
      IsReadTo dests all (n + 1) rules default
  with_none none it not_default = record { sound = sound_more none; says = same_rules it; says_default = no_default not_default }

  pub with_default : (ids : List DestId) → section_fault false (is_some default) n section ≡ None → rule_of dests section ≡ None →
      is_default section ≡ true → ids ≡ ids_of dests (section_destinations section) → is_some default ≡ false → IsReadTo dests all (n + 1) rules (Some ids)
  with_default ids none it is_it is_ids first =
      let known_in = λ (it : SectionText). ids_of dests (section_destinations it) in
      let before : find is_default (take n all) ≡ None =
      is_none-from (find is_default (take n all)) (sym (is_some-option_map known_in (find is_default (take n all))) ∙ ap is_some (sym read.says_default) ∙ first) in
      record {
        sound = sound_more none;
        says = same_rules it;
        says_default = ap (λ (it : List DestId). Some it) is_ids
            ∙ sym (default_more
            ∙ ap (λ (b : Bool). option_map known_in (option_or (find is_default (take n all)) (cond b (Some section) None))) is_it
            ∙ ap (λ (o : Option SectionText). option_map known_in (option_or o (Some section))) before);
      }

-- past the last section
module _ (dests : List Destination) (all : List SectionText) (n : ℕ) (rules : List RelayRule) (default : Option (List DestId)) (read : IsReadTo dests all n rules default)
    (end : length all ≤ n) where
  whole : file_fault none_refused [] all ≡ (if is_some default then None else Some (NoDefault (length all)))
  unfolding file_fault
  whole =
      read.sound none_refused (λ j below. refl)
      ∙ ap₂ (file_fault none_refused) (take_all n all end) (drop_all n all end)
      ∙ ap (λ (b : Bool). cond b None (Some (NoDefault (length all))))
      (had_default dests all default (read.says_default ∙ ap (default_of dests) (take_all n all end)))

  pub without_default : is_some default ≡ false → relay_rules none_refused dests all ≡ Err (NoDefault (length all))
  unfolding relay_rules
  without_default none =
      ap (λ (o : Option RuleFault). unless o (rule_list_of dests all)) (whole ∙ ap (λ (b : Bool). cond b None (Some (NoDefault (length all)))) none)

  pub all_read : (ids : List DestId) → default ≡ Some ids → relay_rules none_refused dests all ≡ Ok (record { rules = rules; default = ids })
  unfolding relay_rules
  all_read ids some =
      let said : default_of dests all ≡ Some ids = sym (read.says_default ∙ ap (default_of dests) (take_all n all end)) ∙ some in
      let same : rules_of dests all ≡ rules = sym (read.says ∙ ap (rules_of dests) (take_all n all end)) in
      ap (λ (o : Option RuleFault). unless o (rule_list_of dests all))
      (whole ∙ ap (λ (o : Option (List DestId)). cond (is_some o) None (Some (NoDefault (length all)))) some)
      ∙ (λ i. Ok (record { rules = same i; default = unwrap_or (said i) [] }))
