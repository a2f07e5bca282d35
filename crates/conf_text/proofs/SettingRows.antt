-- A fault of the settings is that of the first row that has one.
use Rattle.std.proofs.Common.{◌≡◌, ℕ, ◌+◌, ◌<◌, Bool, true, false, cond, eqb, ltb, ◌&&◌, List, [], ◌∷◌, length, get_or, Option, Some, None, Result, Ok, Err, refl, sym, ap, ◌∙◌, subst, arith, inl, inr, nat_le}
use Rattle.std.specs.Prelude.{codes}
use Rattle.std.specs.Option.{ok_or, unwrap_or}
use Rattle.std.specs.Str.{bytes_eq}
use Rattle.std.proofs.lemmas.Bool.{cases_lt}
use Rattle.conf_text.specs.declared.setting.Setting.{Setting}
use Rattle.conf_text.specs.declared.setting.Setting.TheVariants.{Destinations, RelayMethod, ReplicationFactor, DiverseReplicas, MaxQueueSize, MaxDatapointsPerMessage, UseFlowControl, DestinationProtocol, LineReceiverInterface, LineReceiverPort, PickleReceiverInterface, PickleReceiverPort, EnableUdpListener, UdpReceiverInterface, UdpReceiverPort}
use Rattle.conf_text.specs.declared.setting.SettingFault.{SettingFault}
use Rattle.conf_text.specs.declared.setting.SettingFault.TheVariants as fault
use Rattle.conf_text.specs.declared.method.RelayMethod.{RelayMethod as Method}
use Rattle.conf_text.specs.declared.method.RelayMethod.TheVariants.{Rules, ConsistentHashing}
use Rattle.conf_text.specs.declared.protocol.DestinationProtocol.TheVariants.{Line}
use Rattle.conf_text.specs.Destination.{Destination, destinations_of}
use Rattle.relay_base.specs.WholeNumber.{short_whole_number}
use Rattle.conf_text.specs.TruthWord.{truth_of}
use Rattle.conf_text.specs.Sections.{SectionText}
use Rattle.conf_text.specs.SettingRules.{◌>>=◌, Rule, setting_text, value_or_default, required_value, number_within, number_in, truth_word, method_name, flow_control, protocol_name, limited_list, destination_list, has_repeat, same_by, check_distinct}
use Rattle.conf_text.specs.SettingsTable.{routing_of, sending_of, receiving_of, settings_of}
use Rattle.conf_text.specs.SettingsOrder.{row_of, setting_of_fault, verdict, verdict_on, IsGood, IsFirstFault}
use Rattle.conf_text.specs.Laws.{FaultIsFirst, SettingsAreGood}

-- ---- a fault names the setting that was read

abbrev Names : {V : Type 0} → Setting → Result V SettingFault → Type 0
Names setting read = (f : SettingFault) → read ≡ Err f → setting_of_fault f ≡ Some setting

names-ok : {V : Type 0} (setting : Setting) (value : V) → Names setting (Ok value)
names-ok setting value f e = absurd cc

names-err : {V : Type 0} (setting : Setting) (g : SettingFault) → setting_of_fault g ≡ Some setting → Names {V = V} setting (Err g)
names-err setting g named f e = let same : g ≡ f = cc in sym (ap setting_of_fault same) ∙ named

names-cond : {V : Type 0} (setting : Setting) (b : Bool) (r s : Result V SettingFault) → Names setting r → Names setting s → Names setting (cond b r s)
names-cond setting true r s named other = named
names-cond setting false r s named other = other

names-ok_or : {V : Type 0} (setting : Setting) (o : Option V) (g : SettingFault) → setting_of_fault g ≡ Some setting → Names setting (ok_or o g)
names-ok_or setting (Some value) g named = names-ok setting value
names-ok_or setting None g named = names-err setting g named

names-next : {V W : Type 0} (setting : Setting) (r : Result V SettingFault) (next : V → Result W SettingFault) → Names setting r
    → ((value : V) → Names setting (next value)) → Names setting (r >>= next)
names-next setting (Ok value) next named then = then value
names-next setting (Err g) next named then = λ f e. let same : g ≡ f = cc in sym (ap setting_of_fault same) ∙ named g refl

abbrev NamesAll : {V : Type 0} → Rule V → Type 0
NamesAll rule = (setting : Setting) (text : List ℕ) → Names setting (rule setting text)

names-required : {V : Type 0} (ini : List SectionText) (setting : Setting) (rule : Rule V) → NamesAll rule → Names setting (required_value ini setting rule)
names-required ini setting rule named =
    names-next setting (ok_or (setting_text ini setting) (fault.Missing setting)) (rule setting)
    (names-ok_or setting (setting_text ini setting) (fault.Missing setting) refl) (named setting)

names-default : {V : Type 0} (ini : List SectionText) (setting : Setting) (default : List ℕ) (rule : Rule V) → NamesAll rule → Names setting (value_or_default ini setting default rule)
names-default ini setting default rule named = named setting (unwrap_or (setting_text ini setting) default)

names-within : (low high : ℕ) (setting : Setting) (o : Option ℕ) → Names setting (number_within low high setting o)
names-within low high setting None = names-err setting (fault.BadNumber setting) refl
names-within low high setting (Some n) = names-cond setting (nat_le low n && nat_le n high) (Ok n) (Err (fault.BadNumber setting)) (names-ok setting n) (names-err setting (fault.BadNumber setting) refl)

names-number : (low high : ℕ) → NamesAll (number_in low high)
names-number low high setting text = names-within low high setting (short_whole_number 10 text)

names-truth : NamesAll truth_word
names-truth setting text = names-ok_or setting (truth_of text) (fault.BadTruth setting) refl

names-flow : NamesAll flow_control
names-flow setting text =
    names-next setting (truth_word setting text) (λ on. cond on (Err (fault.FlowControl setting)) (Ok false)) (names-truth setting text)
    (λ on. names-cond setting on (Err (fault.FlowControl setting)) (Ok false) (names-err setting (fault.FlowControl setting) refl) (names-ok setting false))

names-protocol : NamesAll protocol_name
names-protocol setting text =
    names-cond setting (bytes_eq text (codes "line")) (Ok Line) (Err (fault.Protocol setting)) (names-ok setting Line) (names-err setting (fault.Protocol setting) refl)

names-method : NamesAll method_name
names-method setting text =
    names-cond setting (bytes_eq text (codes "rules")) (Ok Rules) (cond (bytes_eq text (codes "consistent-hashing")) (Ok ConsistentHashing) (Err (fault.Method setting)))
    (names-ok setting Rules)
    (names-cond setting (bytes_eq text (codes "consistent-hashing")) (Ok ConsistentHashing) (Err (fault.Method setting)) (names-ok setting ConsistentHashing) (names-err setting (fault.Method setting) refl))

names-limited : (setting : Setting) (dests : List Destination) → Names setting (limited_list setting dests)
names-limited setting dests =
    names-cond setting (nat_le (length dests) 64) (Ok dests) (Err (fault.TooMany setting)) (names-ok setting dests) (names-err setting (fault.TooMany setting) refl)

names-destinations : NamesAll destination_list
names-destinations setting text =
    let read = ok_or (destinations_of text) (fault.BadDestination setting) in
    names-cond setting (eqb (length text) 0) (Err (fault.Missing setting)) (read >>= limited_list setting) (names-err setting (fault.Missing setting) refl)
    (names-next setting read (limited_list setting) (names-ok_or setting (destinations_of text) (fault.BadDestination setting) refl) (names-limited setting))

names-distinct : (method : Method) (dests : List Destination) (setting : Setting) → Names setting (check_distinct method dests setting)
names-distinct method dests setting =
    names-cond setting (has_repeat (same_by method) dests) (Err (fault.DuplicateDestination setting)) (Ok tt) (names-err setting (fault.DuplicateDestination setting) refl) (names-ok setting tt)

-- ---- the settings before a row

table : List Setting
table = Destinations ∷ RelayMethod ∷ ReplicationFactor ∷ DiverseReplicas ∷ MaxQueueSize ∷ MaxDatapointsPerMessage ∷ UseFlowControl ∷ DestinationProtocol ∷ LineReceiverInterface ∷ LineReceiverPort ∷ PickleReceiverInterface ∷ PickleReceiverPort ∷ EnableUdpListener ∷ UdpReceiverInterface ∷ UdpReceiverPort ∷ []

setting_at : ℕ → Setting
setting_at n = get_or table n Destinations

setting_at-row_of : (setting : Setting) → setting_at (row_of setting) ≡ setting
unfolding setting_at table
setting_at-row_of Destinations = refl
setting_at-row_of RelayMethod = refl
setting_at-row_of ReplicationFactor = refl
setting_at-row_of DiverseReplicas = refl
setting_at-row_of MaxQueueSize = refl
setting_at-row_of MaxDatapointsPerMessage = refl
setting_at-row_of UseFlowControl = refl
setting_at-row_of DestinationProtocol = refl
setting_at-row_of LineReceiverInterface = refl
setting_at-row_of LineReceiverPort = refl
setting_at-row_of PickleReceiverInterface = refl
setting_at-row_of PickleReceiverPort = refl
setting_at-row_of EnableUdpListener = refl
setting_at-row_of UdpReceiverInterface = refl
setting_at-row_of UdpReceiverPort = refl

row_of-within : (setting : Setting) → row_of setting < 15
row_of-within Destinations = omega arith
row_of-within RelayMethod = omega arith
row_of-within ReplicationFactor = omega arith
row_of-within DiverseReplicas = omega arith
row_of-within MaxQueueSize = omega arith
row_of-within MaxDatapointsPerMessage = omega arith
row_of-within UseFlowControl = omega arith
row_of-within DestinationProtocol = omega arith
row_of-within LineReceiverInterface = omega arith
row_of-within LineReceiverPort = omega arith
row_of-within PickleReceiverInterface = omega arith
row_of-within PickleReceiverPort = omega arith
row_of-within EnableUdpListener = omega arith
row_of-within UdpReceiverInterface = omega arith
row_of-within UdpReceiverPort = omega arith

abbrev GoodBefore : List SectionText → ℕ → Type 0
GoodBefore ini n = (setting : Setting) → row_of setting < n → IsGood ini setting

good_more : (ini : List SectionText) (n : ℕ) (setting : Setting) → row_of setting ≡ n → IsGood ini setting → GoodBefore ini n → GoodBefore ini (n + 1)
good_more ini n setting at good before = λ other less. elim (cases_lt (row_of other) n) [
  | inl lower ↦ before other lower
  | inr here ↦
      let row : row_of setting ≡ row_of other = omega arith in
      subst (IsGood ini) (sym (setting_at-row_of setting) ∙ ap setting_at row ∙ setting_at-row_of other) good
]

-- ---- one row after the other

-- a reading of the settings before row n: they are good, or there is a first fault
abbrev Says : {V : Type 0} → List SectionText → ℕ → Result V SettingFault → Type 0
Says ini n (Ok value) = GoodBefore ini n
Says ini n (Err f) = IsFirstFault ini f

says-next : {V W : Type 0} (ini : List SectionText) (n : ℕ) (r : Result V SettingFault) (next : V → Result W SettingFault)
    → ((f : SettingFault) → r ≡ Err f → IsFirstFault ini f) → ((value : V) → r ≡ Ok value → Says ini n (next value)) → Says ini n (r >>= next)
says-next ini n (Ok value) next fails then = then value refl
says-next ini n (Err f) next fails then = fails f refl

-- a row of its own
says-row : {V W : Type 0} (ini : List SectionText) (n row : ℕ) (setting : Setting) (r : Result V SettingFault) (next : V → Result W SettingFault)
    → row_of setting ≡ row → verdict_on ini setting ≡ verdict r → Names setting r → GoodBefore ini row
    → ((value : V) → r ≡ Ok value → GoodBefore ini (row + 1) → Says ini n (next value)) → Says ini n (r >>= next)
says-row ini n row setting r next at own named before then =
    says-next ini n r next
    (λ f e. record { setting = setting; names_it = named f e; is_its_own = own ∙ ap verdict e; good_before = subst (GoodBefore ini) (sym at) before })
    (λ value e. then value e (good_more ini row setting at (own ∙ ap verdict e) before))

-- a check that follows readings, as the last part of its row
says-check : {W : Type 0} (ini : List SectionText) (n row : ℕ) (setting : Setting) (r : Result (Unit {0}) SettingFault) (next : Unit {0} → Result W SettingFault)
    → row_of setting ≡ row → verdict_on ini setting ≡ r → Names setting r → GoodBefore ini row
    → (GoodBefore ini (row + 1) → Says ini n (next tt)) → Says ini n (r >>= next)
says-check ini n row setting r next at own named before then =
    says-next ini n r next
    (λ f e. record { setting = setting; names_it = named f e; is_its_own = own ∙ e; good_before = subst (GoodBefore ini) (sym at) before })
    (λ value e. then (good_more ini row setting at (own ∙ e) before))

none_before : (ini : List SectionText) → GoodBefore ini 0
none_before ini setting less = absurd (omega arith)

-- a second reading of a row whose parts before are good
says-part : {V W : Type 0} (ini : List SectionText) (n : ℕ) (setting : Setting) (r : Result V SettingFault) (next : V → Result W SettingFault)
    → ((f : SettingFault) → r ≡ Err f → verdict_on ini setting ≡ Err f) → Names setting r → GoodBefore ini (row_of setting)
    → ((value : V) → r ≡ Ok value → Says ini n (next value)) → Says ini n (r >>= next)
says-part ini n setting r next own named before then =
    says-next ini n r next (λ f e. record { setting = setting; names_it = named f e; is_its_own = own f e; good_before = before }) then

says-routing : (ini : List SectionText) → Says ini 4 (routing_of ini)
unfolding routing_of
says-routing ini =
    let dests_read = required_value ini Destinations destination_list in
    let method_read = value_or_default ini RelayMethod (codes "rules") method_name in
    let factor_read = value_or_default ini ReplicationFactor (codes "1") (number_in 1 64) in
    let diverse_read = value_or_default ini DiverseReplicas (codes "false") truth_word in
    says-row ini 4 0 Destinations dests_read _ refl refl (names-required ini Destinations destination_list names-destinations) (none_before ini) (λ dests dests_ok good1.
    says-part ini 4 RelayMethod method_read _
    (λ f e. ap (λ r. r >>= λ ds. method_read >>= λ m. check_distinct m ds RelayMethod) dests_ok ∙ ap (λ r. r >>= λ m. check_distinct m dests RelayMethod) e)
    (names-default ini RelayMethod (codes "rules") method_name names-method) good1 (λ method method_ok.
    says-check ini 4 1 RelayMethod (check_distinct method dests RelayMethod) _ refl
    (ap (λ r. r >>= λ ds. method_read >>= λ m. check_distinct m ds RelayMethod) dests_ok ∙ ap (λ r. r >>= λ m. check_distinct m dests RelayMethod) method_ok)
    (names-distinct method dests RelayMethod) good1 (λ good2.
    says-row ini 4 2 ReplicationFactor factor_read _ refl refl (names-default ini ReplicationFactor (codes "1") (number_in 1 64) (names-number 1 64)) good2 (λ factor factor_ok good3.
    says-row ini 4 3 DiverseReplicas diverse_read _ refl refl (names-default ini DiverseReplicas (codes "false") truth_word names-truth) good3 (λ _ _ good4. good4)))))

says-sending : (ini : List SectionText) → GoodBefore ini 4 → Says ini 8 (sending_of ini)
unfolding sending_of
says-sending ini good4 =
    says-row ini 8 4 MaxQueueSize (value_or_default ini MaxQueueSize (codes "10000") (number_in 1 1000000)) _ refl refl (names-default ini MaxQueueSize (codes "10000") (number_in 1 1000000) (names-number 1 1000000)) good4 (λ _ _ good5.
    says-row ini 8 5 MaxDatapointsPerMessage (value_or_default ini MaxDatapointsPerMessage (codes "500") (number_in 1 10000)) _ refl refl (names-default ini MaxDatapointsPerMessage (codes "500") (number_in 1 10000) (names-number 1 10000)) good5 (λ _ _ good6.
    says-row ini 8 6 UseFlowControl (required_value ini UseFlowControl flow_control) _ refl refl (names-required ini UseFlowControl flow_control names-flow) good6 (λ _ _ good7.
    says-row ini 8 7 DestinationProtocol (required_value ini DestinationProtocol protocol_name) _ refl refl (names-required ini DestinationProtocol protocol_name names-protocol) good7 (λ _ _ good8. good8))))

says-receiving : (ini : List SectionText) → GoodBefore ini 8 → Says ini 15 (receiving_of ini)
unfolding receiving_of
says-receiving ini good8 =
    let good9 = good_more ini 8 LineReceiverInterface refl refl good8 in
    says-row ini 15 9 LineReceiverPort (value_or_default ini LineReceiverPort (codes "2013") (number_in 0 65535)) _ refl refl (names-default ini LineReceiverPort (codes "2013") (number_in 0 65535) (names-number 0 65535)) good9 (λ _ _ good10.
    let good11 = good_more ini 10 PickleReceiverInterface refl refl good10 in
    says-row ini 15 11 PickleReceiverPort (value_or_default ini PickleReceiverPort (codes "2014") (number_in 0 65535)) _ refl refl (names-default ini PickleReceiverPort (codes "2014") (number_in 0 65535) (names-number 0 65535)) good11 (λ _ _ good12.
    says-row ini 15 12 EnableUdpListener (value_or_default ini EnableUdpListener (codes "false") truth_word) _ refl refl (names-default ini EnableUdpListener (codes "false") truth_word names-truth) good12 (λ _ _ good13.
    let good14 = good_more ini 13 UdpReceiverInterface refl refl good13 in
    says-row ini 15 14 UdpReceiverPort (value_or_default ini UdpReceiverPort (codes "2013") (number_in 0 65535)) _ refl refl (names-default ini UdpReceiverPort (codes "2013") (number_in 0 65535) (names-number 0 65535)) good14 (λ _ _ good15. good15))))

-- a part that was read whole
good_from : {V : Type 0} (ini : List SectionText) (n : ℕ) (r : Result V SettingFault) (value : V) → Says ini n r → r ≡ Ok value → GoodBefore ini n
good_from ini n (Ok v) value says e = says
good_from ini n (Err f) value says e = absurd cc

first_from : {V : Type 0} (ini : List SectionText) (n : ℕ) (r : Result V SettingFault) (f : SettingFault) → Says ini n r → r ≡ Err f → IsFirstFault ini f
first_from ini n (Ok v) f says e = absurd cc
first_from ini n (Err g) f says e = let same : g ≡ f = cc in subst (IsFirstFault ini) same says

says-settings : (ini : List SectionText) → Says ini 15 (settings_of ini)
unfolding settings_of
says-settings ini =
    says-next ini 15 (routing_of ini) _ (λ f e. first_from ini 4 (routing_of ini) f (says-routing ini) e) (λ routing routing_ok.
    let good4 = good_from ini 4 (routing_of ini) routing (says-routing ini) routing_ok in
    says-next ini 15 (sending_of ini) _ (λ f e. first_from ini 8 (sending_of ini) f (says-sending ini good4) e) (λ sending sending_ok.
    let good8 = good_from ini 8 (sending_of ini) sending (says-sending ini good4) sending_ok in
    says-next ini 15 (receiving_of ini) _ (λ f e. first_from ini 15 (receiving_of ini) f (says-receiving ini good8) e) (λ receiving receiving_ok.
    good_from ini 15 (receiving_of ini) receiving (says-receiving ini good8) receiving_ok)))

pub fault_is_first : FaultIsFirst
fault_is_first ini f e = first_from ini 15 (settings_of ini) f (says-settings ini) e

pub settings_are_good : SettingsAreGood
settings_are_good ini settings e setting = good_from ini 15 (settings_of ini) settings (says-settings ini) e setting (row_of-within setting)
