-- How the text of each setting is read.
use Rattle.std.specs.Prelude.{ℕ, Bool, true, false, ◌&&◌, ◌||◌, ◌==◌, List, [], ◌∷◌, length, Option, Some, None, Result, Ok, Err, codes, nat_le, unwrap_or, ok_or, if◌then◌else◌}
use Rattle.std.specs.List.{list_any}
use Rattle.std.specs.Str.{bytes_eq}
use Rattle.conf_text.specs.declared.setting.Setting.{Setting}
use Rattle.conf_text.specs.declared.setting.SettingFault.{SettingFault}
use Rattle.conf_text.specs.declared.setting.SettingFault.TheVariants as fault
use Rattle.conf_text.specs.declared.method.RelayMethod.{RelayMethod}
use Rattle.conf_text.specs.declared.method.RelayMethod.TheVariants.{Rules, ConsistentHashing}
use Rattle.conf_text.specs.declared.protocol.DestinationProtocol.{DestinationProtocol}
use Rattle.conf_text.specs.declared.protocol.DestinationProtocol.TheVariants.{Line}
use Rattle.conf_text.specs.Sections.{SectionText, value_in}
use Rattle.conf_text.specs.SettingNames.{setting_name}
use Rattle.relay_base.specs.WholeNumber.{short_whole_number}
use Rattle.conf_text.specs.TruthWord.{truth_of}
use Rattle.conf_text.specs.Destination.{Destination, destinations_of}
use Rattle.conf_text.specs.SameDestination.{same_node, same_destination}

infixl 10 ◌>>=◌
abbrev pub ◌>>=◌ : {A B : Type 0}
    → Result A SettingFault → (A → Result B SettingFault) → Result B SettingFault
(Ok x) >>= f = f x
(Err e) >>= f = Err e

-- a rule reads a setting's text, or says what is wrong with that setting
abbrev pub Rule : Type 0 → Type 0
Rule V = Setting → List ℕ → Result V SettingFault

-- the text of a setting in `[relay]`
abbrev pub setting_text : List SectionText → Setting → Option (List ℕ)
setting_text ini setting = value_in (codes "relay") (setting_name setting) ini

-- a setting that may be omitted: then the default is read in its place
abbrev pub value_or_default : {V : Type 0}
    → List SectionText → Setting → List ℕ → Rule V → Result V SettingFault
value_or_default ini setting default rule =
    rule setting (unwrap_or (setting_text ini setting) default)

-- a setting that must be given
abbrev pub required_value : {V : Type 0}
    → List SectionText → Setting → Rule V → Result V SettingFault
required_value ini setting rule =
    ok_or (setting_text ini setting) (fault.Missing setting) >>= rule setting

-- any text
abbrev pub any_text : Rule (List ℕ)
any_text setting text = Ok text

-- one to ten digits, within the range
abbrev pub number_within : ℕ → ℕ → Setting → Option ℕ → Result ℕ SettingFault
number_within low high setting None = Err (fault.BadNumber setting)
number_within low high setting (Some n) =
    if nat_le low n && nat_le n high then Ok n else Err (fault.BadNumber setting)

abbrev pub number_in : ℕ → ℕ → Rule ℕ
number_in low high setting text =
    number_within low high setting (short_whole_number 10 text)

-- a truth word
abbrev pub truth_word : Rule Bool
truth_word setting text = ok_or (truth_of text) (fault.BadTruth setting)

-- `rules` or `consistent-hashing`
abbrev pub method_name : Rule RelayMethod
method_name setting text =
    if bytes_eq text (codes "rules") then Ok Rules
    else (if bytes_eq text (codes "consistent-hashing") then Ok ConsistentHashing
    else Err (fault.Method setting))

-- a truth word, which must say no
abbrev pub flow_control : Rule Bool
flow_control setting text =
    truth_word setting text >>= λ on. if on then Err (fault.FlowControl setting) else Ok false

-- `line`
abbrev pub protocol_name : Rule DestinationProtocol
protocol_name setting text =
    if bytes_eq text (codes "line") then Ok Line else Err (fault.Protocol setting)

-- destinations, at most 64
abbrev pub limited_list : Setting → List Destination → Result (List Destination) SettingFault
limited_list setting dests =
    if nat_le (length dests) 64 then Ok dests else Err (fault.TooMany setting)

-- destinations, at least one
abbrev pub destination_list : Rule (List Destination)
destination_list setting text =
    if length text == 0 then Err (fault.Missing setting)
    else (ok_or (destinations_of text) (fault.BadDestination setting) >>= limited_list setting)

-- whether an element is the same as one after it
abbrev pub has_repeat : {A : Type 0} → (A → A → Bool) → List A → Bool
has_repeat same [] = false
has_repeat same (x ∷ xs) = list_any (same x) xs || has_repeat same xs

-- with `rules`, destinations are the same if they are equal; with `consistent-hashing`, if they are
-- one node
abbrev pub same_by : RelayMethod → Destination → Destination → Bool
same_by Rules = same_destination
same_by ConsistentHashing = same_node

-- no two destinations are the same
abbrev pub check_distinct :
    RelayMethod → List Destination → Setting → Result (Unit {0}) SettingFault
check_distinct method dests setting =
    if has_repeat (same_by method) dests
    then Err (fault.DuplicateDestination setting)
    else Ok tt
