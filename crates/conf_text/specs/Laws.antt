-- Laws above the definitions.
use Rattle.std.specs.Prelude.{◌≡◌, ℕ, List, map, Some, Ok, Err}
use Rattle.std.specs.List.{AllByRecursion, IsDistinct}
use Rattle.std.specs.Str.{bytes_eq}
use Rattle.conf_text.specs.Sections.{SectionText}
use Rattle.conf_text.specs.IniText.{ini_of}
use Rattle.conf_text.specs.Destination.{Destination, IsDestination, destination_of, destination_text}
use Rattle.conf_text.specs.declared.setting.SettingFault.{SettingFault}
use Rattle.conf_text.specs.declared.setting.Setting.{Setting}
use Rattle.conf_text.specs.SettingsTable.{SettingValues, settings_of}
use Rattle.conf_text.specs.SettingsOrder.{IsFirstFault, IsGood}

-- what a destination prints is read as that destination
abbrev pub PrintedIsRead : Type 0
PrintedIsRead = (d : Destination) → IsDestination d → destination_of (destination_text d) ≡ Some d

-- no two sections have one name, and no two pairs of a section one key
pub record HasDistinctNames (sections : List SectionText) : Type 0 where
  pub names : IsDistinct bytes_eq (map (λ s. s.name) sections)
  pub keys : AllByRecursion (λ s. IsDistinct bytes_eq (map (λ p. p.key) s.pairs)) sections

-- any text that is read as a configuration file has distinct names
abbrev pub NamesAreDistinct : Type 0
NamesAreDistinct =
    (text : List ℕ) (sections : List SectionText)
    → ini_of text ≡ Ok sections → HasDistinctNames sections

-- a fault of the settings is that of the first row that has one
abbrev pub FaultIsFirst : Type 0
FaultIsFirst =
    (ini : List SectionText) (fault : SettingFault) → settings_of ini ≡ Err fault
    → IsFirstFault ini fault

-- if settings are read, each is good
abbrev pub SettingsAreGood : Type 0
SettingsAreGood =
    (ini : List SectionText) (settings : SettingValues) → settings_of ini ≡ Ok settings
    → (setting : Setting) → IsGood ini setting
