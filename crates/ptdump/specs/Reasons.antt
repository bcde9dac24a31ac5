-- Reasons: what is true of the words of a command line that aren't read.
use Rattle.std.specs.Prelude.{◌≡◌, ◌≤◌, ℕ, true, false, List, [], ◌∷◌, Option, None, Some, codes}
use Rattle.clap.specs.Matches.{first_value}
use Rattle.clap.specs.declared.parser.matches.Found.{Found}
use Rattle.ptdump_check.specs.declared.checking.AddressRange.{AddressRange}
use Rattle.ptdump_json.specs.Accesses.{access_name}
use Rattle.ptdump_engine.specs.declared.failure.Failure.TheVariants.{OutOfMemory}
use Rattle.ptdump.specs.Asked.{is_listed, setting_names}
use Rattle.ptdump.specs.DirectMaps.{IsAddressRange}
use Rattle.ptdump.specs.Options.{option_name}
use Rattle.ptdump.specs.Placements.{IsRawRange}
use Rattle.ptdump.specs.Requests.{values}
use Rattle.ptdump.specs.Selections.{are_letters}
use Rattle.ptdump.specs.declared.numbers.NumberOption.TheVariants.{Base}
use Rattle.ptdump.specs.declared.stop.Stop.{Stop}
use Rattle.ptdump.specs.declared.stop.Stop.TheVariants.{NoCommand, NoAddress, NoNumber, NoLevels, NoRange, BaseAndRanges, NoAccess, NoSetting, NoPhysicalBits, NoDirectMap, NoRights, Failed}
use Rattle.x86_64_access.specs.declared.request.Access.{Access}
use Rattle.x86_64_dump.specs.declared.placement.RawRange.{RawRange}
use Rattle.ptdump.specs.Numbers.{IsNumeral, number_of}

-- The names of all commands.
abbrev pub command_names : List (List ℕ)
command_names =
    codes "regions" ∷ codes "pages" ∷ codes "walk" ∷ codes "find" ∷ codes "check" ∷ codes "image" ∷ codes "picture" ∷ codes "info" ∷ []

-- The option is present, and its text is this number.
abbrev pub HasNumber : Found → (option : List ℕ) → (number : ℕ) → Type 0
HasNumber found option number = (text : List ℕ) × (first_value found option ≡ Some text) × IsNumeral text × (number_of text ≡ number)

-- The text is one of these texts, and is no number.
abbrev pub IsBadNumber : (texts : List (List ℕ)) → (text : List ℕ) → Type 0
IsBadNumber texts text = (is_listed texts text ≡ true) × ¬ (IsNumeral text)

-- The text is one of these texts, and is no range.
abbrev pub IsBadRange : (texts : List (List ℕ)) → (text : List ℕ) → Type 0
IsBadRange texts text = (is_listed texts text ≡ true) × ((range : RawRange) → ¬ (IsRawRange text range))

-- The word is one of these words, and is neither the name of a setting nor `none`.
abbrev pub IsBadSetting : (words : List (List ℕ)) → (word : List ℕ) → Type 0
IsBadSetting words word = (is_listed words word ≡ true) × (is_listed setting_names word ≡ false)

-- The reason to stop is a mistake in the arguments of a command, which have this mistake. Reasons from elsewhere are no mistakes.
abbrev pub IsMistake : Found → Stop → Type 0
IsMistake found (NoAddress text) = IsBadNumber (values found (codes "addresses")) text.now
IsMistake found (NoNumber option text) = (first_value found (option_name option) ≡ Some text.now) × ¬ (IsNumeral text.now)
IsMistake found (NoLevels number) = HasNumber found (codes "levels") number × ¬ (number ≡ 4) × ¬ (number ≡ 5)
IsMistake found (NoRange text) = IsBadRange (values found (codes "range")) text.now
IsMistake found BaseAndRanges = ¬ (first_value found (codes "base") ≡ None) × ¬ (values found (codes "range") ≡ [])
IsMistake found (NoAccess text) = (first_value found (codes "as") ≡ Some text.now) × ((access : Access) → ¬ (text.now ≡ access_name access))
IsMistake found (NoSetting word) = IsBadSetting (values found (codes "controls")) word.now
IsMistake found (NoPhysicalBits bits) = HasNumber found (codes "maxphyaddr") bits × ¬ ((32 ≤ bits) × (bits ≤ 52))
IsMistake found (NoDirectMap text) = (first_value found (codes "direct-map") ≡ Some text.now) × ((range : AddressRange) → ¬ (IsAddressRange text.now range))
IsMistake found (NoRights text) = (first_value found (codes "rights") ≡ Some text.now) × (are_letters text.now ≡ false)
IsMistake found stop = ⊥

-- The reason to stop is a mistake in the arguments of a command, or memory allocation failed.
abbrev pub IsStopReason : Found → Stop → Type 0
IsStopReason found (Failed failure) = failure ≡ OutOfMemory
IsStopReason found stop = IsMistake found stop

-- The reason to stop is a mistake in the name or in the arguments of a command, or memory allocation failed.
abbrev pub IsReasonFor : (name : List ℕ) → Found → Stop → Type 0
IsReasonFor name found (NoCommand word) = (word.now ≡ name) × (is_listed command_names name ≡ false)
IsReasonFor name found stop = IsStopReason found stop

-- The reason to stop is that one of the texts is no number, or that memory allocation failed.
abbrev pub IsNoAddress : (texts : List (List ℕ)) → Stop → Type 0
IsNoAddress texts (NoAddress text) = IsBadNumber texts text.now
IsNoAddress texts (Failed failure) = failure ≡ OutOfMemory
IsNoAddress texts stop = ⊥

-- The reason to stop is that one of the words is neither the name of a setting nor `none`.
abbrev pub IsNoSetting : (words : List (List ℕ)) → Stop → Type 0
IsNoSetting words (NoSetting word) = IsBadSetting words word.now
IsNoSetting words stop = ⊥

-- The reason to stop is that one of the texts is no range, or that memory allocation failed.
abbrev pub IsNoRange : (texts : List (List ℕ)) → Stop → Type 0
IsNoRange texts (NoRange text) = IsBadRange texts text.now
IsNoRange texts (Failed failure) = failure ≡ OutOfMemory
IsNoRange texts stop = ⊥

-- The reason to stop is that the base is no number, one of the ranges is none, both are there, or memory allocation failed.
abbrev pub IsNoPlacement : (base : Option (List ℕ)) → (ranges : List (List ℕ)) → Stop → Type 0
IsNoPlacement base ranges (NoNumber option text) = (option ≡ Base) × (base ≡ Some text.now) × ¬ (IsNumeral text.now)
IsNoPlacement base ranges (NoRange text) = IsBadRange ranges text.now
IsNoPlacement base ranges BaseAndRanges = ¬ (base ≡ None) × ¬ (ranges ≡ [])
IsNoPlacement base ranges (Failed failure) = failure ≡ OutOfMemory
IsNoPlacement base ranges stop = ⊥
