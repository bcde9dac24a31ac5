-- Options that take a number, and flags.
use Rattle.std.specs.Prelude.{◌≡◌, ℕ, Bool, true, false, List, Option, None, Some, codes}
use Rattle.ptdump.specs.declared.numbers.NumberOption.{NumberOption}
use Rattle.ptdump.specs.declared.numbers.NumberOption.TheVariants.{Cr3, Levels, Base, Cpu, From, To, PhysicalBits, VmCoreInfo}
use Rattle.ptdump.specs.Numbers.{IsNumeral, number_of}

-- The name of an option that takes a number, without its dashes.
abbrev pub option_name : NumberOption → List ℕ
option_name Cr3 = codes "cr3"
option_name Levels = codes "levels"
option_name Base = codes "base"
option_name Cpu = codes "cpu"
option_name From = codes "from"
option_name To = codes "to"
option_name PhysicalBits = codes "maxphyaddr"
option_name VmCoreInfo = codes "vmcoreinfo"

-- The number of an option is that of its text, or None if the text is missing.
abbrev pub IsOption : (text : Option (List ℕ)) → Option ℕ → Type 0
IsOption None number = number ≡ None
IsOption (Some text) number = IsNumeral text × (number ≡ Some (number_of text))

-- The flag is true if its text is "true", as that of a flag on the command line is. It is false if its text is "false" or is
-- missing.
abbrev pub IsFlag : (text : Option (List ℕ)) → Bool → Type 0
IsFlag None flag = flag ≡ false
IsFlag (Some text) flag = (text ≡ codes "true" → flag ≡ true) × (text ≡ codes "false" → flag ≡ false)
