-- FindingTexts: the texts of regions with flaws, of entries, of findings, and of addresses with rights.
use Rattle.std.specs.Prelude.{ℕ, List, ◌++◌, codes, decimal}
use Rattle.text.specs.Numbers.{hexadecimal}
use Rattle.x86_64_mappings.specs.Texts.{region_text}
use Rattle.x86_64_model.specs.Mappings.{Rights}
use Rattle.x86_64_model.specs.Regions.{Region}
use Rattle.ptdump_check.specs.declared.findings.entry.Slot.{Slot}
use Rattle.ptdump_check.specs.declared.findings.entry.Entry.{Entry}
use Rattle.ptdump_check.specs.declared.findings.finding.Finding.{Finding}
use Rattle.ptdump_check.specs.declared.findings.finding.Finding.TheVariants.{NamedOften, NotInDump, HugePage, ReservedBits, WritableForUser, MappedForUser, WritableOutside}
use Rattle.ptdump_check.specs.declared.findings.flaw.Flaw.{Flaw}
use Rattle.ptdump_check.specs.declared.findings.flaw.Flaw.TheVariants.{WritableAndExecutable, UserInUpperHalf}
use Rattle.ptdump_check.specs.declared.findings.aliased.Aliased.{Aliased}
use Rattle.ptdump_check.specs.declared.rights_at.RightsAt.{RightsAt}
use Rattle.x86_64_tables.specs.Rights.{rights_text}

-- The text of what is wrong with a region.
abbrev pub flaw_text : Flaw → List ℕ
flaw_text WritableAndExecutable = codes "writable and executable"
flaw_text UserInUpperHalf = codes "user reaches upper half"

-- The text of a region with a flaw, behind that of the flaw.
abbrev pub flawed_text : (L : ℕ) → Flaw → Region → List ℕ
flawed_text L flaw r = flaw_text flaw ++ codes " " ++ region_text L r

-- The text 0xTABLE[INDEX] of a slot.
abbrev pub slot_text : Slot → List ℕ
slot_text slot = hexadecimal slot.table ++ codes "[" ++ decimal slot.index ++ codes "]"

-- The text 0xTABLE[INDEX] = 0xWORD of an entry.
abbrev pub entry_text : Entry → List ℕ
entry_text entry = slot_text entry.slot ++ codes " = " ++ hexadecimal entry.word

-- The text of the virtual address at which a table is mapped.
abbrev pub at_text : (at : ℕ) → List ℕ
at_text at = codes " at " ++ hexadecimal at

-- The text of the virtual address at which a table is mapped for user code.
abbrev pub for_user_text : (at : ℕ) → List ℕ
for_user_text at = codes " for user at " ++ hexadecimal at

-- The line of a finding in tables, without its line feed.
abbrev pub finding_text : Finding → List ℕ
finding_text (NamedOften frame count) =
    codes "table " ++ hexadecimal frame ++ codes " named " ++ decimal count ++ codes " times"
finding_text (NotInDump frame by) =
    codes "table " ++ hexadecimal frame ++ codes " not in the dump" ++ (codes ", named by " ++ slot_text by)
finding_text (HugePage slot level) =
    codes "HUGE_PAGE at level " ++ decimal level ++ codes " in " ++ slot_text slot
finding_text (ReservedBits entry) =
    codes "reserved bits at level " ++ decimal entry.level ++ codes " in " ++ entry_text entry
finding_text (WritableForUser frame at) =
    codes "table " ++ hexadecimal frame ++ codes " is mapped writable" ++ for_user_text at
finding_text (MappedForUser frame at) =
    codes "table " ++ hexadecimal frame ++ codes " is mapped" ++ for_user_text at
finding_text (WritableOutside frame at) =
    codes "table " ++ hexadecimal frame ++ codes " is mapped writable" ++ at_text at

-- The text of the number of findings.
abbrev pub count_text : (findings : ℕ) → List ℕ
count_text findings = codes "findings: " ++ decimal findings

-- The text "0xADDRESS RIGHTS" of an address and the rights there.
abbrev pub rights_at_text : (address : ℕ) → Rights → List ℕ
rights_at_text address rights = hexadecimal address ++ codes " " ++ rights_text rights

-- The text of rights, and of the virtual address at which they are allowed.
abbrev pub rights_there_text : RightsAt → List ℕ
rights_there_text there = rights_text there.rights ++ codes " at " ++ hexadecimal there.address

-- The text of a frame that is mapped with different rights at two virtual addresses.
abbrev pub aliased_text : Aliased → List ℕ
aliased_text a =
    codes "frame " ++ hexadecimal a.frame ++ codes " is mapped " ++ rights_there_text a.at ++ codes ", and " ++ rights_there_text a.other
