-- FindingObjects: findings as JSON objects, whose member "finding" says what is found.
use Rattle.std.specs.Prelude.{ℕ, List, codes}
use Rattle.serde_json.specs.Data.{Data, boolean, string, object, put, member, no_members}
use Rattle.x86_64_model.specs.Regions.{Region}
use Rattle.ptdump_check.specs.FindingTexts.{flaw_text}
use Rattle.ptdump_check.specs.declared.findings.entry.Slot.{Slot}
use Rattle.ptdump_check.specs.declared.findings.finding.Finding.{Finding}
use Rattle.ptdump_check.specs.declared.findings.finding.Finding.TheVariants.{NamedOften, NotInDump, HugePage, ReservedBits, WritableForUser, MappedForUser, WritableOutside}
use Rattle.ptdump_check.specs.declared.findings.flaw.Flaw.{Flaw}
use Rattle.ptdump_check.specs.declared.findings.aliased.Aliased.{Aliased}
use Rattle.ptdump_json.specs.Json.{json_count, hexadecimal_string, region_members}

-- The object of a region with a flaw: the members of the region, and the flaw.
abbrev pub json_of_flawed : (L : ℕ) → Flaw → Region → Data
json_of_flawed L flaw r = object (put (codes "finding") (string (flaw_text flaw)) (region_members L r))

-- The object of a slot: the frame of its table, and its index there.
abbrev pub json_of_slot : Slot → Data
json_of_slot slot = object (
    member (codes "index") (json_count slot.index)
    (member (codes "table") (hexadecimal_string slot.table) no_members))

-- The object of a finding with this name: the table in a frame is mapped at a virtual address.
abbrev pub json_of_mapped : (name : List ℕ) → (frame at : ℕ) → Data
json_of_mapped name frame at = object (
    member (codes "at") (hexadecimal_string at)
    (member (codes "finding") (string name)
    (member (codes "table") (hexadecimal_string frame) no_members)))

-- The object of a finding in tables.
abbrev pub json_of_finding : Finding → Data
json_of_finding (NamedOften frame times) = object (
    member (codes "finding") (string (codes "table named often"))
    (member (codes "table") (hexadecimal_string frame)
    (member (codes "times") (json_count times) no_members)))
json_of_finding (NotInDump frame by) = object (
    member (codes "finding") (string (codes "table not in the dump"))
    (member (codes "named_by") (json_of_slot by)
    (member (codes "table") (hexadecimal_string frame) no_members)))
json_of_finding (HugePage slot level) = object (
    member (codes "finding") (string (codes "HUGE_PAGE above level three"))
    (member (codes "index") (json_count slot.index)
    (member (codes "level") (json_count level)
    (member (codes "table") (hexadecimal_string slot.table) no_members))))
json_of_finding (ReservedBits entry) = object (
    member (codes "finding") (string (codes "reserved bits"))
    (member (codes "index") (json_count entry.slot.index)
    (member (codes "level") (json_count entry.level)
    (member (codes "table") (hexadecimal_string entry.slot.table)
    (member (codes "word") (hexadecimal_string entry.word) no_members)))))
json_of_finding (WritableForUser frame at) = json_of_mapped (codes "table mapped writable for user") frame at
json_of_finding (MappedForUser frame at) = json_of_mapped (codes "table mapped for user") frame at
json_of_finding (WritableOutside frame at) = json_of_mapped (codes "table mapped writable outside the direct map") frame at

-- The object of the number of findings.
abbrev pub json_of_count : (findings : ℕ) → Data
json_of_count findings = object (member (codes "findings") (json_count findings) no_members)

-- The object of a frame that is mapped with different rights: both virtual addresses, and the rights at each.
abbrev pub json_of_aliased : Aliased → Data
json_of_aliased a = object (
    member (codes "at") (hexadecimal_string a.at.address)
    (member (codes "execute") (boolean a.at.rights.execute)
    (member (codes "finding") (string (codes "frame mapped with different rights"))
    (member (codes "frame") (hexadecimal_string a.frame)
    (member (codes "other_at") (hexadecimal_string a.other.address)
    (member (codes "other_execute") (boolean a.other.rights.execute)
    (member (codes "other_user") (boolean a.other.rights.user)
    (member (codes "other_write") (boolean a.other.rights.write)
    (member (codes "user") (boolean a.at.rights.user)
    (member (codes "write") (boolean a.at.rights.write) no_members))))))))))
