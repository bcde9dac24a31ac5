-- JSON: what reports say of regions, mappings, walks and searches as JSON objects. Addresses and words are strings in
-- hexadecimal, and members stand in the order of their names.
use Rattle.std.specs.Prelude.{ℕ, ◌+◌, ◌-◌, List, Option, None, Some, codes, map}
use Rattle.serde_json.specs.Data.{Data, boolean, number, string, array, object, unsigned, Members, member, no_members}
use Rattle.serde_json.specs.View.{items_of}
use Rattle.serde_json.specs.Written.{compact_text}
use Rattle.linux_areas.specs.declared.area.Area.{Area}
use Rattle.x86_64_access.specs.declared.controls.Controls.{Controls}
use Rattle.x86_64_access.specs.declared.request.Access.{Access}
use Rattle.text.specs.Numbers.{hexadecimal}
use Rattle.x86_64_model.specs.Access.{Outcome, Arrives, Faults, NoMemory}
use Rattle.x86_64_model.specs.Mappings.{Mapping, Rights}
use Rattle.x86_64_model.specs.Position.{raw}
use Rattle.x86_64_model.specs.Regions.{Region}
use Rattle.x86_64_model.specs.Memory.{Words}
use Rattle.ptdump_json.specs.Accesses.{access_name, outcome_in, source_name}
use Rattle.ptdump_json.specs.ListedAreas.{with_area}
use Rattle.ptdump_json.specs.Walks.{End, arrives_at, not_present, no_table, huge_page, Walk, line, walk_rights}
use Rattle.ptdump_json.specs.declared.options.ControlsSource.{ControlsSource}
use Rattle.ptdump_json.specs.declared.word_read.WordRead.{WordRead}

-- The line of a JSON value: its compact text, which has no spaces between tokens, and a line feed.
abbrev pub json_line : Data → List ℕ
json_line value = line (compact_text value)

-- The JSON string of an address or a word: `0x` and its digits in base 16, in lower case.
abbrev pub hexadecimal_string : ℕ → Data
hexadecimal_string n = string (hexadecimal n)

-- The JSON number of a count, an index or a size, in decimal digits.
abbrev pub json_count : ℕ → Data
json_count n = number (unsigned n)

-- ---- lists

-- The members of a region's JSON object, with L levels of tables: its size in bytes, its first and its last address, and its
-- rights.
abbrev pub region_members : (L : ℕ) → Region → Members
region_members L r =
    member (codes "bytes") (json_count (r.last + 1 - r.first))
    (member (codes "execute") (boolean r.rights.execute)
    (member (codes "first") (hexadecimal_string (raw L r.first))
    (member (codes "last") (hexadecimal_string (raw L r.last))
    (member (codes "user") (boolean r.rights.user)
    (member (codes "write") (boolean r.rights.write) no_members)))))

-- The JSON object of a region, with L levels of tables, and with the name of its area if that is known.
abbrev pub json_of_region : (L : ℕ) → Option Area → Region → Data
json_of_region L area r = object (with_area area (region_members L r))

-- The members of a mapping's JSON object, with L levels of tables: its size in bytes, its flags, the addresses where its frame and
-- it start, and its rights.
abbrev pub mapping_members : (L : ℕ) → Mapping → Members
mapping_members L m =
    member (codes "bytes") (json_count m.size)
    (member (codes "execute") (boolean m.rights.execute)
    (member (codes "flags") (hexadecimal_string m.flags)
    (member (codes "frame") (hexadecimal_string m.frame)
    (member (codes "start") (hexadecimal_string (raw L m.start))
    (member (codes "user") (boolean m.rights.user)
    (member (codes "write") (boolean m.rights.write) no_members))))))

-- The JSON object of a mapping, with L levels of tables, and with the name of its area if that is known.
abbrev pub json_of_mapping : (L : ℕ) → Option Area → Mapping → Data
json_of_mapping L area m = object (with_area area (mapping_members L m))

-- The JSON object of a virtual address that leads to a physical address: both addresses, and the rights there.
abbrev pub json_of_found : (physical address : ℕ) → Rights → Data
json_of_found physical address rights = object (
    member (codes "address") (hexadecimal_string address)
    (member (codes "execute") (boolean rights.execute)
    (member (codes "physical") (hexadecimal_string physical)
    (member (codes "user") (boolean rights.user)
    (member (codes "write") (boolean rights.write) no_members)))))

-- ---- walks

-- The JSON object of a word that a walk reads: its level, the address of its table, its index there, and the word itself.
abbrev pub json_of_word : WordRead → Data
json_of_word w = object (
    member (codes "index") (json_count w.index)
    (member (codes "level") (json_count w.level)
    (member (codes "table") (hexadecimal_string w.table)
    (member (codes "word") (hexadecimal_string w.word) no_members))))

-- The members of a walk's JSON object that say how it ends and which words it reads. For an arrival they have the physical address
-- and the rights there, for a missing table its address, and for HUGE_PAGE its level.
abbrev pub end_members : (words : Data) → Rights → End → Members
end_members words rights (arrives_at to size) =
    member (codes "end") (string (codes "arrives"))
    (member (codes "execute") (boolean rights.execute)
    (member (codes "physical") (hexadecimal_string to)
    (member (codes "user") (boolean rights.user)
    (member (codes "words") words
    (member (codes "write") (boolean rights.write) no_members)))))
end_members words rights not_present =
    member (codes "end") (string (codes "not present"))
    (member (codes "words") words no_members)
end_members words rights (no_table frame) =
    member (codes "end") (string (codes "missing table"))
    (member (codes "table") (hexadecimal_string frame)
    (member (codes "words") words no_members))
end_members words rights (huge_page level) =
    member (codes "end") (string (codes "huge page"))
    (member (codes "level") (json_count level)
    (member (codes "words") words no_members))

-- The JSON object of the controls that decide an access: whether each is on, and where they come from.
abbrev pub json_of_controls : Controls → ControlsSource → Data
json_of_controls c source = object (
    member (codes "ac") (boolean c.ac)
    (member (codes "nxe") (boolean c.no_execute)
    (member (codes "smap") (boolean c.smap)
    (member (codes "smep") (boolean c.smep)
    (member (codes "source") (string (source_name source))
    (member (codes "wp") (boolean c.write_protect) no_members))))))

-- The JSON object of an access: its name, what a processor does with it, and the controls that decide that.
abbrev pub json_of_access : Access → Controls → ControlsSource → Outcome → Data
json_of_access a c source (Arrives to) = object (
    member (codes "controls") (json_of_controls c source)
    (member (codes "end") (string (codes "arrives"))
    (member (codes "name") (string (access_name a))
    (member (codes "physical") (hexadecimal_string to) no_members))))
json_of_access a c source (Faults code level) = object (
    member (codes "code") (hexadecimal_string code)
    (member (codes "controls") (json_of_controls c source)
    (member (codes "end") (string (codes "fault"))
    (member (codes "level") (json_count level)
    (member (codes "name") (string (access_name a)) no_members)))))
json_of_access a c source (NoMemory frame) = object (
    member (codes "controls") (json_of_controls c source)
    (member (codes "end") (string (codes "missing table"))
    (member (codes "name") (string (access_name a))
    (member (codes "table") (hexadecimal_string frame) no_members))))

-- The JSON object of the access at position p that is asked for, or None if none is.
abbrev pub json_of_asked : Controls → ControlsSource → Option Access → (L : ℕ) → Words → (root p : ℕ)
    → Option Data
json_of_asked c source None L T root p = None
json_of_asked c source (Some a) L T root p = Some (json_of_access a c source (outcome_in L T root p c a))

-- The members, with a member `access` in front of them if there is an access.
abbrev pub with_access : Option Data → Members → Members
with_access None members = members
with_access (Some access) members = member (codes "access") access members

-- The JSON object of a walk to a virtual address: the address, the words that are read, how the walk ends, and the access there, if
-- there is one.
abbrev pub json_of_walk : (address : ℕ) → Walk → (access : Option Data) → Data
json_of_walk address walk access = object (with_access access
    (member (codes "address") (hexadecimal_string address)
    (end_members (array (items_of (map json_of_word walk.words))) (walk_rights walk) walk.end)))

-- ---- processors

-- The JSON object of a root: the numbers of the processors that have it, and its address.
abbrev pub json_of_group : (cpus : List ℕ) → (root : ℕ) → Data
json_of_group cpus root = object (
    member (codes "cpus") (array (items_of (map json_count cpus)))
    (member (codes "root") (hexadecimal_string root) no_members))
