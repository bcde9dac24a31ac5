-- Accesses: the line that says what a processor does with an access at an address.
use Rattle.std.specs.Prelude.{ℕ, ◌++◌, ◌==◌, Bool, true, false, not, min, bit_and, if◌then◌else◌, List, [], Option, None, Some, is_some, codes, decimal}
use Rattle.x86_64_access.specs.Accesses.{access_of, controls_of}
use Rattle.x86_64_access.specs.declared.controls.Controls.{Controls}
use Rattle.x86_64_access.specs.declared.request.Access.{Access}
use Rattle.x86_64_access.specs.declared.request.AccessKind.{AccessKind}
use Rattle.x86_64_access.specs.declared.request.AccessKind.TheVariants.{Read, Write, Fetch}
use Rattle.text.specs.Numbers.{hexadecimal}
use Rattle.x86_64_model.specs.Access.{Outcome, Arrives, Faults, NoMemory, access}
use Rattle.x86_64_model.specs.Memory.{Words}
use Rattle.x86_64_model.specs.PageWalk.{page_walk}
use Rattle.ptdump_json.specs.Walks.{line}
use Rattle.ptdump_json.specs.declared.options.ControlsSource.{ControlsSource}
use Rattle.ptdump_json.specs.declared.options.ControlsSource.TheVariants.{Given, Noted, Assumed}

-- What the processor does with the access at position p, by the words of the tables below a root, with L levels of tables.
abbrev pub outcome_in : (L : ℕ) → Words → (root p : ℕ) → Controls → Access → Outcome
outcome_in L T root p c a = access L (controls_of c) T root p (access_of a)

-- Whether an access arrives at a physical address.
abbrev pub is_arrived : Outcome → Bool
is_arrived (Arrives address) = true
is_arrived outcome = false

-- The controls, with at most 52 bits of physical addresses.
abbrev pub limited : Controls → Controls
limited c = record c { physical_bits = min c.physical_bits 52 }

-- ---- texts

-- The name of a kind of access.
abbrev pub kind_name : AccessKind → List ℕ
kind_name Read = codes "read"
kind_name Write = codes "write"
kind_name Fetch = codes "fetch"

-- The name of an access, such as user-read or supervisor-fetch.
abbrev pub access_name : Access → List ℕ
access_name a = (if a.user then codes "user-" else codes "supervisor-") ++ kind_name a.kind

-- The text if a code has a bit, or else nothing.
unfoldable pub bit_text : (code bit : ℕ) → (text : List ℕ) → List ℕ
bit_text code bit text = if not (bit_and code bit == 0) then text else []

-- The text of the error code of a page fault: its number, and the names of its bits.
unfoldable pub code_text : (code : ℕ) → List ℕ
code_text code =
    hexadecimal code ++ bit_text code 0x1 (codes ", present") ++ bit_text code 0x2 (codes ", write")
    ++ bit_text code 0x4 (codes ", user")
    ++ bit_text code 0x8 (codes ", reserved bit") ++ bit_text code 0x10 (codes ", fetch")

-- The text of what a processor does with an access: it arrives, faults, or needs a table that the dump lacks.
abbrev pub outcome_text : Outcome → List ℕ
outcome_text (Arrives address) = codes " arrives at " ++ hexadecimal address
outcome_text (Faults code level) =
    codes " faults at level " ++ decimal level ++ codes ", code " ++ code_text code
outcome_text (NoMemory frame) =
    codes " needs the table at " ++ hexadecimal frame ++ codes ", which the dump lacks"

-- ---- controls

-- The word for where the controls come from: the request, a processor's note, or assumptions.
abbrev pub source_name : ControlsSource → List ℕ
source_name Given = codes "given"
source_name Noted = codes "noted"
source_name Assumed = codes "assumed"

-- The name of a control, behind + if it is on, and behind - if it is off.
unfoldable pub control_text : (is_on : Bool) → (name : List ℕ) → List ℕ
control_text is_on name = (if is_on then codes " +" else codes " -") ++ name

-- The text between the controls of a processor's note and the others, which are assumed, or nothing if they come from elsewhere.
abbrev pub between_text : ControlsSource → List ℕ
between_text Noted = codes ", assumed:"
between_text source = []

-- The text of the controls that a processor's note may have: WP, SMEP and SMAP.
unfoldable pub notable_text : Controls → List ℕ
notable_text c =
    control_text c.write_protect (codes "wp") ++ control_text c.smep (codes "smep")
    ++ control_text c.smap (codes "smap")

-- The text of the controls that no processor's note has: NXE and AC.
unfoldable pub other_text : Controls → List ℕ
other_text c = control_text c.no_execute (codes "nxe") ++ control_text c.ac (codes "ac")

-- The front of the text of controls: where they come from.
unfoldable pub controls_source_text : ControlsSource → List ℕ
controls_source_text source = codes " (" ++ source_name source ++ codes ":"

-- The text of controls: where they come from, those that a processor's note may have, and the others.
unfoldable pub controls_text : Controls → ControlsSource → List ℕ
controls_text c source =
    controls_source_text source ++ notable_text c ++ between_text source ++ other_text c ++ codes ")"

-- The text of an access: its name, what the processor does with it, and the controls that decide it.
abbrev pub access_text : Access → Controls → ControlsSource → Outcome → List ℕ
access_text a c source outcome = access_name a ++ outcome_text outcome ++ controls_text c source

-- ---- walks

-- The line of the access at position p that is requested, or nothing if none is.
abbrev pub asked_text : Controls → ControlsSource → Option Access → (L : ℕ) → Words → (root p : ℕ) → List ℕ
asked_text c source None L T root p = []
asked_text c source (Some a) L T root p = line (access_text a c source (outcome_in L T root p c a))

-- Whether the access at position p that is requested arrives, or the page walk if none is.
abbrev pub is_access_there : Controls → Option Access → (L : ℕ) → Words → (root p : ℕ) → Bool
is_access_there c None L T root p = is_some (page_walk L T root p)
is_access_there c (Some a) L T root p = is_arrived (outcome_in L T root p c a)
